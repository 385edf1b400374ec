-- Commands on open files, as their callers get them.
use Rattle.std.proofs.Common.{◌≡◌, ◌≢◌, ℕ, ◌≤◌, List, [], ◌∷◌, length, sym, refl, ap, ◌∙◌, subst, arith, Bool, true, false, Option, Some, None, Result, Err, inl, inr}
use Rattle.std.proofs.lemmas.Bool.{true≢false}
use Rattle.gl_base.specs.Count.{Rises}
use Rattle.gl_base.specs.declared.errno.Errno.{Errno}
use Rattle.gl_base.specs.declared.errno.Errno.TheVariants.{Full, Io, NoMemory}
use Rattle.gl_driver.specs.declared.map.Map.{Map}
use Rattle.gl_driver.specs.Told.{Told}
use Rattle.gl_base.specs.declared.op.Op.{Op}
use Rattle.gl_uapi.specs.Command.{command_of}
use Rattle.gl_uapi.specs.declared.commands.Command.{Command}
use Rattle.gl_uapi.specs.declared.commands.Command.TheVariants.{ChipInfo, LineInfo, Watch, Unwatch, GetLine, SetConfig, GetValues, SetValues}
use Rattle.gl_world.specs.Deeds.{entries_in}
use Rattle.gl_world.specs.History.{Answered, entry, fold}
use Rattle.gl_world.proofs.Histories.{answered_rest}
use Rattle.gl_core.specs.Kept.{Kept}
use Rattle.gl_model.specs.declared.call.Call.TheVariants.{Refused as RefusedCall}
use Rattle.gl_model.specs.declared.call.Part.TheVariants.{Whole}
use Rattle.gl_model.specs.declared.reply.Reply.{Reply}
use Rattle.gl_model.specs.declared.reply.Reply.TheVariants.{Refused}
use Rattle.gl_model.specs.Entries.{is_tell}
use Rattle.gl_model.specs.declared.device_call.CommandIn.{CommandIn}
use Rattle.gl_model.specs.declared.device_call.DeviceCall.TheVariants.{Commanding}
use Rattle.gl_model.specs.Parts.{MakesAt, MakesCommand, guard_of, in_whole, is_driver_asked}
use Rattle.gl_model.specs.Replies.{IoCause}
use Rattle.gl_model.specs.Step.{guard_reply}
use Rattle.gl_model.specs.World.{World}
use Rattle.gl_model.proofs.IoCauses.{io_has_cause}
use Rattle.gl_chip.specs.Answering.{WasLetIn}
use Rattle.gl_chip.specs.Called.{HasCalled, last_entry}
use Rattle.gl_chip.specs.DriverCommands.{CommandsOut, HasCommanded, IoComesOf, PortOf, is_asked}
use Rattle.gl_asking.specs.Results.{value_of}
use Rattle.gl_chip.specs.Steps.{FoundNoRoom}
use Rattle.gl_chip.specs.Values.{ActorValue, FollowsRelation, OneView, OwnRelation}
use Rattle.gl_core.specs.Device.{OneEntry, core}
use Rattle.gl_chip.proofs.CommandCalls.{not_gone_io}
use Rattle.gl_chip.proofs.WholeCalls.{called_not_full, called_not_memory, errno_in, errno_is_told, last_reply_is, reply_or}

-- EIO of a whole command
io_whole : (Counted : Type 0) (w : World) (place fd : ℕ) (command : Option Command) (bytes : List ℕ) → IoCause w place fd command bytes Whole → IoComesOf Counted w place fd command bytes
io_whole C w place fd None bytes h = h
io_whole C w place fd (Some ChipInfo) bytes h = h
io_whole C w place fd (Some LineInfo) bytes h = h
io_whole C w place fd (Some Watch) bytes h = h
io_whole C w place fd (Some Unwatch) bytes h = h
io_whole C w place fd (Some GetLine) bytes (inl e) = absurd (true≢false (sym (ap is_tell e)))
io_whole C w place fd (Some GetLine) bytes (inr h) = inr h
io_whole C w place fd (Some SetConfig) bytes (inl e) = absurd (true≢false (sym (ap is_tell e)))
io_whole C w place fd (Some SetConfig) bytes (inr h) = inr h
io_whole C w place fd (Some GetValues) bytes e = absurd (true≢false (sym (ap is_tell e)))
io_whole C w place fd (Some SetValues) bytes e = absurd (true≢false (sym (ap is_tell e)))

abbrev pub entry_or : OneEntry → Option OneEntry → OneEntry
entry_or d (Some e) = e
entry_or d None = d

-- the entries of a command for which the driver isn't asked, by whether its guard was closed
none_asked : (n : ℕ) (closed : Bool) (c : CommandIn) (answer : Option ℕ) (own made : List OneEntry) → is_driver_asked c.of_chip c.len (command_of c.cmd) ≡ false → MakesAt {M = Kept} n (guard_of (Commanding c)) closed (Commanding c) answer own made
    → is_asked made ≡ false
none_asked n true c answer own made not_asked makes = ap is_asked makes.0
none_asked n false c answer own made not_asked makes =
    let one = subst (λ asked. MakesCommand {M = Kept} n asked answer c own made) not_asked makes in ap is_asked one.0.1

-- what is true of the reply at the last entry, wherever EIO of a whole command comes from
io_made : (C : Type 0) (n : ℕ) (closed : Bool) (c : CommandIn) (answer : Option ℕ) (own made : List OneEntry) (w : World) (last : OneEntry) → is_driver_asked c.of_chip c.len (command_of c.cmd) ≡ false
    → MakesAt {M = Kept} n (guard_of (Commanding c)) closed (Commanding c) answer own made → last_entry made ≡ Some last → last.reply ≡ core.reply_of w last.actor last.call → last.reply ≡ Refused Io
    → IoComesOf C w c.place c.fd (command_of c.cmd) c.bytes
io_made C n true c answer own made w last not_asked makes is_last replied is = let e : OneEntry = entry n (RefusedCall c.place false) (guard_reply false) in
    let same : e ≡ last = ap (entry_or e) (sym (ap last_entry makes.0) ∙ is_last) in absurd (not_gone_io (ap (λ (x : OneEntry). x.reply) same ∙ is))
io_made C n false c answer own made w last not_asked makes is_last replied is =
    let one = subst (λ asked. MakesCommand {M = Kept} n asked answer c own made) not_asked makes in
    let e : OneEntry = entry n (in_whole c) one.0.0 in
    let same : e ≡ last = ap (entry_or e) (sym (ap last_entry one.0.1) ∙ is_last) in
    let told : core.reply_of w n (in_whole c) ≡ Refused Io = sym (subst (λ (x : OneEntry). x.reply ≡ core.reply_of w x.actor x.call) (sym same) replied) ∙ (ap (λ (x : OneEntry). x.reply) same ∙ is) in
    io_whole C w c.place c.fd (command_of c.cmd) c.bytes (io_has_cause w n c.place c.fd c.cmd c.len c.bytes Whole told)

-- the last entry of a call is answered as the machine answers there, and so is the call
pub called_last : (limit : ℕ) (v w : OneView) (c : CommandIn) (reply : Reply) (bytes : List ℕ) (called : HasCalled limit v (Commanding c) reply bytes w)
    → (called.last.last.reply ≡ core.reply_of (fold core called.last.at.0) called.last.last.actor called.last.last.call) × (called.last.last.reply ≡ reply)
called_last limit v w c reply bytes called = let l = called.last in (
  (answered_rest core core.opening l.at.0 (l.last ∷ []) (subst (λ s. Answered core s) l.at.1 called.legal.0)).0,
  ap (reply_or reply) (sym (last_reply_is (entries_in called.did) l.last l.is_last) ∙ called.reply_is),
)

module _ {P : Type 0} (told : P → Option Told) (faults : P → ℕ) (maps : P → List Map) (maps_left : P → ℕ) (Own : OwnRelation) (Follows : FollowsRelation) (limit : ℕ) where
  -- a command for which the driver isn't asked
  pub whole_commanded : (op : Option Op) (a b : ActorValue P) (c : CommandIn) (reply : Reply) (bytes : List ℕ) → is_driver_asked c.of_chip c.len (command_of c.cmd) ≡ false
      → HasCalled 0 a.pass.view (Commanding c) reply bytes b.pass.view → b.port ≡ a.port → HasCommanded told faults maps maps_left Own Follows limit op a c reply bytes b
  whole_commanded op a b c reply bytes not_asked called same = record {
    called = record {
      closed = called.closed;
      answer = called.answer;
      own = called.own;
      did = called.did;
      makes = called.makes;
      few_own = let few = called.few_own in omega arith;
      may_own = called.may_own;
      grew = called.grew;
      last = called.last;
      had_room = called.had_room;
      legal = called.legal;
      reply_is = called.reply_is;
      bytes_are = called.bytes_are;
      guard = called.guard;
      knows_as_much = called.knows_as_much;
    };
    port = subst (λ asked. PortOf told faults maps maps_left Own Follows limit asked op c.place called.answer called.own called.did a.pass.view.room (length called.last.at.0) a.port b.port)
        (sym (none_asked a.pass.view.number called.closed c called.answer called.own (entries_in called.did) not_asked called.makes.1)) same;
    never_falls = subst (λ x. faults a.port ≤ faults x) (sym same) (omega arith);
    io = λ is. let h = called_last 0 a.pass.view b.pass.view c reply bytes called in
        io_made (Rises (faults a.port) (faults b.port)) a.pass.view.number called.closed c called.answer called.own (entries_in called.did) (fold core called.last.at.0) called.last.last not_asked called.makes.1 called.last.is_last h.0 (h.1 ∙ is);
  }

  -- a command that was made comes out as its reply
  pub command_is_made : {X : Type 0} (value : Reply → X) (result : Result X Errno) (op : Option Op) (a b : ActorValue P) (c : CommandIn) (bytes : List ℕ) (reply : Reply) → result ≡ value_of value reply
      → HasCommanded told faults maps maps_left Own Follows limit op a c reply bytes b → CommandsOut told faults maps maps_left Own Follows limit (λ r. value_of value r) result op a c bytes b
  command_is_made value result op a b c bytes reply is did = inl record {
    reply = reply;
    result_is = is;
    not_full = λ full. called_not_full limit a.pass.view b.pass.view (Commanding c) reply bytes did.called (errno_is_told value Full reply (sym is ∙ full));
    not_memory = λ none. called_not_memory limit a.pass.view b.pass.view (Commanding c) reply bytes did.called (errno_is_told value NoMemory reply (sym is ∙ none));
    commanded = did;
  }

  -- and one for which the history had no room
  pub command_is_full : {X : Type 0} (value : Reply → X) (errno : Errno) (op : Option Op) (a b : ActorValue P) (c : CommandIn) → errno ≡ Full → FoundNoRoom core a.pass.view b.pass.view → b.port ≡ a.port
      → CommandsOut told faults maps maps_left Own Follows limit {X = X} (λ r. value_of value r) (Err errno) op a c [] b
  command_is_full value errno op a b c is full same = inr (ap Err is, full, same, refl)

-- a call that wasn't made

abbrev is_full : Errno → Bool
is_full Full = true
is_full _ = false

pub full_no_memory : (errno : Errno) → errno ≡ Full → errno ≡ NoMemory → ⊥
full_no_memory errno full memory = true≢false (ap is_full (sym full ∙ memory))

abbrev pub failed : (X : Type 0) → Errno → Result X Errno
failed X errno = Err errno

module _ {X : Type 0} where
  -- a full history is no want of memory
  pub full_not_wanted : (errno : Errno) → errno ≡ Full → failed X errno ≢ failed X NoMemory
  full_not_wanted errno full is = full_no_memory errno full (ap (λ (r : Result X Errno). errno_in r) is)

  -- where the history was full, or memory was wanted, the machine wasn't asked
  pub full_not_let_in : (errno : Errno) → errno ≡ Full → WasLetIn (failed X errno) → ⊥
  full_not_let_in errno full let_in = let_in.1 (ap (λ e. failed X e) full)

  pub wanted_not_let_in : (errno : Errno) → errno ≡ NoMemory → WasLetIn (failed X errno) → ⊥
  wanted_not_let_in errno wanted let_in = let_in.0 (ap (λ e. failed X e) wanted)
