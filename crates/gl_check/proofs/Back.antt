-- Deeds that a talk passes through to its end are those of the talk, carried out.
use Rattle.std.proofs.Common.{◌≡◌, ℕ, Bool, true, false, List, [], ◌∷◌, ◌++◌, Option, None, Some, refl, sym, ap, ◌∙◌, subst, arith}
use Rattle.std.specs.Prelude.{if◌then◌else◌, is_some}
use Rattle.std.proofs.lemmas.Bool.{false≢true, true≢false}
use Rattle.std.proofs.lemmas.List.{append_assoc, append-nil}
use Rattle.gl_base.specs.Planned.{bits_for}
use Rattle.gl_base.specs.declared.op.Op.{Op}
use Rattle.gl_base.specs.declared.operation.Do.{Do}
use Rattle.gl_base.specs.declared.operation.Got.{Got}
use Rattle.gl_uapi.specs.Command.{command_of}
use Rattle.gl_client.specs.Program.{Left, Program, ask, done, given, goes_on, print, waits}
use Rattle.gl_world.specs.History.{entry}
use Rattle.gl_driver.specs.Told.{PortAfter, Told, with_bits, with_call, with_plan}
use Rattle.gl_model.specs.Entries.{begins, guarded_place, last_call}
use Rattle.gl_model.specs.Machine.{reply_of}
use Rattle.gl_model.specs.Parts.{MakesAt, MakesCommand, MakesInside, MakesRest, device_has, first_call, guard_of, in_ask, in_tell, in_whole, is_driver_asked, is_poll}
use Rattle.gl_model.specs.World.{World}
use Rattle.gl_model.specs.declared.call.Call.{Call}
use Rattle.gl_model.specs.declared.call.Call.TheVariants.{Probe, Unplug, MakeDir, RemoveDir, Write, Read, Live, Remove, Tick, Pin, Irq, Pull, Level, Interrupt, OpenChip, Find, Ioctl, ReadEdges, ReadInfo, PollLine, PollChip, Close, Refused as RefusedCall}
use Rattle.gl_model.specs.declared.device_call.DeviceCall.{DeviceCall}
use Rattle.gl_model.specs.declared.device_call.DeviceCall.TheVariants.{Once, Removing, Commanding}
use Rattle.gl_model.specs.declared.device_call.RemovalOf.{RemovalOf}
use Rattle.gl_model.specs.declared.device_call.RemovalOf.TheVariants.{OfChip, OfDevice}
use Rattle.gl_model.specs.declared.reply.Reply.{Reply}
use Rattle.gl_model.specs.declared.reply.Reply.TheVariants.{Done, Refused}
use Rattle.gl_talk.specs.Open.{Names}
use Rattle.gl_core.specs.Device.{OneDeed, OneEntry, call_tells, tells_in}
use Rattle.gl_asking.specs.declared.kinds.Asking.{Asking}
use Rattle.gl_asking.specs.declared.kinds.Asking.TheVariants.{Calls, Plans, Accepts, Refuses}
use Rattle.gl_asking.specs.Asking.{asking, files_behind, got_of}
use Rattle.gl_asking.specs.Driving.{applies, op_asked}
use Rattle.gl_check.specs.One.{PlannedPort}
use Rattle.gl_check.specs.Ports.{next_answer}
use Rattle.gl_check.specs.Seats.{Bearing, IsRefusedAt, Passes, Seat, SuitsFirst, SuitsStand, answers, called, first_inside, goes_by, is_ended, is_refusal, moved, moved_by, seat, second_of, settles}
use Rattle.gl_check.specs.Drivers.{plain, planning}
use Rattle.gl_check.specs.Joining.{Maps, asking_with, maps_behind, no_maps}
use Rattle.gl_check.specs.Turns.{AreWithin, Carried, Did, Exchange, Follows, HasMade, IsDone, Played, Said, Takes, Turn, did_by, map_of, said_by}
use Rattle.gl_check.specs.declared.stand.Stand.{Stand}
use Rattle.gl_check.specs.declared.stand.Stand.TheVariants.{Ended, Before, Between}
use Rattle.gl_check.proofs.Asked.{port_asked, single_is}
use Rattle.gl_check.proofs.Joined.{asking_plainly, no_maps_behind}
use Rattle.gl_check.proofs.Operations.{AsksOp, HasBits, asks_op, has_bits, has_call}
use Rattle.gl_check.proofs.Order.{AreOf}
use Rattle.gl_check.proofs.Through.{BitsBy, IsTold, accepted_port, bearing_by, called_port, files_of, guard_is, of_asked, planned_port, planned_told, poll_is, port_by, told_by_bits, told_by_call, told_by_plan}

-- an entry is its parts
entry_is : (n : ℕ) (e : OneEntry) (call : Call) → e.actor ≡ n → e.call ≡ call → e ≡ entry n call e.reply
entry_is n e call by is = λ i. record { actor = by i; call = is i; reply = e.reply }

said_append : (xs ys : List Turn) → said_by (xs ++ ys) ≡ said_by xs ++ said_by ys
said_append [] ys = refl
said_append (Said text ∷ xs) ys = ap (λ l. text ++ l) (said_append xs ys) ∙ sym (append_assoc text (said_by xs) (said_by ys))
said_append (Did e ∷ xs) ys = said_append xs ys

did_append : (xs ys : List Turn) → did_by (xs ++ ys) ≡ did_by xs ++ did_by ys
did_append [] ys = refl
did_append (Said text ∷ xs) ys = did_append xs ys
did_append (Did e ∷ xs) ys = ap (λ l. e.did ++ l) (did_append xs ys) ∙ sym (append_assoc e.did (did_by xs) (did_by ys))

abbrev nothing : List OneEntry
nothing = []

abbrev exchange : Do → Bool → Option ℕ → List OneDeed → Reply → List ℕ → Exchange
exchange what closed answer did reply wrote = record { what = what; mapped = false; closed = closed; answer = answer; own = []; room = 0; seen = 0; did = did; reply = reply; wrote = wrote }

-- the files stay after the second entry
pub same_files : (next : Call) (b : Bearing) → b.files ≡ (called next b).files
same_files (Probe label lines kind) b = refl
same_files (Unplug place last) b = refl
same_files (MakeDir path) b = refl
same_files (RemoveDir path) b = refl
same_files (Write path value) b = refl
same_files (Read path) b = refl
same_files (Live device) b = refl
same_files (Remove device last) b = refl
same_files (Tick mono real) b = refl
same_files (Pin place what) b = refl
same_files (Irq place offset what) b = refl
same_files (Pull place offset up) b = refl
same_files (Level place offset pull) b = refl
same_files (Interrupt place offset up) b = refl
same_files (OpenChip word) b = refl
same_files (Find place name) b = refl
same_files (Ioctl place fd cmd len bytes part) b = refl
same_files (ReadEdges place fd len) b = refl
same_files (ReadInfo place fd len) b = refl
same_files (PollLine place fd) b = refl
same_files (PollChip place fd) b = refl
same_files (Close fd) b = refl
same_files (RefusedCall place poll) b = refl

module _ (n : ℕ) where
  pub follows_on : (xs : List Turn) (ys : List Turn) (p q u : Program Names) (s r c : Carried) → Follows (planning plain) n p s xs q r → Follows (planning plain) n q r ys u c → Follows (planning plain) n p s (xs ++ ys) u c
  follows_on [] ys p q u s r c first later = subst (λ (p : Program Names). Follows (planning plain) n p s ys u c) (sym first.0) (subst (λ (s : Carried). Follows (planning plain) n q s ys u c) (sym first.1) later)
  follows_on (turn ∷ xs) ys p q u s r c first later = (first.0, first.1, first.2, follows_on xs ys first.0 q u first.1 r c first.3 later)

  -- an answer as the machine gave it in some world
  abbrev Answered : OneEntry → Type 0
  Answered e = (w : World) × (e.reply ≡ reply_of w n e.call)

  -- the two entries of a call, and what becomes of the port
  pub record TwoMade (call : DeviceCall) (next : Call) (op : Option Op) (e f : OneEntry) (r : Carried) : Type 0 where
    pub answer : Option ℕ
    pub told : Option Told
    pub makes : MakesInside n call answer [] (e ∷ f ∷ [])
    pub port : PortAfter true op (tells_in (e ∷ f ∷ [])) r.told told
    pub is_told : IsTold told
    pub bearing : port_by told ≡ (called next (bearing_by r)).port

  removal_made : (removal : RemovalOf) (op : Option Op) (e f : OneEntry) (r : Carried) → e.actor ≡ n → f.actor ≡ n → IsTold r.told
      → call_tells (first_call removal) ≡ [] → call_tells (last_call (first_call removal)) ≡ []
      → ((port : PlannedPort) → second_of (first_call removal) port ≡ last_call (first_call removal)) → ((b : Bearing) → called (first_call removal) b ≡ b)
      → e.call ≡ first_call removal → begins e.call e.reply ≡ true → f.call ≡ second_of (first_call removal) (port_by r.told) → TwoMade (Removing removal) (first_call removal) op e f r
  removal_made removal op e f r by by_f told silent silent_too last counts is goes second =
      let second_is : f.call ≡ last_call (first_call removal) = second ∙ last (port_by r.told) in record {
        answer = None;
        told = r.told;
        makes = (
          (
            e.reply,
            f ∷ [],
            ap (λ e. e ∷ f ∷ []) (entry_is n e (first_call removal) by is),
            subst (λ b. MakesRest n b (last_call (first_call removal)) [] (f ∷ [])) (sym (sym (ap (λ c. begins c e.reply) is) ∙ goes)) (f.reply, ap (λ f. f ∷ []) (entry_is n f (last_call (first_call removal)) by_f second_is)),
          ),
          refl,
        );
        port = subst (λ (l : List (Option ℕ)). PortAfter true op l r.told r.told) (λ i. sym (ap call_tells is ∙ silent) i ++ (sym (ap call_tells second_is ∙ silent_too) i ++ [])) refl;
        is_told = told;
        bearing = ap (λ (b : Bearing). b.port) (sym (counts (bearing_by r)));
      }

  two_made : (call : DeviceCall) (op : Option Op) (e f : OneEntry) (r : Carried) → e.actor ≡ n → f.actor ≡ n → IsTold r.told → device_has call ≡ true → AsksOp n op call → HasBits op call → Answered e → e.call ≡ first_inside call → begins e.call e.reply ≡ true
      → f.call ≡ second_of (first_inside call) (port_by r.told) → TwoMade call (first_inside call) op e f r
  two_made (Once call) op e f r by by_f told is_there asks bits answered is goes second =
      absurd (false≢true (sym ((single_is call is_there).never e.reply) ∙ ap (λ c. begins c e.reply) (sym is) ∙ goes))
  two_made (Removing (OfChip place)) op e f r by by_f told is_there asks bits answered is goes second =
      removal_made (OfChip place) op e f r by by_f told refl refl (λ port. refl) (λ b. refl) is goes second
  two_made (Removing (OfDevice device)) op e f r by by_f told is_there asks bits answered is goes second =
      removal_made (OfDevice device) op e f r by by_f told refl refl (λ port. refl) (λ b. refl) is goes second
  two_made (Commanding c) op e f r by by_f told is_there asks bits answered is goes second = on (is_driver_asked c.of_chip c.len (command_of c.cmd)) refl is second
    where
      on : (b : Bool) → is_driver_asked c.of_chip c.len (command_of c.cmd) ≡ b → e.call ≡ (if b then in_ask c else in_whole c) → f.call ≡ second_of (if b then in_ask c else in_whole c) (port_by r.told)
          → TwoMade (Commanding c) (if b then in_ask c else in_whole c) op e f r
      on false driven is second = absurd (false≢true (sym (ap (λ c. begins c e.reply) is) ∙ goes))
      on true driven is second =
          let o = asks driven answered.0 e.reply (answered.1 ∙ ap (λ call. reply_of answered.0 n call) is) (sym (ap (λ c. begins c e.reply) is) ∙ goes) in
          let configures : Bool = applies (command_of c.cmd) in
          let same : BitsBy o.0 configures = λ accepted. of_asked op o.0 (λ o. bits_for o accepted ≡ (if configures then accepted else 0)) o.1 (bits accepted) in
          let a : Option ℕ = next_answer configures (port_by r.told) in record {
            answer = a;
            told = with_call o.0 a r.told;
            makes = subst (λ b. MakesCommand n b a c [] (e ∷ f ∷ [])) (sym driven) (
              e.reply,
              f ∷ [],
              ap (λ e. e ∷ f ∷ []) (entry_is n e (in_ask c) by is),
              subst (λ b. MakesRest n b (in_tell a c) [] (f ∷ [])) (sym (sym (ap (λ c. begins c e.reply) is) ∙ goes))
                  (f.reply, ap (λ f. f ∷ []) (entry_is n f (in_tell a c) by_f second)),
            );
            port = subst (λ (l : List (Option ℕ)). PortAfter true op l r.told (with_call o.0 a r.told)) (λ i. call_tells (sym is i) ++ (call_tells (sym second i) ++ []))
                (o.0, o.1, refl, λ _. planned_told o.0 configures r.told told same);
            is_told = told_by_call o.0 a r.told told;
            bearing = called_port o.0 a r.told told;
          }

  -- one entry of a call behind its open guard
  inside_one : (call : DeviceCall) (e : OneEntry) → e.actor ≡ n → device_has call ≡ true → e.call ≡ first_inside call → begins e.call e.reply ≡ false → MakesInside n call None [] (e ∷ []) × (call_tells e.call ≡ [])
  inside_one (Once call) e by is_there is never = (((e.reply, ap (λ e. e ∷ []) (entry_is n e call by is)), refl), ap call_tells is ∙ (single_is call is_there).silent)
  inside_one (Removing (OfChip place)) e by is_there is never = (
    (
      (
        e.reply,
        [],
        ap (λ e. e ∷ []) (entry_is n e (first_call (OfChip place)) by is),
        subst (λ b. MakesRest n b (last_call (first_call (OfChip place))) nothing nothing) (sym (sym (ap (λ c. begins c e.reply) is) ∙ never)) (refl, refl),
      ),
      refl,
    ),
    ap call_tells is,
  )
  inside_one (Removing (OfDevice device)) e by is_there is never = (
    (
      (
        e.reply,
        [],
        ap (λ e. e ∷ []) (entry_is n e (first_call (OfDevice device)) by is),
        subst (λ b. MakesRest n b (last_call (first_call (OfDevice device))) nothing nothing) (sym (sym (ap (λ c. begins c e.reply) is) ∙ never)) (refl, refl),
      ),
      refl,
    ),
    ap call_tells is,
  )
  inside_one (Commanding c) e by is_there is never = on (is_driver_asked c.of_chip c.len (command_of c.cmd)) is
    where
      on : (b : Bool) → e.call ≡ (if b then in_ask c else in_whole c) → MakesCommand n b None c [] (e ∷ []) × (call_tells e.call ≡ [])
      on false is = (((e.reply, ap (λ e. e ∷ []) (entry_is n e (in_whole c) by is)), refl), ap call_tells is)
      on true is = (
        (
          e.reply,
          [],
          ap (λ e. e ∷ []) (entry_is n e (in_ask c) by is),
          subst (λ b. MakesRest n b (in_tell None c) nothing nothing) (sym (sym (ap (λ c. begins c e.reply) is) ∙ never)) (refl, refl),
        ),
        ap call_tells is,
      )

  -- the entry of a closed guard
  refused_one : (call : DeviceCall) (e : OneEntry) → e.actor ≡ n → IsRefusedAt (guard_of call) (is_poll call) e → MakesAt n (guard_of call) true call None [] (e ∷ []) × (call_tells e.call ≡ []) × (begins e.call e.reply ≡ false)
  refused_one call e by refused = on (guard_of call) refused
    where
      on : (guard : Option ℕ) → IsRefusedAt guard (is_poll call) e → MakesAt n guard true call None [] (e ∷ []) × (call_tells e.call ≡ []) × (begins e.call e.reply ≡ false)
      on None h = absurd h
      on (Some place) h = (
        (ap (λ e. e ∷ []) (entry_is n e (RefusedCall place (is_poll call)) by h.0 ∙ ap (entry n (RefusedCall place (is_poll call))) h.1), refl),
        ap call_tells h.0,
        ap (λ c. begins c e.reply) h.0,
      )

  open_one : (call : DeviceCall) (es : List OneEntry) (answer : Option ℕ) → MakesInside n call answer [] es → MakesAt n (guard_of call) false call answer [] es
  open_one call es answer m = on (guard_of call)
    where
      on : (guard : Option ℕ) → MakesAt n guard false call answer [] es
      on None = m
      on (Some place) = m

  -- over a port that takes no maps an operation goes by the files alone, leaves it so, and no driver goes by a map
  plainly : (r : Carried) (what : Do) → r.maps ≡ no_maps 0 → asking_with r.maps r.files what ≡ asking r.files what
  plainly r what bare = ap (λ (m : Maps). asking_with m r.files what) bare ∙ asking_plainly r.files what

  stays : (r : Carried) (what : Do) (reply : Reply) → r.maps ≡ no_maps 0 → maps_behind what reply r.files r.maps ≡ r.maps
  stays r what reply bare = ap (λ (m : Maps). maps_behind what reply r.files m) bare ∙ no_maps_behind what reply r.files ∙ sym bare

  unmapped_at : (call : DeviceCall) (m : Maps) → m ≡ no_maps 0 → map_of (planning plain) m call ≡ None
  unmapped_at (Once call) m bare = refl
  unmapped_at (Removing removal) m bare = refl
  unmapped_at (Commanding c) m bare = refl

  within_append : (room : ℕ) (first later : List Turn) → AreWithin room first → AreWithin room later → AreWithin room (first ++ later)
  within_append room [] later h k = k
  within_append room (Said text ∷ first) later h k = within_append room first later h k
  within_append room (Did e ∷ first) later h k = (h.0, within_append room first later h.1 k)

  module _ (p : Program Names) (s : Carried) where
    -- the talk went on to here, with this text and these deeds
    pub record Reached (did : List OneDeed) (q : Program Names) (r : Carried) (text : List ℕ) : Type 0 where
      pub turns : List Turn
      pub follows : Follows (planning plain) n p s turns q r
      pub text_is : text ≡ said_by turns
      pub did_is : did ≡ did_by turns
      pub told : IsTold r.told
      pub bare : r.maps ≡ no_maps 0
      -- no driver goes by a map, so whatever room there is
      pub within : (room : ℕ) → AreWithin room turns

    -- a turn more
    one_more : (did more : List OneDeed) (q u : Program Names) (r c : Carried) (text : List ℕ) (turn : Turn) → Takes (planning plain) n q r turn u c → did_by (turn ∷ []) ≡ more → IsTold c.told → c.maps ≡ no_maps 0
        → ((room : ℕ) → AreWithin room (turn ∷ [])) → Reached did q r text → Reached (did ++ more) u c (text ++ said_by (turn ∷ []))
    one_more did more q u r c text turn takes is told bare within so_far = record {
      turns = so_far.turns ++ turn ∷ [];
      follows = follows_on so_far.turns (turn ∷ []) p q u s r c so_far.follows (u, c, takes, (refl, refl));
      text_is = ap (λ l. l ++ said_by (turn ∷ [])) so_far.text_is ∙ sym (said_append so_far.turns (turn ∷ []));
      did_is = (λ i. so_far.did_is i ++ sym is i) ∙ sym (did_append so_far.turns (turn ∷ []));
      told = told;
      bare = bare;
      within = λ room. within_append room so_far.turns (turn ∷ []) (so_far.within room) (within room);
    }

    -- Before a call, between its two entries, and at the end: what is known of an actor with these deeds.
    pub record AtCall (did : List OneDeed) (what : Do) (next : Call) (left : Left Names) (b : Bearing) (text : List ℕ) : Type 0 where
      pub rest : Got → Program Names
      pub left_is : left ≡ waits rest
      pub carried : Carried
      pub so_far : Reached did (ask what rest) carried text
      pub call : DeviceCall
      pub calls : asking carried.files what ≡ Calls call
      pub next_is : next ≡ first_inside call
      pub bearing : bearing_by carried ≡ b

    pub record InCall (did : List OneDeed) (what : Do) (next : Call) (left : Left Names) (b : Bearing) (text : List ℕ) : Type 0 where
      pub earlier : List OneDeed
      pub first : OneDeed
      pub did_is : did ≡ earlier ++ first ∷ []
      pub at : AtCall earlier what next left b text
      pub by_actor : first.entry.actor ≡ n
      pub answered : Answered first.entry
      pub inside : first.entry.call ≡ next
      pub goes : begins first.entry.call first.entry.reply ≡ true

    pub record AtEnd (did : List OneDeed) (left : Left Names) (b : Bearing) (text : List ℕ) : Type 0 where
      pub value : Names
      pub left_is : left ≡ goes_on (done value)
      pub carried : Carried
      pub so_far : Reached did (done value) carried text
      pub bearing : bearing_by carried ≡ b

    abbrev pub IsAt : List OneDeed → Stand → Left Names → Bearing → List ℕ → Type 0
    IsAt did Ended left b text = AtEnd did left b text
    IsAt did (Before what next) left b text = AtCall did what next left b text
    IsAt did (Between what next) left b text = InCall did what next left b text

    abbrev pub IsSeat : List OneDeed → Seat → Type 0
    IsSeat did a = IsAt did a.stand a.left a.bearing a.text

    -- an operation without a call of the device is carried out
    nothing_done : (did : List OneDeed) (what : Do) (rest : Got → Program Names) (reply : Reply) (r c : Carried) (text : List ℕ)
        → IsDone (planning plain) n r.maps (asking r.files what) (op_asked r.files what) (exchange what false None [] reply []) r.told c.told
        → c.files ≡ files_behind what reply r.files → c.maps ≡ r.maps → IsTold c.told → Reached did (ask what rest) r text → Reached did (rest (got_of what reply [])) c text
    nothing_done did what rest reply r c text is files maps told so_far =
        let done_so : IsDone (planning plain) n r.maps (asking_with r.maps r.files what) (op_asked r.files what) (exchange what false None [] reply []) r.told c.told
        = subst (λ (a : Asking). IsDone (planning plain) n r.maps a (op_asked r.files what) (exchange what false None [] reply []) r.told c.told) (sym (plainly r what so_far.bare)) is in
        let more : Reached (did ++ []) (rest (got_of what reply [])) c (text ++ [])
        = one_more did [] (ask what rest) (rest (got_of what reply [])) r c text (Did (exchange what false None [] reply [])) (rest, refl, refl, record { is_done = done_so; files = files; maps = maps ∙ sym (stays r what reply so_far.bare) }) refl told (maps ∙ so_far.bare) (λ room. (tt, tt)) so_far in
        let one : Reached did (rest (got_of what reply [])) c (text ++ []) = subst (λ (l : List OneDeed). Reached l (rest (got_of what reply [])) c (text ++ [])) (append-nil did) more in
        subst (λ l. Reached did (rest (got_of what reply [])) c l) (append-nil text) one

    -- what a program does until its next call of the device
    at_settled : (did : List OneDeed) (q : Program Names) (r : Carried) (text : List ℕ) → Reached did q r text → IsSeat did (settles q (bearing_by r) text)
    at_settled did (done value) r text so_far = record { value = value; left_is = refl; carried = r; so_far = so_far; bearing = refl }
    at_settled did (print more q) r text so_far = at_settled did q r (text ++ more)
        (subst (λ l. Reached did q r (text ++ l)) (append-nil more)
        (subst (λ (l : List OneDeed). Reached l q r (text ++ (more ++ []))) (append-nil did) (one_more did [] (print more q) q r r text (Said more) (refl, refl) refl so_far.told so_far.bare (λ room. tt) so_far)))
    at_settled did (ask what rest) r text so_far = by (asking r.files what) refl (λ got c more. at_settled did (rest got) c text more)
      where
        by : (a : Asking) → asking r.files what ≡ a → ((got : Got) (c : Carried) → Reached did (rest got) c text → IsSeat did (settles (rest got) (bearing_by c) text))
            → IsSeat did (goes_by a what (waits rest) (bearing_by r) text (λ got later. settles (rest got) later text))
        by (Calls call) is later = record { rest = rest; left_is = refl; carried = r; so_far = so_far; call = call; calls = is; next_is = refl; bearing = refl }
        by (Plans nth) is later =
            let c : Carried = record { files = files_behind what Done r.files; maps = r.maps; told = with_plan nth r.told } in
            let done_so : IsDone (planning plain) n r.maps (asking r.files what) (op_asked r.files what) (exchange what false None [] Done []) r.told c.told
            = subst (λ a. IsDone (planning plain) n r.maps a (op_asked r.files what) (exchange what false None [] Done []) r.told c.told) (sym is) (record { did = refl; reply_is = refl; bytes_are = refl }, refl) in
            subst (λ (port : PlannedPort). IsSeat did (settles (rest (got_of what Done [])) (record { files = files_behind what Done r.files; port = port }) text)) (planned_port nth r.told so_far.told)
            (later (got_of what Done []) c (nothing_done did what rest Done r c text done_so refl refl (told_by_plan nth r.told so_far.told) so_far))
        by (Accepts bits) is later =
            let c : Carried = record { files = files_behind what Done r.files; maps = r.maps; told = with_bits bits r.told } in
            let done_so : IsDone (planning plain) n r.maps (asking r.files what) (op_asked r.files what) (exchange what false None [] Done []) r.told c.told
            = subst (λ a. IsDone (planning plain) n r.maps a (op_asked r.files what) (exchange what false None [] Done []) r.told c.told) (sym is) (record { did = refl; reply_is = refl; bytes_are = refl }, refl) in
            subst (λ (port : PlannedPort). IsSeat did (settles (rest (got_of what Done [])) (record { files = files_behind what Done r.files; port = port }) text)) (accepted_port bits r.told so_far.told)
            (later (got_of what Done []) c (nothing_done did what rest Done r c text done_so refl refl (told_by_bits bits r.told so_far.told) so_far))
        by (Refuses errno) is later =
            let c : Carried = record { files = files_behind what (Refused errno) r.files; maps = r.maps; told = r.told } in
            let done_so : IsDone (planning plain) n r.maps (asking r.files what) (op_asked r.files what) (exchange what false None [] (Refused errno) []) r.told c.told
            = subst (λ a. IsDone (planning plain) n r.maps a (op_asked r.files what) (exchange what false None [] (Refused errno) []) r.told c.told) (sym is) (record { did = refl; reply_is = refl; bytes_are = refl }, refl) in
            later (got_of what (Refused errno) []) c (nothing_done did what rest (Refused errno) r c text done_so refl refl so_far.told so_far)

    -- a call of the device was made whole: the talk goes on after it
    call_done : (did made : List OneDeed) (what : Do) (next : Call) (left : Left Names) (b c : Bearing) (text : List ℕ) (at : AtCall did what next left b text) (shut : Bool) (answer : Option ℕ) (reply : Reply) (wrote : List ℕ) (told : Option Told)
        → IsTold told → HasMade (planning plain) n at.carried.maps at.call (op_asked at.carried.files what) (exchange what shut answer made reply wrote) at.carried.told told
        → bearing_by (record { files = files_behind what reply at.carried.files; maps = at.carried.maps; told = told }) ≡ c
        → IsSeat (did ++ made) (settles (given left (Some (got_of what reply wrote))) c text)
    call_done did made what next left b c text at shut answer reply wrote told is_told has_made bearing =
        let r : Carried = at.carried in
        let rest : Got → Program Names = at.rest in
        let e : Exchange = exchange what shut answer made reply wrote in
        let t : Carried = record { files = files_behind what reply r.files; maps = r.maps; told = told } in
        let done_so : IsDone (planning plain) n r.maps (asking_with r.maps r.files what) (op_asked r.files what) e r.told told
        = subst (λ a. IsDone (planning plain) n r.maps a (op_asked r.files what) e r.told told) (sym (plainly r what at.so_far.bare ∙ at.calls)) has_made in
        let takes : Takes (planning plain) n (ask what rest) r (Did e) (rest (got_of what reply wrote)) t = (rest, refl, refl, record { is_done = done_so; files = refl; maps = sym (stays r what reply at.so_far.bare) }) in
        let more : Reached (did ++ made) (rest (got_of what reply wrote)) t (text ++ [])
        = one_more did made (ask what rest) (rest (got_of what reply wrote)) r t text (Did e) takes (append-nil made) is_told at.so_far.bare (λ room. (tt, tt)) at.so_far in
        subst (λ (l : Left Names). IsSeat (did ++ made) (settles (given l (Some (got_of what reply wrote))) c text)) (sym at.left_is)
        (subst (λ (b : Bearing). IsSeat (did ++ made) (settles (rest (got_of what reply wrote)) b text)) bearing
        (at_settled (did ++ made) (rest (got_of what reply wrote)) t text (subst (λ l. Reached (did ++ made) (rest (got_of what reply wrote)) t l) (append-nil text) more)))

    -- the answer of a call that was made at one entry
    one_made : (did : List OneDeed) (what : Do) (next : Call) (left : Left Names) (b : Bearing) (text : List ℕ) (d : OneDeed) (shut : Bool) (at : AtCall did what next left b text)
        → MakesAt n (guard_of at.call) shut at.call None [] (d.entry ∷ []) → call_tells d.entry.call ≡ [] → IsSeat (did ++ d ∷ []) (answers what left b text d)
    one_made did what next left b text d shut at makes silent =
        call_done did (d ∷ []) what next left b (files_of what d.entry.reply b) text at shut None d.entry.reply d.bytes at.carried.told at.so_far.told
        (record {
          mapped_is = ap is_some (sym (unmapped_at at.call at.carried.maps at.so_far.bare));
          makes = (has_call at.carried.files what at.call at.calls, makes);
          few_own = omega arith;
          may_own = record { quiet = tt; no_claims = tt };
          reply_is = refl;
          bytes_are = refl;
          port = port_asked (planning plain) n (op_asked at.carried.files what) (exchange what shut None (d ∷ []) d.entry.reply d.bytes) at.carried.told at.carried.told at.carried.maps (ap (λ (m : Maps). m.kept) at.so_far.bare) at.call refl
              (has_call at.carried.files what at.call at.calls, makes)
              (subst (λ (l : List (Option ℕ)). PortAfter true (op_asked at.carried.files what) (l ++ []) at.carried.told at.carried.told) (sym silent) refl);
        })
        (λ i. files_of what d.entry.reply (at.bearing i))

    first_moved : (did : List OneDeed) (what : Do) (next : Call) (left : Left Names) (b : Bearing) (text : List ℕ) (d : OneDeed) → d.entry.actor ≡ n → Answered d.entry → AtCall did what next left b text
        → SuitsFirst (is_refusal d.entry.call) next d.entry → IsSeat (did ++ d ∷ []) (moved_by (Before what next) left b text d)
    first_moved did what next left b text d by answered at suits = on (is_refusal d.entry.call) suits (begins d.entry.call d.entry.reply) refl
      where
        refused_is : IsRefusedAt (guarded_place next) (is_poll (Once next)) d.entry → IsRefusedAt (guard_of at.call) (is_poll at.call) d.entry
        refused_is h = subst (λ (x : Option ℕ × Bool). IsRefusedAt x.0 x.1 d.entry) (λ i. ((ap guarded_place at.next_is ∙ sym (guard_is at.call)) i, (ap (λ c. is_poll (Once c)) at.next_is ∙ sym (poll_is at.call)) i)) h

        on : (shut : Bool) → SuitsFirst shut next d.entry → (goes : Bool) → begins d.entry.call d.entry.reply ≡ goes
            → IsSeat (did ++ d ∷ []) (if goes then seat (Between what next) left b text else answers what left b text d)
        on true h true goes = absurd (true≢false (sym goes ∙ (refused_one at.call d.entry by (refused_is h)).2))
        on true h false never = let s = refused_one at.call d.entry by (refused_is h) in one_made did what next left b text d true at s.0 s.1
        on false h true goes = record { earlier = did; first = d; did_is = refl; at = at; by_actor = by; answered = answered; inside = h; goes = goes }
        on false h false never = let o = inside_one at.call d.entry by (has_call at.carried.files what at.call at.calls) (h ∙ at.next_is) never in
            one_made did what next left b text d false at (open_one at.call (d.entry ∷ []) None o.0) o.1

    second_moved : (did : List OneDeed) (what : Do) (next : Call) (left : Left Names) (b : Bearing) (text : List ℕ) (d : OneDeed) → d.entry.actor ≡ n → InCall did what next left b text
        → d.entry.call ≡ second_of next b.port → IsSeat (did ++ d ∷ []) (answers what left (called next b) text d)
    second_moved did what next left b text d by at suits =
        let r : Carried = at.at.carried in
        let call : DeviceCall = at.at.call in
        let op : Option Op = op_asked r.files what in
        let is_there = has_call r.files what call at.at.calls in
        let two : TwoMade call next op at.first.entry d.entry r = subst (λ f. TwoMade call f op at.first.entry d.entry r) (sym at.at.next_is)
        (two_made call op at.first.entry d.entry r at.by_actor by at.at.so_far.told is_there (asks_op n r.files what call at.at.calls) (has_bits r.files what call at.at.calls) at.answered (at.inside ∙ at.at.next_is) at.goes
        (suits ∙ (λ i. second_of (at.at.next_is i) (sym at.at.bearing i).port))) in
        let whole : IsSeat (at.earlier ++ (at.first ∷ d ∷ [])) (answers what left (called next b) text d)
        = call_done at.earlier (at.first ∷ d ∷ []) what next left b (files_of what d.entry.reply (called next b)) text at.at false two.answer d.entry.reply d.bytes two.told two.is_told
        (record {
          mapped_is = ap is_some (sym (unmapped_at call r.maps at.at.so_far.bare));
          makes = (is_there, open_one call (at.first.entry ∷ d.entry ∷ []) two.answer two.makes);
          few_own = omega arith;
          may_own = record { quiet = tt; no_claims = tt };
          reply_is = refl;
          bytes_are = refl;
          port = port_asked (planning plain) n op (exchange what false two.answer (at.first ∷ d ∷ []) d.entry.reply d.bytes) r.told two.told r.maps (ap (λ (m : Maps). m.kept) at.at.so_far.bare) call refl
              (is_there, open_one call (at.first.entry ∷ d.entry ∷ []) two.answer two.makes) two.port;
        })
        ((λ i. record { files = files_behind what d.entry.reply (same_files next (bearing_by r) i); port = two.bearing i }) ∙ ap (λ (b : Bearing). files_of what d.entry.reply (called next b)) at.at.bearing) in
        subst (λ (l : List OneDeed). IsSeat l (answers what left (called next b) text d)) (sym (append_assoc at.earlier (at.first ∷ []) (d ∷ [])) ∙ ap (λ (l : List OneDeed). l ++ d ∷ []) (sym at.did_is)) whole

    -- a deed that suits, and what is known after it
    moved_at : (did : List OneDeed) (stand : Stand) (left : Left Names) (b : Bearing) (text : List ℕ) (d : OneDeed) → d.entry.actor ≡ n → Answered d.entry → IsAt did stand left b text → SuitsStand stand b.port d.entry
        → IsSeat (did ++ d ∷ []) (moved_by stand left b text d)
    moved_at did Ended left b text d by answered at suits = absurd suits
    moved_at did (Before what next) left b text d by answered at suits = first_moved did what next left b text d by answered at suits
    moved_at did (Between what next) left b text d by answered at suits = second_moved did what next left b text d by at suits

    passed_at : (did ds : List OneDeed) (a b : Seat) → AreOf n ds → IsSeat did a → Passes a ds b → IsSeat (did ++ ds) b
    passed_at did [] a b of at passes = subst (λ (l : List OneDeed). IsSeat l b) (sym (append-nil did)) (subst (λ (a : Seat). IsSeat did a) passes at)
    passed_at did (d ∷ ds) a b of at passes = subst (λ (l : List OneDeed). IsSeat l b) (append_assoc did (d ∷ []) ds)
        (passed_at (did ++ d ∷ []) ds (moved a d) b of.2 (moved_at did a.stand a.left a.bearing a.text d of.0 of.1 at passes.0) passes.1)

    -- who stands at the end gave a value
    ended_at : (did : List OneDeed) (stand : Stand) (left : Left Names) (b : Bearing) (text : List ℕ) → is_ended stand ≡ true → IsAt did stand left b text → AtEnd did left b text × (stand ≡ Ended)
    ended_at did Ended left b text is at = (at, refl)
    ended_at did (Before what next) left b text is at = absurd (false≢true is)
    ended_at did (Between what next) left b text is at = absurd (false≢true is)

    -- Deeds that the talk passes through to its end are those of the talk, carried out.
    pub passes_back : (ds : List OneDeed) (t : Seat) → AreOf n ds → IsTold s.told → s.maps ≡ no_maps 0 → is_ended t.stand ≡ true → Passes (settles p (bearing_by s) []) ds t
        → (value : Names) × (r : Carried) × (played : Played (planning plain) n p s t.text ds value r) × (t ≡ seat Ended (goes_on (done value)) (bearing_by r) t.text) × IsTold r.told × (r.maps ≡ no_maps 0)
        × ((room : ℕ) → AreWithin room played.turns)
    passes_back ds t of told bare ended passes =
        let start : Reached [] p s [] = record { turns = []; follows = (refl, refl); text_is = refl; did_is = refl; told = told; bare = bare; within = λ room. tt } in
        let o = ended_at ds t.stand t.left t.bearing t.text ended (passed_at [] ds (settles p (bearing_by s) []) t of (at_settled [] p s [] start) passes) in
        let at : AtEnd ds t.left t.bearing t.text = o.0 in (
          at.value,
          at.carried,
          record { turns = at.so_far.turns; follows = at.so_far.follows; text_is = at.so_far.text_is; did_is = at.so_far.did_is },
          λ i. seat (o.1 i) (at.left_is i) (sym at.bearing i) t.text,
          at.so_far.told,
          at.so_far.bare,
          at.so_far.within,
        )
