-- What a call of the device tells of its driver over a port without a map: the driver made no entries of its own, and the port is what the
-- tells of the call make of it.
use Rattle.std.proofs.Common.{◌≡◌, ℕ, zero, suc, Bool, true, false, List, [], ◌∷◌, ◌++◌, length, Option, None, Some, refl, sym, ap, ◌∙◌, subst, arith}
use Rattle.std.proofs.lemmas.Bool.{false≢true}
use Rattle.gl_base.specs.declared.op.Op.{Op}
use Rattle.gl_uapi.specs.Command.{command_of}
use Rattle.gl_world.specs.Deeds.{entries_in}
use Rattle.gl_world.specs.History.{entry}
use Rattle.gl_driver.specs.Maps.{map_at, map_for}
use Rattle.gl_driver.specs.Told.{PortAfter, Told}
use Rattle.gl_driver.specs.declared.map.Map.{Map}
use Rattle.gl_model.specs.Entries.{begins, last_call}
use Rattle.gl_model.specs.Parts.{Makes, MakesAt, MakesCommand, MakesOne, MakesRest, MakesTwo, first_call, guard_of, in_ask, in_tell, is_driver_asked, is_single}
use Rattle.gl_model.specs.declared.call.Call.{Call}
use Rattle.gl_model.specs.declared.call.Call.TheVariants.{Probe, Unplug, MakeDir, RemoveDir, Write, Read, Live, Remove, Tick, Pin, Irq, Pull, Level, Interrupt, OpenChip, Find, Ioctl, ReadEdges, ReadInfo, PollLine, PollChip, Close, Refused as RefusedCall}
use Rattle.gl_model.specs.declared.device_call.CommandIn.{CommandIn}
use Rattle.gl_model.specs.declared.device_call.DeviceCall.{DeviceCall}
use Rattle.gl_model.specs.declared.device_call.DeviceCall.TheVariants.{Once, Removing, Commanding}
use Rattle.gl_model.specs.declared.device_call.RemovalOf.{RemovalOf}
use Rattle.gl_model.specs.declared.device_call.RemovalOf.TheVariants.{OfChip, OfDevice}
use Rattle.gl_model.specs.declared.reply.Reply.{Reply}
use Rattle.gl_core.specs.Device.{OneDeed, OneEntry, call_tells, tells_in}
use Rattle.gl_check.specs.Drivers.{DriverKind}
use Rattle.gl_check.specs.Joining.{Maps}
use Rattle.gl_check.specs.Seats.{deed, is_refusal}
use Rattle.gl_check.specs.Turns.{Exchange, HasMade, PortBy, is_begun, map_of, was_asked}

abbrev entry_or : OneEntry → List OneEntry → OneEntry
entry_or d [] = d
entry_or d (x ∷ xs) = x

abbrev other_entries : List OneEntry → List OneEntry
other_entries [] = []
other_entries (x ∷ xs) = xs

-- a call that is whole by itself
pub record Single (call : Call) : Type 0 where
  pub is_open : is_refusal call ≡ false
  pub never : (reply : Reply) → begins call reply ≡ false
  pub silent : call_tells call ≡ []

pub single_is : (call : Call) → is_single call ≡ true → Single call
single_is (Probe label lines kind) is = record { is_open = refl; never = λ reply. refl; silent = refl }
single_is (MakeDir path) is = record { is_open = refl; never = λ reply. refl; silent = refl }
single_is (RemoveDir path) is = record { is_open = refl; never = λ reply. refl; silent = refl }
single_is (Write path value) is = record { is_open = refl; never = λ reply. refl; silent = refl }
single_is (Read path) is = record { is_open = refl; never = λ reply. refl; silent = refl }
single_is (Live device) is = record { is_open = refl; never = λ reply. refl; silent = refl }
single_is (Tick mono real) is = record { is_open = refl; never = λ reply. refl; silent = refl }
single_is (Pin place what) is = record { is_open = refl; never = λ reply. refl; silent = refl }
single_is (Irq place offset what) is = record { is_open = refl; never = λ reply. refl; silent = refl }
single_is (Pull place offset up) is = record { is_open = refl; never = λ reply. refl; silent = refl }
single_is (Level place offset pull) is = record { is_open = refl; never = λ reply. refl; silent = refl }
single_is (Interrupt place offset up) is = record { is_open = refl; never = λ reply. refl; silent = refl }
single_is (OpenChip word) is = record { is_open = refl; never = λ reply. refl; silent = refl }
single_is (Find place name) is = record { is_open = refl; never = λ reply. refl; silent = refl }
single_is (ReadEdges place fd len) is = record { is_open = refl; never = λ reply. refl; silent = refl }
single_is (ReadInfo place fd len) is = record { is_open = refl; never = λ reply. refl; silent = refl }
single_is (PollLine place fd) is = record { is_open = refl; never = λ reply. refl; silent = refl }
single_is (PollChip place fd) is = record { is_open = refl; never = λ reply. refl; silent = refl }
single_is (Close fd) is = record { is_open = refl; never = λ reply. refl; silent = refl }
single_is (Unplug place last) is = absurd (false≢true is)
single_is (Remove device last) is = absurd (false≢true is)
single_is (Ioctl place fd cmd len bytes part) is = absurd (false≢true is)
single_is (RefusedCall place poll) is = absurd (false≢true is)

-- deeds of one entry, and of two
pub one_deed : (did : List OneDeed) (e : OneEntry) → entries_in did ≡ e ∷ [] → (bytes : List ℕ) × (did ≡ deed e bytes ∷ [])
one_deed [] e is = let z : 0 ≡ length (e ∷ []) = ap (λ (l : List OneEntry). length l) is in absurd (omega arith)
one_deed (x ∷ []) e is = (x.bytes, ap (λ e. deed e x.bytes ∷ []) (ap (entry_or e) is))
one_deed (x ∷ y ∷ ys) e is = let z : length (x.entry ∷ y.entry ∷ entries_in ys) ≡ length (e ∷ []) = ap (λ (l : List OneEntry). length l) is in absurd (omega arith)

pub two_deeds : (did : List OneDeed) (e f : OneEntry) → entries_in did ≡ e ∷ f ∷ [] → (a : List ℕ) × (b : List ℕ) × (did ≡ deed e a ∷ deed f b ∷ [])
two_deeds [] e f is = let z : 0 ≡ length (e ∷ f ∷ []) = ap (λ (l : List OneEntry). length l) is in absurd (omega arith)
two_deeds (x ∷ xs) e f is = let o = one_deed xs f (ap other_entries is) in (x.bytes, o.0, λ i. deed (entry_or e (is i)) x.bytes ∷ o.1 i)

-- a removal tells no answer of a driver
removal_silent : (removal : RemovalOf) → (call_tells (first_call removal) ≡ []) × (call_tells (last_call (first_call removal)) ≡ [])
removal_silent (OfChip place) = (refl, refl)
removal_silent (OfDevice device) = (refl, refl)

module _ (n : ℕ) (answer : Option ℕ) (own made : List OneEntry) where
  one_tells : (call : Call) → call_tells call ≡ [] → MakesOne n call made → tells_in made ≡ []
  one_tells call silent (reply, is) = ap (λ (es : List OneEntry). tells_in es) is ∙ ap (λ (l : List (Option ℕ)). l ++ []) silent

  once_tells : (call : Call) → is_single call ≡ true → (guard : Option ℕ) (closed : Bool) → MakesAt n guard closed (Once call) answer own made → (tells_in made ≡ []) × (own ≡ [])
  once_tells call single None closed makes = (one_tells call (single_is call single).silent makes.0, makes.1)
  once_tells call single (Some place) false makes = (one_tells call (single_is call single).silent makes.0, makes.1)
  once_tells call single (Some place) true makes = (ap (λ (es : List OneEntry). tells_in es) makes.0, makes.1)

  removal_tells : (removal : RemovalOf) → MakesTwo n (first_call removal) (last_call (first_call removal)) [] made → tells_in made ≡ []
  removal_tells removal (reply, rest, is, makes) = ap (λ (es : List OneEntry). tells_in es) is ∙ by (begins (first_call removal) reply) makes
    where
      silent : (call_tells (first_call removal) ≡ []) × (call_tells (last_call (first_call removal)) ≡ [])
      silent = removal_silent removal

      by : (goes : Bool) → MakesRest n goes (last_call (first_call removal)) [] rest → call_tells (first_call removal) ++ tells_in rest ≡ []
      by false h = ap (λ (es : List OneEntry). call_tells (first_call removal) ++ tells_in es) h.0 ∙ ap (λ (l : List (Option ℕ)). l ++ []) silent.0
      by true h = ap (λ (es : List OneEntry). call_tells (first_call removal) ++ tells_in es) h.1 ∙ (λ i. silent.0 i ++ (silent.1 i ++ []))

  -- where the driver wasn't asked it made no entries of its own
  rest_own : (goes : Bool) (second : Call) (rest : List OneEntry) → MakesRest n goes second own rest → goes ≡ false → own ≡ []
  rest_own false second rest makes unasked = makes.1
  rest_own true second rest makes unasked = absurd (false≢true (sym unasked))

  command_own : (c : CommandIn) (asks : Bool) → MakesCommand n asks answer c own made → is_begun made ≡ false → own ≡ []
  command_own c false makes unasked = makes.1
  command_own c true (reply, rest, is, makes) unasked = rest_own (begins (in_ask c) reply) (in_tell answer c) rest makes (sym (ap (λ (es : List OneEntry). is_begun es) is) ∙ unasked)

  commanding_own : (c : CommandIn) (closed : Bool) → MakesAt n (Some c.place) closed (Commanding c) answer own made → is_begun made ≡ false → own ≡ []
  commanding_own c false makes unasked = command_own c (is_driver_asked c.of_chip c.len (command_of c.cmd)) makes unasked
  commanding_own c true makes unasked = makes.1

-- a port without a map has none at any place
no_map_in : (limit place : ℕ) (kept : List Map) → kept ≡ [] → map_for limit place kept ≡ None
no_map_in zero place kept none = refl
no_map_in (suc limit) place kept none = ap (λ (l : List Map). map_at place l) none

pub unmapped_call : (driver : DriverKind) (m : Maps) → m.kept ≡ [] → (call : DeviceCall) → map_of driver m call ≡ None
unmapped_call driver m bare (Once call) = refl
unmapped_call driver m bare (Removing removal) = refl
unmapped_call driver m bare (Commanding c) = no_map_in driver.limit c.place m.kept bare

module _ (driver : DriverKind) (n : ℕ) (op : Option Op) (e : Exchange) (before after : Option Told) where
  abbrev Port : List OneEntry → Type 0
  Port made = PortAfter driver.is_planned op (tells_in made) before after

  abbrev By : Bool → Type 0
  By asked = PortBy driver n asked None op e before after

  none_port : (made : List OneEntry) → tells_in made ≡ [] → after ≡ before → Port made
  none_port made none same = subst (λ (l : List (Option ℕ)). PortAfter driver.is_planned op l before after) (sym none) same

  same_port : (made : List OneEntry) → tells_in made ≡ [] → Port made → after ≡ before
  same_port made none port = subst (λ (l : List (Option ℕ)). PortAfter driver.is_planned op l before after) none port

  -- a command
  rest_port : (c : CommandIn) (rest : List OneEntry) (goes : Bool) → MakesRest n goes (in_tell e.answer c) [] rest → By goes → Port rest
  rest_port c rest false makes port = subst (λ (es : List OneEntry). Port es) (sym makes.0) port
  rest_port c rest true makes port = subst (λ (es : List OneEntry). Port es) (sym makes.1) (port.asked_for, port.is_this, port.told_then, port.gives)

  inside_port : (c : CommandIn) (asks : Bool) (made : List OneEntry) → MakesCommand n asks e.answer c [] made → By (is_begun made) → Port made
  inside_port c false made ((reply, is), none) port = subst (λ (es : List OneEntry). By (is_begun es) → Port es) (sym is) (λ same. same) port
  inside_port c true made (reply, rest, is, makes) port =
      subst (λ (es : List OneEntry). By (is_begun es) → Port es) (sym is) (λ went. rest_port c rest (begins (in_ask c) reply) makes went) port

  command_port : (c : CommandIn) (closed : Bool) (made : List OneEntry) → MakesAt n (Some c.place) closed (Commanding c) e.answer [] made → By (is_begun made) → Port made
  command_port c false made makes port = inside_port c (is_driver_asked c.of_chip c.len (command_of c.cmd)) made makes port
  command_port c true made makes port = subst (λ (es : List OneEntry). By (is_begun es) → Port es) (sym makes.0) (λ same. same) port

  -- and back
  rest_asked : (c : CommandIn) (reply : Reply) (rest : List OneEntry) (goes : Bool) → entries_in e.did ≡ entry n (in_ask c) reply ∷ rest → e.own ≡ [] → MakesRest n goes (in_tell e.answer c) [] rest → Port rest → By goes
  rest_asked c reply rest false is none makes port = subst (λ (es : List OneEntry). Port es) makes.0 port
  rest_asked c reply rest true is none makes port =
      let p : PortAfter driver.is_planned op (e.answer ∷ []) before after = subst (λ (es : List OneEntry). Port es) makes.1 port in
      let two = two_deeds e.did (entry n (in_ask c) reply) (entry n (in_tell e.answer c) makes.0) (is ∙ ap (λ (l : List OneEntry). entry n (in_ask c) reply ∷ l) makes.1) in record {
        asked_for = p.0;
        is_this = p.1;
        ask = deed (entry n (in_ask c) reply) two.0;
        inner = [];
        tell = deed (entry n (in_tell e.answer c) makes.0) two.1;
        deeds_are = two.2;
        inner_own = sym none;
        may_make = none;
        gives = p.3;
        told_then = p.2;
      }

  inside_asked : (c : CommandIn) (asks : Bool) → MakesCommand n asks e.answer c [] (entries_in e.did) → e.own ≡ [] → Port (entries_in e.did) → By (is_begun (entries_in e.did))
  inside_asked c false ((reply, is), nothing) none port = subst (λ (es : List OneEntry). Port es → By (is_begun es)) (sym is) (λ same. same) port
  inside_asked c true (reply, rest, is, makes) none port =
      subst (λ (b : Bool). By b) (sym (ap (λ (es : List OneEntry). is_begun es) is))
      (rest_asked c reply rest (begins (in_ask c) reply) is none makes (subst (λ (es : List OneEntry). Port es) is port))

  command_asked : (c : CommandIn) (closed : Bool) → MakesAt n (Some c.place) closed (Commanding c) e.answer [] (entries_in e.did) → e.own ≡ [] → Port (entries_in e.did) → By (is_begun (entries_in e.did))
  command_asked c false makes none port = inside_asked c (is_driver_asked c.of_chip c.len (command_of c.cmd)) makes none port
  command_asked c true makes none port = subst (λ (es : List OneEntry). Port es → By (is_begun es)) (sym makes.0) (λ same. same) port

  -- The call made no entries of the driver's own, and the port is after it what its tells say.
  pub record Unmapped (call : DeviceCall) : Type 0 where
    pub own : e.own ≡ []
    pub makes : Makes n e.closed call e.answer [] (entries_in e.did)
    pub port : PortAfter driver.is_planned op (tells_in (entries_in e.did)) before after

  own_by : (asked : Bool) → By asked → (asked ≡ false → e.own ≡ []) → e.own ≡ []
  own_by false port unasked = unasked refl
  own_by true port unasked = port.may_make

  alone_by : (call : DeviceCall) → e.own ≡ [] → Makes n e.closed call e.answer e.own (entries_in e.did) → (Makes n e.closed call e.answer [] (entries_in e.did) → Port (entries_in e.did)) → Unmapped call
  alone_by call none makes port = let alone = subst (λ (own : List OneEntry). Makes n e.closed call e.answer own (entries_in e.did)) none makes in
      record { own = none; makes = alone; port = port alone }

  pub unmapped : (m : Maps) → m.kept ≡ [] → (call : DeviceCall) → HasMade driver n m call op e before after → Unmapped call
  unmapped m bare (Once call) h = let silent = once_tells n e.answer e.own (entries_in e.did) call h.makes.0 (guard_of (Once call)) e.closed h.makes.1 in
      alone_by (Once call) silent.1 h.makes (λ alone. none_port (entries_in e.did) silent.0 h.port)
  unmapped m bare (Removing removal) h = alone_by (Removing removal) h.makes.1.1 h.makes
      (λ alone. none_port (entries_in e.did) (removal_tells n e.answer e.own (entries_in e.did) removal h.makes.1.0) h.port)
  unmapped m bare (Commanding c) h =
      let port : By (is_begun (entries_in e.did)) = subst (λ (map : Option Map). PortBy driver n (is_begun (entries_in e.did)) map op e before after) (no_map_in driver.limit c.place m.kept bare) h.port in
      alone_by (Commanding c)
      (own_by (is_begun (entries_in e.did)) port (commanding_own n e.answer e.own (entries_in e.did) c e.closed h.makes.1)) h.makes
      (λ alone. command_port c e.closed (entries_in e.did) alone.1 port)

  pub port_asked : (m : Maps) → m.kept ≡ [] → (call : DeviceCall) → e.own ≡ [] → Makes n e.closed call e.answer [] (entries_in e.did) → PortAfter driver.is_planned op (tells_in (entries_in e.did)) before after
      → PortBy driver n (was_asked call (entries_in e.did)) (map_of driver m call) op e before after
  port_asked m bare (Once call) none makes port = same_port (entries_in e.did) (once_tells n e.answer [] (entries_in e.did) call makes.0 (guard_of (Once call)) e.closed makes.1).0 port
  port_asked m bare (Removing removal) none makes port = same_port (entries_in e.did) (removal_tells n e.answer [] (entries_in e.did) removal makes.1.0) port
  port_asked m bare (Commanding c) none makes port =
      subst (λ (map : Option Map). PortBy driver n (is_begun (entries_in e.did)) map op e before after) (sym (no_map_in driver.limit c.place m.kept bare)) (command_asked c e.closed makes.1 none port)
