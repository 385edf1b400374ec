-- A talk that was carried out passes through its deeds, one at a time.
use Rattle.std.proofs.Common.{◌≡◌, ℕ, Bool, true, false, List, [], ◌∷◌, ◌++◌, Option, None, Some, IfSome, refl, sym, ap, ◌∙◌, subst}
use Rattle.std.specs.Prelude.{if◌then◌else◌}
use Rattle.std.proofs.lemmas.List.{append_assoc, append-nil}
use Rattle.gl_base.specs.Count.{counted_up}
use Rattle.gl_base.specs.Planned.{bits_for, planned_answer}
use Rattle.gl_base.specs.declared.op.Op.{Op}
use Rattle.gl_base.specs.declared.operation.Do.{Do}
use Rattle.gl_base.specs.declared.operation.Got.{Got}
use Rattle.gl_uapi.specs.Command.{command_of}
use Rattle.gl_client.specs.Program.{Program, ask, done, goes_on, waits}
use Rattle.gl_world.specs.Deeds.{entries_in}
use Rattle.gl_world.specs.History.{entry}
use Rattle.gl_driver.specs.Told.{PortAfter, Told, planned_for, with_bits, with_call, with_plan}
use Rattle.gl_model.specs.Entries.{begins, guarded_place, last_call}
use Rattle.gl_model.specs.Parts.{Makes, MakesAt, MakesCommand, MakesInside, MakesRest, device_has, first_call, guard_of, in_ask, in_tell, in_whole, is_driver_asked, is_poll, last_reply}
use Rattle.gl_model.specs.Step.{guard_reply}
use Rattle.gl_model.specs.declared.call.Call.{Call}
use Rattle.gl_model.specs.declared.call.Call.TheVariants.{Refused as RefusedCall}
use Rattle.gl_model.specs.declared.device_call.DeviceCall.{DeviceCall}
use Rattle.gl_model.specs.declared.device_call.DeviceCall.TheVariants.{Once, Removing, Commanding}
use Rattle.gl_model.specs.declared.device_call.RemovalOf.{RemovalOf}
use Rattle.gl_model.specs.declared.device_call.RemovalOf.TheVariants.{OfChip, OfDevice}
use Rattle.gl_model.specs.declared.reply.Reply.{Reply}
use Rattle.gl_model.specs.declared.reply.Reply.TheVariants.{Done, Refused}
use Rattle.gl_talk.specs.Open.{Names}
use Rattle.gl_core.specs.Device.{OneDeed, OneEntry, call_tells, last_bytes, tells_in}
use Rattle.gl_asking.specs.declared.kinds.Asking.{Asking}
use Rattle.gl_asking.specs.declared.kinds.Asking.TheVariants.{Calls, Plans, Accepts, Refuses}
use Rattle.gl_asking.specs.Asking.{asking, files_behind, got_of}
use Rattle.gl_asking.specs.Driving.{applies, op_asked}
use Rattle.gl_check.specs.One.{PlannedPort, from_plan}
use Rattle.gl_check.specs.Ports.{after_answer, next_answer}
use Rattle.gl_check.specs.Seats.{Bearing, IsRefusedAt, Passes, Seat, SuitsFirst, answers, called, deed, first_inside, goes_by, is_refusal, moved, seat, second_of, settles}
use Rattle.gl_check.specs.Drivers.{plain, planning}
use Rattle.gl_check.specs.Joining.{Maps, asking_with, maps_behind, no_maps}
use Rattle.gl_check.specs.Turns.{Carried, Carries, Did, DidNothing, Exchange, Follows, IsDone, Said, Turn, did_by, said_by}
use Rattle.gl_check.specs.declared.stand.Stand.TheVariants.{Ended, Before, Between}
use Rattle.gl_check.proofs.Asked.{one_deed, single_is, two_deeds, unmapped}
use Rattle.gl_check.proofs.Joined.{asking_plainly, no_maps_behind}
use Rattle.gl_check.proofs.Operations.{ForCall, HasBits, all_have_bits}

-- what a planned driver goes by, of what a port tells
abbrev pub calls_of : Option Told → ℕ
calls_of None = 0
calls_of (Some t) = t.counted

abbrev pub plan_of : Option Told → Option ℕ
plan_of None = None
plan_of (Some t) = t.plan

abbrev pub bits_of : Option Told → ℕ
bits_of None = 0
bits_of (Some t) = t.bits

abbrev pub port_by : Option Told → PlannedPort
port_by told = record { calls = calls_of told; plan = plan_of told; bits = bits_of told }

abbrev pub bearing_by : Carried → Bearing
bearing_by s = record { files = s.files; port = port_by s.told }

abbrev pub IsTold : Option Told → Type 0
IsTold None = ⊥
IsTold (Some t) = Unit {0}

pub told_by_plan : (nth : ℕ) (told : Option Told) → IsTold told → IsTold (with_plan nth told)
told_by_plan nth (Some t) h = tt
told_by_plan nth None h = h

pub told_by_bits : (bits : ℕ) (told : Option Told) → IsTold told → IsTold (with_bits bits told)
told_by_bits bits (Some t) h = tt
told_by_bits bits None h = h

pub told_by_call : (op : Op) (answer : Option ℕ) (told : Option Told) → IsTold told → IsTold (with_call op answer told)
told_by_call op answer (Some t) h = tt
told_by_call op answer None h = h

-- after a plan
pub planned_port : (nth : ℕ) (told : Option Told) → IsTold told → port_by (with_plan nth told) ≡ from_plan.planned nth (port_by told)
planned_port nth (Some t) h = refl
planned_port nth None h = absurd h

-- after accepted bits
pub accepted_port : (bits : ℕ) (told : Option Told) → IsTold told → port_by (with_bits bits told) ≡ from_plan.accepted bits (port_by told)
accepted_port bits (Some t) h = refl
accepted_port bits None h = absurd h

-- after a call
pub called_port : (op : Op) (answer : Option ℕ) (told : Option Told) → IsTold told → port_by (with_call op answer told) ≡ after_answer (port_by told)
called_port op answer (Some t) h = refl
called_port op answer None h = absurd h

-- by whether a command configures lines, the bits of a planned driver's answer to what it is asked for the command
abbrev pub BitsBy : Op → Bool → Type 0
BitsBy op configures = (bits : ℕ) → bits_for op bits ≡ (if configures then bits else 0)

pub as_planned : (op : Op) (configures : Bool) (told : Option Told) (answer : Option ℕ) → IsTold told → BitsBy op configures → IfSome told (λ t. answer ≡ planned_for op t)
    → answer ≡ next_answer configures (port_by told)
as_planned op configures (Some t) answer h same is = is ∙ ap (λ bits. planned_answer bits t.plan (counted_up t.counted)) (same t.bits)
as_planned op configures None answer h same is = absurd h

pub planned_told : (op : Op) (configures : Bool) (told : Option Told) → IsTold told → BitsBy op configures → IfSome told (λ t. next_answer configures (port_by told) ≡ planned_for op t)
planned_told op configures (Some t) h same = ap (λ bits. planned_answer bits t.plan (counted_up t.counted)) (sym (same t.bits))
planned_told op configures None h same = absurd h

-- of what the driver is asked, where it is asked
pub of_asked : (op : Option Op) (o : Op) (P : Op → Type 0) → op ≡ Some o → IfSome op P → P o
of_asked op o P is h = subst (λ (x : Option Op). IfSome x P) is h

-- the guard of a call of the device is that of its first entry's call
pub guard_is : (call : DeviceCall) → guard_of call ≡ guarded_place (first_inside call)
guard_is (Once call) = refl
guard_is (Removing (OfChip place)) = refl
guard_is (Removing (OfDevice device)) = refl
guard_is (Commanding c) = elim (is_driver_asked c.of_chip c.len (command_of c.cmd)) as (λ b. Some c.place ≡ guarded_place (if b then in_ask c else in_whole c)) [ true ↦ refl | false ↦ refl ]

pub poll_is : (call : DeviceCall) → is_poll call ≡ is_poll (Once (first_inside call))
poll_is (Once call) = refl
poll_is (Removing (OfChip place)) = refl
poll_is (Removing (OfDevice device)) = refl
poll_is (Commanding c) = elim (is_driver_asked c.of_chip c.len (command_of c.cmd)) as (λ b. false ≡ is_poll (Once (if b then in_ask c else in_whole c))) [ true ↦ refl | false ↦ refl ]

abbrev pub reply_or : Reply → Option Reply → Reply
reply_or d (Some reply) = reply
reply_or d None = d

pub passes_on : (ds es : List OneDeed) (s t u : Seat) → Passes s ds t → Passes t es u → Passes s (ds ++ es) u
passes_on [] es s t u first later = subst (λ (s : Seat). Passes s es u) (sym first) later
passes_on (d ∷ ds) es s t u first later = (first.0, passes_on ds es (moved s d) t u first.1 later)

-- the files after an operation, with this port
abbrev pub files_of : Do → Reply → Bearing → Bearing
files_of what reply b = record { files = files_behind what reply b.files; port = b.port }

module _ (n : ℕ) (what : Do) (rest : Got → Program Names) (text : List ℕ) (reply : Reply) (wrote : List ℕ) where
  -- where it leads
  abbrev target : Bearing → Seat
  target c = settles (rest (got_of what reply wrote)) c text

  -- before its first entry, and between the two
  abbrev before : Call → Bearing → Seat
  before next b = seat (Before what next) (waits rest) b text

  abbrev between : Call → Bearing → Seat
  between next b = seat (Between what next) (waits rest) b text

  -- an operation of one entry
  one_passes : (next : Call) (b c : Bearing) (first : Call) (said : Reply) (did : List OneDeed) → entries_in did ≡ entry n first said ∷ []
      → SuitsFirst (is_refusal first) next (entry n first said) → begins first said ≡ false
      → last_reply (entries_in did) ≡ Some reply → last_bytes did ≡ wrote → c ≡ files_of what reply b
      → Passes (before next b) did (target c)
  one_passes next b c first said did is suits never reply_is bytes_are bearing = subst (λ (l : List OneDeed). Passes (before next b) l (target c)) (sym o.1) (suits, moves)
    where
      o : (bytes : List ℕ) × (did ≡ deed (entry n first said) bytes ∷ [])
      o = one_deed did (entry n first said) is

      said_is : said ≡ reply
      said_is = ap (λ (l : List OneDeed). reply_or reply (last_reply (entries_in l))) (sym o.1) ∙ ap (reply_or reply) reply_is

      bytes_is : o.0 ≡ wrote
      bytes_is = ap (λ (l : List OneDeed). last_bytes l) (sym o.1) ∙ bytes_are

      moves : moved (before next b) (deed (entry n first said) o.0) ≡ target c
      moves = ap (λ t. if t then between next b else answers what (waits rest) b text (deed (entry n first said) o.0)) never
          ∙ (λ i. settles (rest (got_of what (said_is i) (bytes_is i))) (files_of what (said_is i) b) text)
          ∙ ap (λ (b : Bearing). settles (rest (got_of what reply wrote)) b text) (sym bearing)

  -- an operation of two
  two_passes : (next : Call) (b c : Bearing) (first second : Call) (begun said : Reply) (did : List OneDeed) → entries_in did ≡ entry n first begun ∷ entry n second said ∷ []
      → SuitsFirst (is_refusal first) next (entry n first begun) → begins first begun ≡ true → second ≡ second_of next b.port
      → last_reply (entries_in did) ≡ Some reply → last_bytes did ≡ wrote → c ≡ files_of what reply (called next b)
      → Passes (before next b) did (target c)
  two_passes next b c first second begun said did is suits goes second_is reply_is bytes_are bearing =
      subst (λ (l : List OneDeed). Passes (before next b) l (target c)) (sym o.2) (
        suits,
        subst (λ t. Passes (if t then between next b else answers what (waits rest) b text (deed (entry n first begun) o.0)) (deed (entry n second said) o.1 ∷ []) (target c)) (sym goes)
            (second_is, moves),
      )
    where
      o : (a : List ℕ) × (b : List ℕ) × (did ≡ deed (entry n first begun) a ∷ deed (entry n second said) b ∷ [])
      o = two_deeds did (entry n first begun) (entry n second said) is

      said_is : said ≡ reply
      said_is = ap (λ (l : List OneDeed). reply_or reply (last_reply (entries_in l))) (sym o.2) ∙ ap (reply_or reply) reply_is

      bytes_is : o.1 ≡ wrote
      bytes_is = ap (λ (l : List OneDeed). last_bytes l) (sym o.2) ∙ bytes_are

      moves : answers what (waits rest) (called next b) text (deed (entry n second said) o.1) ≡ target c
      moves = (λ i. settles (rest (got_of what (said_is i) (bytes_is i))) (files_of what (said_is i) (called next b)) text)
          ∙ ap (λ (b : Bearing). settles (rest (got_of what reply wrote)) b text) (sym bearing)

  -- What was made, told, and answered for a call of the device, and what follows.
  pub record Came (op : Option Op) (s r : Carried) (did : List OneDeed) : Type 0 where
    pub told : IsTold s.told
    pub reply_is : last_reply (entries_in did) ≡ Some reply
    pub bytes_are : last_bytes did ≡ wrote
    pub port : PortAfter true op (tells_in (entries_in did)) s.told r.told
    pub files : r.files ≡ files_behind what reply s.files

  abbrev Through : DeviceCall → Carried → Carried → List OneDeed → Type 0
  Through call s r did = Passes (before (first_inside call) (bearing_by s)) did (target (bearing_by r)) × IsTold r.told

  -- no answer was told
  quiet : (op : Option Op) (s r : Carried) (did : List OneDeed) → Came op s r did → tells_in (entries_in did) ≡ [] → r.told ≡ s.told
  quiet op s r did came none = subst (λ (l : List (Option ℕ)). PortAfter true op l s.told r.told) none came.port

  same : (op : Option Op) (s r : Carried) (did : List OneDeed) → Came op s r did → r.told ≡ s.told → bearing_by r ≡ files_of what reply (bearing_by s)
  same op s r did came is = λ i. record { files = came.files i; port = port_by (is i) }

  still : (op : Option Op) (s r : Carried) (did : List OneDeed) → Came op s r did → r.told ≡ s.told → IsTold r.told
  still op s r did came is = subst (λ t. IsTold t) (sym is) came.told

  one_through : (call : DeviceCall) (op : Option Op) (s r : Carried) (first : Call) (said : Reply) (did : List OneDeed) → Came op s r did → entries_in did ≡ entry n first said ∷ []
      → SuitsFirst (is_refusal first) (first_inside call) (entry n first said) → begins first said ≡ false → call_tells first ≡ [] → Through call s r did
  one_through call op s r first said did came is suits never silent =
      let t = quiet op s r did came (ap (λ (l : List OneEntry). tells_in l) is ∙ ap (λ (l : List (Option ℕ)). l ++ []) silent) in
      (one_passes (first_inside call) (bearing_by s) (bearing_by r) first said did is suits never came.reply_is came.bytes_are (same op s r did came t), still op s r did came t)

  -- a removal's two entries
  removing_through : (removal : RemovalOf) (op : Option Op) (s r : Carried) (did : List OneDeed) → Came op s r did
      → is_refusal (first_call removal) ≡ false → call_tells (first_call removal) ≡ [] → call_tells (last_call (first_call removal)) ≡ []
      → ((port : PlannedPort) → last_call (first_call removal) ≡ second_of (first_call removal) port) → ((b : Bearing) → called (first_call removal) b ≡ b)
      → MakesInside n (Removing removal) None [] (entries_in did) → Through (Removing removal) s r did
  removing_through removal op s r did came is_open silent silent_too second counts m = by (begins (first_call removal) m.0.0) refl m.0.3
    where
      by : (b : Bool) → begins (first_call removal) m.0.0 ≡ b → MakesRest n b (last_call (first_call removal)) [] m.0.1 → Through (Removing removal) s r did
      by false never h = one_through (Removing removal) op s r (first_call removal) m.0.0 did came (m.0.2 ∙ ap (λ (l : List OneEntry). entry n (first_call removal) m.0.0 ∷ l) h.0)
          (subst (λ t. SuitsFirst t (first_call removal) (entry n (first_call removal) m.0.0)) (sym is_open) refl) never silent
      by true goes h =
          let is : entries_in did ≡ entry n (first_call removal) m.0.0 ∷ entry n (last_call (first_call removal)) h.0 ∷ [] = m.0.2 ∙ ap (λ (l : List OneEntry). entry n (first_call removal) m.0.0 ∷ l) h.1 in
          let t = quiet op s r did came (ap (λ (l : List OneEntry). tells_in l) is ∙ (λ i. silent i ++ (silent_too i ++ []))) in (
            two_passes (first_call removal) (bearing_by s) (bearing_by r) (first_call removal) (last_call (first_call removal)) m.0.0 h.0 did is
                (subst (λ t. SuitsFirst t (first_call removal) (entry n (first_call removal) m.0.0)) (sym is_open) refl) goes (second (port_by s.told)) came.reply_is came.bytes_are
                (same op s r did came t ∙ ap (files_of what reply) (sym (counts (bearing_by s)))),
            still op s r did came t,
          )

  inside_through : (call : DeviceCall) (op : Option Op) (s r : Carried) (answer : Option ℕ) (did : List OneDeed) → Came op s r did → HasBits op call → device_has call ≡ true → MakesInside n call answer [] (entries_in did) → Through call s r did
  inside_through (Once call) op s r answer did came asks has m =
      let single = single_is call has in
      one_through (Once call) op s r call m.0.0 did came m.0.1 (subst (λ t. SuitsFirst t call (entry n call m.0.0)) (sym single.is_open) refl) (single.never m.0.0) single.silent
  inside_through (Removing (OfChip place)) op s r answer did came asks has m = removing_through (OfChip place) op s r did came refl refl refl (λ port. refl) (λ b. refl) m
  inside_through (Removing (OfDevice device)) op s r answer did came asks has m = removing_through (OfDevice device) op s r did came refl refl refl (λ port. refl) (λ b. refl) m
  inside_through (Commanding c) op s r answer did came asks has m = by (is_driver_asked c.of_chip c.len (command_of c.cmd)) refl m
    where
      asked : (b : Bool) → is_driver_asked c.of_chip c.len (command_of c.cmd) ≡ b → (f : Call) → f ≡ (if b then in_ask c else in_whole c) → f ≡ first_inside (Commanding c)
      asked b is f e = e ∙ ap (λ b. if b then in_ask c else in_whole c) (sym is)

      by : (b : Bool) → is_driver_asked c.of_chip c.len (command_of c.cmd) ≡ b → MakesCommand n b answer c [] (entries_in did) → Through (Commanding c) s r did
      by false unasked h = one_through (Commanding c) op s r (in_whole c) h.0.0 did came h.0.1 (asked false unasked (in_whole c) refl) refl refl
      by true is_asked h = begun (begins (in_ask c) h.0) refl h.3
        where
          begun : (b : Bool) → begins (in_ask c) h.0 ≡ b → MakesRest n b (in_tell answer c) [] h.1 → Through (Commanding c) s r did
          begun false never k = one_through (Commanding c) op s r (in_ask c) h.0 did came (h.2 ∙ ap (λ (l : List OneEntry). entry n (in_ask c) h.0 ∷ l) k.0) (asked true is_asked (in_ask c) refl) never refl
          begun true goes k =
              let is : entries_in did ≡ entry n (in_ask c) h.0 ∷ entry n (in_tell answer c) k.0 ∷ [] = h.2 ∙ ap (λ (l : List OneEntry). entry n (in_ask c) h.0 ∷ l) k.1 in
              let p : PortAfter true op (answer ∷ []) s.told r.told = subst (λ (l : List (Option ℕ)). PortAfter true op l s.told r.told) (ap (λ (l : List OneEntry). tells_in l) is) came.port in
              let configures : Bool = applies (command_of c.cmd) in
              let same : BitsBy p.0 configures = λ bits. of_asked op p.0 (λ o. bits_for o bits ≡ (if configures then bits else 0)) p.1 (asks bits) in
              let a : answer ≡ next_answer configures (port_by s.told) = as_planned p.0 configures s.told answer came.told same (p.3 refl) in
              let bearing : bearing_by r ≡ record { files = files_behind what reply s.files; port = after_answer (port_by s.told) }
              = λ i. record { files = came.files i; port = (ap port_by p.2 ∙ called_port p.0 answer s.told came.told) i } in (
                subst (λ f. Passes (before f (bearing_by s)) did (target (bearing_by r))) (asked true is_asked (in_ask c) refl)
                    (two_passes (in_ask c) (bearing_by s) (bearing_by r) (in_ask c) (in_tell answer c) h.0 k.0 did is refl goes
                    (ap (λ a. in_tell a c) a) came.reply_is came.bytes_are bearing),
                subst (λ t. IsTold t) (sym p.2) (told_by_call p.0 answer s.told came.told),
              )

  -- A call of the device passes through its deeds.
  pub call_through : (call : DeviceCall) (op : Option Op) (s r : Carried) (closed : Bool) (answer : Option ℕ) (did : List OneDeed) → Came op s r did → HasBits op call → Makes n closed call answer [] (entries_in did) → Through call s r did
  call_through call op s r closed answer did came asks makes = at (guard_of call) closed refl makes.1
    where
      at : (guard : Option ℕ) (shut : Bool) → guard_of call ≡ guard → MakesAt n guard shut call answer [] (entries_in did) → Through call s r did
      at None shut is h = inside_through call op s r answer did came asks makes.0 h
      at (Some place) false is h = inside_through call op s r answer did came asks makes.0 h
      at (Some place) true is h = one_through call op s r (RefusedCall place (is_poll call)) (guard_reply (is_poll call)) did came h.0
          (subst (λ g. IsRefusedAt g (is_poll (Once (first_inside call))) (entry n (RefusedCall place (is_poll call)) (guard_reply (is_poll call)))) (sym (sym (guard_is call) ∙ is))
          (ap (RefusedCall place) (poll_is call), ap guard_reply (poll_is call))) refl refl

-- what asks for no call of the device passes through nothing
still_through : (n : ℕ) (what : Do) (rest : Got → Program Names) (e : Exchange) (reply : Reply) (b c : Bearing) (text : List ℕ) → DidNothing (planning plain) n e reply → c ≡ b
    → Passes (settles (rest (got_of what reply [])) b text) e.did (settles (rest (got_of what e.reply e.wrote)) c text)
still_through n what rest e reply b c text none is = subst (λ (l : List OneDeed). Passes (settles (rest (got_of what reply [])) b text) l (settles (rest (got_of what e.reply e.wrote)) c text)) (sym none.did)
    (λ i. settles (rest (got_of what (sym none.reply_is i) (sym none.bytes_are i))) (sym is i) text)

abbrev GoesFrom : Do → (Got → Program Names) → Exchange → Carried → Carried → List ℕ → Asking → Type 0
GoesFrom what rest e s r text a =
    Passes (goes_by a what (waits rest) (bearing_by s) text (λ got later. settles (rest got) later text)) e.did (settles (rest (got_of what e.reply e.wrote)) (bearing_by r) text) × IsTold r.told

asking_through : (n : ℕ) (rest : Got → Program Names) (e : Exchange) (s r : Carried) (text : List ℕ) (a : Asking) (op : Option Op) → ForCall (HasBits op) a → s.maps.kept ≡ [] → IsTold s.told → IsDone (planning plain) n s.maps a op e s.told r.told → r.files ≡ files_behind e.what e.reply s.files
    → GoesFrom e.what rest e s r text a
asking_through n rest e s r text (Calls call) op asks bare told is files =
    let u = unmapped (planning plain) n op e s.told r.told s.maps bare call is in
    call_through n e.what rest text e.reply e.wrote call op s r e.closed e.answer e.did
    (record { told = told; reply_is = is.reply_is; bytes_are = is.bytes_are; port = u.port; files = files }) asks u.makes
asking_through n rest e s r text (Plans nth) op asks bare told is files =
    let at : bearing_by r ≡ record { files = files_behind e.what Done s.files; port = from_plan.planned nth (port_by s.told) }
    = λ i. record { files = (files ∙ ap (λ p. files_behind e.what p s.files) is.0.reply_is) i; port = (ap port_by is.1 ∙ planned_port nth s.told told) i } in (
      still_through n e.what rest e Done (record { files = files_behind e.what Done s.files; port = from_plan.planned nth (port_by s.told) }) (bearing_by r) text is.0 at,
      subst (λ t. IsTold t) (sym is.1) (told_by_plan nth s.told told),
    )
asking_through n rest e s r text (Accepts bits) op asks bare told is files =
    let at : bearing_by r ≡ record { files = files_behind e.what Done s.files; port = from_plan.accepted bits (port_by s.told) }
    = λ i. record { files = (files ∙ ap (λ p. files_behind e.what p s.files) is.0.reply_is) i; port = (ap port_by is.1 ∙ accepted_port bits s.told told) i } in (
      still_through n e.what rest e Done (record { files = files_behind e.what Done s.files; port = from_plan.accepted bits (port_by s.told) }) (bearing_by r) text is.0 at,
      subst (λ t. IsTold t) (sym is.1) (told_by_bits bits s.told told),
    )
asking_through n rest e s r text (Refuses errno) op asks bare told is files =
    let at : bearing_by r ≡ record { files = files_behind e.what (Refused errno) s.files; port = port_by s.told }
    = λ i. record { files = (files ∙ ap (λ p. files_behind e.what p s.files) is.0.reply_is) i; port = port_by (is.1 i) } in (
      still_through n e.what rest e (Refused errno) (record { files = files_behind e.what (Refused errno) s.files; port = port_by s.told }) (bearing_by r) text is.0 at,
      subst (λ t. IsTold t) (sym is.1) told,
    )

-- A talk that was carried out over a port that takes no maps passes through its deeds to its end, with its text.
pub follows_through : (n : ℕ) (turns : List Turn) (p : Program Names) (s : Carried) (value : Names) (r : Carried) (text : List ℕ) → IsTold s.told → s.maps ≡ no_maps 0 → Follows (planning plain) n p s turns (done value) r
    → Passes (settles p (bearing_by s) text) (did_by turns) (seat Ended (goes_on (done value)) (bearing_by r) (text ++ said_by turns)) × IsTold r.told × (r.maps ≡ no_maps 0)
follows_through n [] p s value r text told none h =
    ((λ i. settles (h.0 i) (bearing_by (h.1 i)) text) ∙ ap (seat Ended (goes_on (done value)) (bearing_by r)) (sym (append-nil text)), subst (λ (c : Carried). IsTold c.told) h.1 told, subst (λ (c : Carried). c.maps ≡ no_maps 0) h.1 none)
follows_through n (Said more ∷ turns) p s value r text told none h =
    let on = follows_through n turns h.0 h.1 value r (text ++ more) (subst (λ (c : Carried). IsTold c.told) (sym h.2.1) told) (subst (λ (c : Carried). c.maps ≡ no_maps 0) (sym h.2.1) none) h.3 in
    let start : settles p (bearing_by s) text ≡ settles h.0 (bearing_by h.1) (text ++ more) = λ i. settles (h.2.0 i) (bearing_by (sym h.2.1 i)) text in (
      subst (λ (a : Seat). Passes a (did_by turns) (seat Ended (goes_on (done value)) (bearing_by r) (text ++ (more ++ said_by turns)))) (sym start)
          (subst (λ t. Passes (settles h.0 (bearing_by h.1) (text ++ more)) (did_by turns) (seat Ended (goes_on (done value)) (bearing_by r) t)) (append_assoc text more (said_by turns)) on.0),
      on.1,
      on.2,
    )
follows_through n (Did e ∷ turns) p s value r text told none h =
    let rest : Got → Program Names = h.2.0 in
    let carries : Carries (planning plain) n s e h.1 = h.2.3 in
    let plainly : asking_with s.maps s.files e.what ≡ asking s.files e.what = ap (λ (m : Maps). asking_with m s.files e.what) none ∙ asking_plainly s.files e.what in
    let is_done : IsDone (planning plain) n s.maps (asking s.files e.what) (op_asked s.files e.what) e s.told h.1.told
    = subst (λ (a : Asking). IsDone (planning plain) n s.maps a (op_asked s.files e.what) e s.told h.1.told) plainly carries.is_done in
    let one = asking_through n rest e s h.1 text (asking s.files e.what) (op_asked s.files e.what) (all_have_bits s.files e.what) (ap (λ (m : Maps). m.kept) none) told is_done carries.files in
    let none_behind : h.1.maps ≡ no_maps 0 = carries.maps ∙ ap (λ (m : Maps). maps_behind e.what e.reply s.files m) none ∙ no_maps_behind e.what e.reply s.files in
    let on = follows_through n turns h.0 h.1 value r text one.1 none_behind h.3 in
    let goal : Seat = seat Ended (goes_on (done value)) (bearing_by r) (text ++ said_by turns) in
    let behind : Passes (settles (rest (got_of e.what e.reply e.wrote)) (bearing_by h.1) text) (did_by turns) goal
    = subst (λ (q : Program Names). Passes (settles q (bearing_by h.1) text) (did_by turns) goal) h.2.2 on.0 in (
      subst (λ (q : Program Names). Passes (settles q (bearing_by s) text) (e.did ++ did_by turns) goal) (sym h.2.1)
          (passes_on e.did (did_by turns) (settles (ask e.what rest) (bearing_by s) text) (settles (rest (got_of e.what e.reply e.wrote)) (bearing_by h.1) text) goal one.0 behind),
      on.1,
      on.2,
    )
