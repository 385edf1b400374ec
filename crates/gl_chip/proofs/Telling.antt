-- The answers of a driver that calls tell.
use Rattle.std.proofs.Common.{◌≡◌, ℕ, ◌≤◌, Bool, true, false, List, [], ◌∷◌, ◌++◌, length, Option, None, Some, refl, sym, ◌∙◌, ap, subst, arith}
use Rattle.std.specs.Prelude.{IfSome}
use Rattle.std.proofs.lemmas.Bool.{true≢false}
use Rattle.gl_uapi.specs.Command.{command_of}
use Rattle.gl_world.specs.Deeds.{entries_in}
use Rattle.gl_driver.specs.declared.map.Map.{Map}
use Rattle.gl_driver.specs.Told.{PortAfter, Told, planned_for}
use Rattle.gl_base.specs.declared.op.Op.{Op}
use Rattle.gl_model.specs.declared.call.Call.{Call}
use Rattle.gl_model.specs.declared.call.Call.TheVariants.{Probe, Unplug, MakeDir, RemoveDir, Write, Read, Live, Remove, Tick, Pin, Irq, Pull, Level, Interrupt, OpenChip, Find, Ioctl, ReadEdges, ReadInfo, PollLine, PollChip, Close, Refused as RefusedCall}
use Rattle.gl_model.specs.declared.device_call.CommandIn.{CommandIn}
use Rattle.gl_model.specs.declared.device_call.DeviceCall.{DeviceCall}
use Rattle.gl_model.specs.declared.device_call.DeviceCall.TheVariants.{Once, Removing, Commanding}
use Rattle.gl_model.specs.declared.device_call.RemovalOf.{RemovalOf}
use Rattle.gl_model.specs.declared.device_call.RemovalOf.TheVariants.{OfChip, OfDevice}
use Rattle.gl_model.specs.declared.reply.Reply.{Reply}
use Rattle.gl_model.specs.Entries.{begins, last_call}
use Rattle.gl_model.specs.Parts.{Makes, MakesAt, MakesCommand, MakesRest, first_call, guard_of, in_ask, in_tell, is_driver_asked, is_single}
use Rattle.gl_asking.specs.declared.kinds.FileKind.{FileKind}
use Rattle.gl_chip.specs.Called.{HasCalled}
use Rattle.gl_chip.specs.DriverCommands.{HasCommanded, PortOf, is_asked}
use Rattle.gl_asking.specs.Driving.{op_for}
use Rattle.gl_chip.specs.Orders.{HasDone, lines_on, op_ordered}
use Rattle.gl_core.specs.Device.{OneDeed, OneEntry, call_tells, tells_in}
use Rattle.gl_chip.specs.Values.{ActorValue, FollowsRelation, OwnRelation}

-- Calls that tell no answer of a driver

single_tells : (call : Call) → is_single call ≡ true → call_tells call ≡ []
single_tells (Probe a b c) s = refl
single_tells (Unplug a b) s = refl
single_tells (MakeDir a) s = refl
single_tells (RemoveDir a) s = refl
single_tells (Write a b) s = refl
single_tells (Read a) s = refl
single_tells (Live a) s = refl
single_tells (Remove a b) s = refl
single_tells (Tick a b) s = refl
single_tells (Pin a b) s = refl
single_tells (Irq a b c) s = refl
single_tells (Pull a b c) s = refl
single_tells (Level a b c) s = refl
single_tells (Interrupt a b c) s = refl
single_tells (OpenChip a) s = refl
single_tells (Find a b) s = refl
single_tells (Ioctl a b c d e f) s = absurd (true≢false (sym s))
single_tells (ReadEdges a b c) s = refl
single_tells (ReadInfo a b c) s = refl
single_tells (PollLine a b) s = refl
single_tells (PollChip a b) s = refl
single_tells (Close a) s = refl
single_tells (RefusedCall a b) s = refl

one_tells : (n : ℕ) (call : Call) (made : List OneEntry) → is_single call ≡ true → (reply : Reply) × (made ≡ record { actor = n; call = call; reply = reply } ∷ []) → tells_in made ≡ []
one_tells n call made single (reply, is) = subst (λ es. tells_in es ≡ []) (sym is) (ap (λ answers. answers ++ []) (single_tells call single))

once_tells_at : (n : ℕ) (guard : Option ℕ) (closed : Bool) (call : Call) (answer : Option ℕ) (own made : List OneEntry) → is_single call ≡ true
    → MakesAt n guard closed (Once call) answer own made → tells_in made ≡ []
once_tells_at n None closed call answer own made single makes = one_tells n call made single makes.0
once_tells_at n (Some place) false call answer own made single makes = one_tells n call made single makes.0
once_tells_at n (Some place) true call answer own made single makes = subst (λ es. tells_in es ≡ []) (sym makes.0) refl

pub once_tells : (n : ℕ) (closed : Bool) (call : Call) (answer : Option ℕ) (own made : List OneEntry) → Makes n closed (Once call) answer own made → tells_in made ≡ []
once_tells n closed call answer own made makes = once_tells_at n (guard_of (Once call)) closed call answer own made makes.0 makes.1

removal_tells_by : (n : ℕ) (both : Bool) (first second : Call) (reply : Reply) (rest : List OneEntry) → call_tells first ≡ [] → call_tells second ≡ []
    → MakesRest n both second [] rest → tells_in (record { actor = n; call = first; reply = reply } ∷ rest) ≡ []
removal_tells_by n false first second reply rest f s makes = subst (λ es. call_tells first ++ tells_in es ≡ []) (sym makes.0) (ap (λ answers. answers ++ []) f)
removal_tells_by n true first second reply rest f s makes =
    subst (λ es. call_tells first ++ tells_in es ≡ []) (sym makes.1)
    (ap (λ answers. answers ++ (call_tells second ++ [])) f ∙ ap (λ answers. answers ++ []) s)

removal_silent : (removal : RemovalOf) → (call_tells (first_call removal) ≡ []) × (call_tells (last_call (first_call removal)) ≡ [])
removal_silent (OfChip place) = (refl, refl)
removal_silent (OfDevice device) = (refl, refl)

pub removal_tells : (n : ℕ) (closed : Bool) (removal : RemovalOf) (answer : Option ℕ) (own made : List OneEntry) → Makes n closed (Removing removal) answer own made → tells_in made ≡ []
removal_tells n closed removal answer own made (has, ((reply, rest, is, makes), none)) =
    subst (λ es. tells_in es ≡ []) (sym is)
    (removal_tells_by n (begins (first_call removal) reply) (first_call removal) (last_call (first_call removal)) reply rest (removal_silent removal).0 (removal_silent removal).1 makes)

-- What becomes of the port

pub none_own : (own : List OneEntry) → length own ≤ 0 → own ≡ []
none_own [] h = refl
none_own (e ∷ es) h = absurd (omega (arith, h))

-- the answer that follows from a planned driver is the planned one
abbrev pub FollowsPlan : Bool → FollowsRelation → Type 0
FollowsPlan is_planned Follows = is_planned ≡ true → (t : Told) (op : Op) (did : List OneDeed) (room seen : ℕ) (answer : Option ℕ) → Follows None (Some t) op did room seen answer → answer ≡ planned_for op t

planned_by : (is_planned : Bool) (Follows : FollowsRelation) → FollowsPlan is_planned Follows → (told : Option Told) (op : Op) (did : List OneDeed) (room seen : ℕ) (answer : Option ℕ) → Follows None told op did room seen answer
    → is_planned ≡ true → IfSome told (λ t. answer ≡ planned_for op t)
planned_by is_planned Follows law None op did room seen answer follows is = tt
planned_by is_planned Follows law (Some t) op did room seen answer follows is = law is t op did room seen answer follows

module _ {P : Type 0} (told : P → Option Told) (faults : P → ℕ) (maps : P → List Map) (maps_left : P → ℕ) (Own : OwnRelation) (Follows : FollowsRelation) (is_planned : Bool) (law : FollowsPlan is_planned Follows) where
  -- the port after entries that begin with this one of the actor
  rest_port : (n : ℕ) (c : CommandIn) (answer : Option ℕ) (op : Option Op) (reply : Reply) (rest : List OneEntry) (goes : Bool) (deeds : List OneDeed) (room before : ℕ) (p q : P) → begins (in_ask c) reply ≡ goes
      → MakesRest n goes (in_tell answer c) [] rest → PortOf told faults maps maps_left Own Follows 0 goes op c.place answer [] deeds room before p q → PortAfter is_planned op (tells_in rest) (told p) (told q)
  rest_port n c answer op reply rest false deeds room before p q is makes port = subst (λ (es : List OneEntry). PortAfter is_planned op (tells_in es) (told p) (told q)) (sym makes.0) (ap told port)
  rest_port n c answer op reply rest true deeds room before p q is makes port =
      subst (λ (es : List OneEntry). PortAfter is_planned op (tells_in es) (told p) (told q)) (sym makes.1) (port.asked_for, port.is_this, port.told_then, planned_by is_planned Follows law (told p) port.asked_for port.did room port.seen answer port.follows)

  inside_port : (n : ℕ) (c : CommandIn) (answer : Option ℕ) (op : Option Op) (asks : Bool) (made : List OneEntry) (deeds : List OneDeed) (room before : ℕ) (p q : P) → MakesCommand n asks answer c [] made
      → PortOf told faults maps maps_left Own Follows 0 (is_asked made) op c.place answer [] deeds room before p q → PortAfter is_planned op (tells_in made) (told p) (told q)
  inside_port n c answer op false made deeds room before p q ((reply, is), none) port =
      subst (λ (es : List OneEntry). PortOf told faults maps maps_left Own Follows 0 (is_asked es) op c.place answer [] deeds room before p q → PortAfter is_planned op (tells_in es) (told p) (told q)) (sym is) (λ same. ap told same) port
  inside_port n c answer op true made deeds room before p q (reply, rest, is, makes) port =
      subst (λ (es : List OneEntry). PortOf told faults maps maps_left Own Follows 0 (is_asked es) op c.place answer [] deeds room before p q → PortAfter is_planned op (tells_in es) (told p) (told q)) (sym is)
      (λ went. rest_port n c answer op reply rest (begins (in_ask c) reply) deeds room before p q refl makes went) port

  pub at_port : (n : ℕ) (c : CommandIn) (answer : Option ℕ) (op : Option Op) (closed : Bool) (made : List OneEntry) (deeds : List OneDeed) (room before : ℕ) (p q : P) → Makes n closed (Commanding c) answer [] made
      → PortOf told faults maps maps_left Own Follows 0 (is_asked made) op c.place answer [] deeds room before p q → PortAfter is_planned op (tells_in made) (told p) (told q)
  at_port n c answer op false made deeds room before p q makes port = inside_port n c answer op (is_driver_asked c.of_chip c.len (command_of c.cmd)) made deeds room before p q makes.1 port
  at_port n c answer op true made deeds room before p q makes port =
      subst (λ (es : List OneEntry). PortOf told faults maps maps_left Own Follows 0 (is_asked es) op c.place answer [] deeds room before p q → PortAfter is_planned op (tells_in es) (told p) (told q)) (sym makes.1.0) (λ same. ap told same) port

module _ {P : Type 0} (told : P → Option Told) (faults : P → ℕ) (maps : P → List Map) (maps_left : P → ℕ) (Own : OwnRelation) (Follows : FollowsRelation) (limit : ℕ) (is_planned : Bool) (law : FollowsPlan is_planned Follows) where
  -- a command, over a driver that makes no entries of its own
  command_told : (op : Option Op) (a b : ActorValue P) (c : CommandIn) (reply : Reply) (bytes : List ℕ) → HasCommanded told faults maps maps_left Own Follows 0 op a c reply bytes b
      → (called : HasCalled 0 a.pass.view (Commanding c) reply bytes b.pass.view) × PortAfter is_planned op (tells_in (entries_in called.did)) (told a.port) (told b.port)
  command_told op a b c reply bytes h = let called = h.called in (
    called,
    at_port told faults maps maps_left Own Follows is_planned law a.pass.view.number c called.answer op called.closed (entries_in called.did) called.did a.pass.view.room (length called.last.at.0) a.port b.port
        (subst (λ (own : List OneEntry). Makes a.pass.view.number called.closed (Commanding c) called.answer own (entries_in called.did)) (none_own called.own called.few_own) called.makes)
        (subst (λ (own : List OneEntry). PortOf told faults maps maps_left Own Follows 0 (is_asked (entries_in called.did)) op c.place called.answer own called.did a.pass.view.room (length called.last.at.0) a.port b.port) (none_own called.own called.few_own) h.port),
  )

  none_told : (op : Option Op) (tells : List (Option ℕ)) (p q : P) → tells ≡ [] → q ≡ p → PortAfter is_planned op tells (told p) (told q)
  none_told op tells p q none same = subst (λ (l : List (Option ℕ)). PortAfter is_planned op l (told p) (told q)) (sym none) (ap told same)

  -- so of every call of the device
  pub done_told : (call : DeviceCall) (on : FileKind) (a b : ActorValue P) (reply : Reply) (bytes : List ℕ) → limit ≡ 0 → HasDone told faults maps maps_left Own Follows limit call on a reply bytes b
      → (called : HasCalled 0 a.pass.view call reply bytes b.pass.view) × PortAfter is_planned (op_ordered call on) (tells_in (entries_in called.did)) (told a.port) (told b.port)
  done_told (Once call) on a b reply bytes none h = let called = h.0 in
      (called, none_told None (tells_in (entries_in called.did)) a.port b.port (once_tells a.pass.view.number called.closed call called.answer called.own (entries_in called.did) called.makes) h.1)
  done_told (Removing removal) on a b reply bytes none h = let called = h.0 in
      (called, none_told None (tells_in (entries_in called.did)) a.port b.port (removal_tells a.pass.view.number called.closed removal called.answer called.own (entries_in called.did) called.makes) h.2)
  done_told (Commanding c) on a b reply bytes none h =
      command_told (op_for (lines_on on c) c) a b c reply bytes (subst (λ (l : ℕ). HasCommanded told faults maps maps_left Own Follows l (op_for (lines_on on c) c) a c reply bytes b) none h)
