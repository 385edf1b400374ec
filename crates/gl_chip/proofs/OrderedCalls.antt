-- Any call of the device, as it is ordered.
use Rattle.std.proofs.Common.{◌≡◌, ◌≢◌, ◌⊎◌, ◌↔◌, inl, inr, ℕ, ◌<◌, Bool, true, false, List, ◌++◌, length, drop, Option, None, Result, Ok, Err, IfOk, IfErr, refl, sym, ap, ◌∙◌, subst}
use Rattle.std.specs.Prelude.{◌^◌}
use Rattle.std.proofs.lemmas.Bool.{true≢false}
use Rattle.gl_base.specs.declared.errno.Errno.{Errno}
use Rattle.gl_base.specs.declared.errno.Errno.TheVariants.{Full, NoDev, NoMemory}
use Rattle.gl_base.specs.declared.limits.TheConstants.{PLACES}
use Rattle.gl_driver.specs.declared.map.Map.{Map}
use Rattle.gl_driver.specs.Told.{Told}
use Rattle.gl_base.specs.declared.op.Op.{Op}
use Rattle.gl_uapi.specs.Command.{command_of}
use Rattle.gl_gate.specs.Calls.{KnowsClosed, KnowsDrained, KnowsTheSame}
use Rattle.gl_model.specs.Entries.{guarded_place, is_done}
use Rattle.gl_model.specs.declared.call.Call.{Call}
use Rattle.gl_model.specs.declared.call.Call.TheVariants.{Unplug}
use Rattle.gl_model.specs.declared.device_call.CommandIn.{CommandIn}
use Rattle.gl_model.specs.declared.device_call.DeviceCall.{DeviceCall}
use Rattle.gl_model.specs.declared.device_call.DeviceCall.TheVariants.{Commanding, Once, Removing}
use Rattle.gl_model.specs.declared.device_call.RemovalOf.{RemovalOf}
use Rattle.gl_model.specs.declared.device_call.RemovalOf.TheVariants.{OfChip, OfDevice}
use Rattle.gl_model.specs.declared.gift.Gift.{Gift}
use Rattle.gl_model.specs.declared.reply.Reply.{Reply}
use Rattle.gl_model.specs.declared.reply.Reply.TheVariants.{Number, Refused}
use Rattle.gl_model.specs.Parts.{first_call, in_whole, is_driver_asked}
use Rattle.gl_model.specs.Replies.{has_form}
use Rattle.gl_model.specs.Step.{guard_reply}
use Rattle.gl_chip.specs.Called.{HasCalled}
use Rattle.gl_chip.specs.DriverCommands.{HasCommanded, IsOp}
use Rattle.gl_asking.specs.declared.kinds.Answered.{Answered}
use Rattle.gl_asking.specs.declared.kinds.FileKind.{FileKind}
use Rattle.gl_asking.specs.declared.kinds.FileKind.TheVariants.{Chip}
use Rattle.gl_asking.specs.Handed.{command_in}
use Rattle.gl_asking.specs.Rows.{HasLines, is_chip}
use Rattle.gl_chip.specs.Opened.{LastFinds}
use Rattle.gl_chip.specs.Orders.{Brings, CouldNot, DeviceCallTakesMemory, FitsOrder, HasDone, IsGoneBy, KnowsAfter, KnowsGone, KnowsRemoved}
use Rattle.gl_chip.specs.Removals.{AllDrained, RemovedBy, is_first_call, is_gone_outside, removal_of}
use Rattle.gl_chip.specs.Steps.{FoundNoRoom}
use Rattle.gl_chip.specs.Values.{ActorValue, FollowsRelation, OneView, OwnRelation}
use Rattle.gl_core.specs.Device.{core}
use Rattle.gl_chip.proofs.CommandResults.{whole_commanded}
use Rattle.gl_chip.proofs.GateSteps.{if_err, if_ok}
use Rattle.gl_chip.proofs.HandedBytes.{command_fits}
use Rattle.gl_chip.proofs.RequestedLines.{whole_no_number}
use Rattle.gl_chip.proofs.SameActors.{knows_by_itself}
use Rattle.gl_chip.proofs.WholeCalls.{called_not_full, called_not_memory}

module _ {P : Type 0} (told : P → Option Told) (faults : P → ℕ) (maps : P → List Map) (maps_left : P → ℕ) (Own : OwnRelation) (Follows : FollowsRelation) (limit : ℕ) where
  -- a command, by what the driver is asked for it
  pub as_ordered : (result : Result Reply Errno) (op wanted : Option Op) (a b : ActorValue P) (c : CommandIn) (old new : List ℕ) → wanted ≡ op
      → IfOk result (λ r. (bytes : List ℕ) × (new ≡ bytes ++ drop (length bytes) old) × HasCommanded told faults maps maps_left Own Follows limit op a c r bytes b)
      → IfOk result (λ r. (bytes : List ℕ) × (new ≡ bytes ++ drop (length bytes) old) × HasCommanded told faults maps maps_left Own Follows limit wanted a c r bytes b)
  as_ordered result op wanted a b c old new wants h =
      subst (λ (o : Option Op). IfOk result (λ r. (bytes : List ℕ) × (new ≡ bytes ++ drop (length bytes) old) × HasCommanded told faults maps maps_left Own Follows limit o a c r bytes b)) (sym wants) h

  -- one for which the driver isn't asked
  pub whole_ordered : (result : Result Reply Errno) (op : Option Op) (a b : ActorValue P) (c : CommandIn) (old new : List ℕ) → is_driver_asked c.of_chip c.len (command_of c.cmd) ≡ false → b.port ≡ a.port
      → IfOk result (λ r. (bytes : List ℕ) × (new ≡ bytes ++ drop (length bytes) old) × HasCalled 0 a.pass.view (Commanding c) r bytes b.pass.view)
      → IfOk result (λ r. (bytes : List ℕ) × (new ≡ bytes ++ drop (length bytes) old) × HasCommanded told faults maps maps_left Own Follows limit op a c r bytes b)
  whole_ordered result op a b c old new not_asked same h =
      if_ok result _ _ (λ r k. (k.0, k.1, whole_commanded told faults maps maps_left Own Follows limit op a b c r k.0 not_asked k.2 same)) h

  -- the same of one whose lines come with its reply
  pub as_answered : (result : Result Answered Errno) (op wanted : Option Op) (a b : ActorValue P) (c : CommandIn) (old new : List ℕ) → wanted ≡ op
      → IfOk result (λ r. (bytes : List ℕ) × (new ≡ bytes ++ drop (length bytes) old) × HasCommanded told faults maps maps_left Own Follows limit op a c r.reply bytes b)
      → IfOk result (λ r. (bytes : List ℕ) × (new ≡ bytes ++ drop (length bytes) old) × HasCommanded told faults maps maps_left Own Follows limit wanted a c r.reply bytes b)
  as_answered result op wanted a b c old new wants h =
      subst (λ (o : Option Op). IfOk result (λ r. (bytes : List ℕ) × (new ≡ bytes ++ drop (length bytes) old) × HasCommanded told faults maps maps_left Own Follows limit o a c r.reply bytes b)) (sym wants) h

abbrev is_number : Reply → Bool
is_number (Number n) = true
is_number _ = false

no_number : (c : CommandIn) (reply : Reply) → (reply ≡ guard_reply false) ⊎ (has_form (in_whole c) reply ≡ true) → (n : ℕ) → reply ≡ Number n → ⊥
no_number c reply (inl gone) n is = true≢false (ap is_number (sym is ∙ gone))
no_number c reply (inr form) n is = whole_no_number (command_of c.cmd) n (subst (λ r. has_form (in_whole c) r ≡ true) is form)

-- it is answered no number
pub whole_numbers : (result : Result Reply Errno) (op : Option Op) (c : CommandIn) → IfOk result (λ r. (r ≡ guard_reply false) ⊎ (has_form (in_whole c) r ≡ true)) → IfOk result (λ r. (n : ℕ) → r ≡ Number n → (n < 2 ^ 31) × IsOp op)
whole_numbers result op c h = if_ok result _ _ (λ r form n is. absurd (no_number c r form n is)) h

pub number_ordered : (result : Result Reply Errno) (op wanted : Option Op) → wanted ≡ op → IfOk result (λ r. (n : ℕ) → r ≡ Number n → (n < 2 ^ 31) × IsOp op) → IfOk result (λ r. (n : ℕ) → r ≡ Number n → (n < 2 ^ 31) × IsOp wanted)
number_ordered result op wanted wants h = subst (λ (o : Option Op). IfOk result (λ r. (n : ℕ) → r ≡ Number n → (n < 2 ^ 31) × IsOp o)) (sym wants) h

pub number_as : (result : Result Answered Errno) (op wanted : Option Op) → wanted ≡ op → IfOk result (λ r. (n : ℕ) → r.reply ≡ Number n → (n < 2 ^ 31) × IsOp op) → IfOk result (λ r. (n : ℕ) → r.reply ≡ Number n → (n < 2 ^ 31) × IsOp wanted)
number_as result op wanted wants h = subst (λ (o : Option Op). IfOk result (λ r. (n : ℕ) → r.reply ≡ Number n → (n < 2 ^ 31) × IsOp o)) (sym wants) h

module _ {P : Type 0} where
  -- there was no memory
  pub wanted : (call : DeviceCall) (errno : Errno) (a : ActorValue P) → (errno ≡ NoMemory) × DeviceCallTakesMemory call → CouldNot call errno a a
  wanted call errno a is = inl (is.0, is.1, refl)

  -- the history was full
  pub was_full : (call : DeviceCall) (errno : Errno) (a b : ActorValue P) (old new : List ℕ) → (errno ≡ Full) × (new ≡ old) × (b.port ≡ a.port) × FoundNoRoom core a.pass.view b.pass.view
      → CouldNot call errno a b × (new ≡ old)
  was_full call errno a b old new h = (inr (h.0, h.2, h.3), h.1)

  pub was_full_removing : (result : Result Reply Errno) (a b : ActorValue P) → b.port ≡ a.port → IfErr result (λ e. (e ≡ Full) × FoundNoRoom core a.pass.view b.pass.view)
      → IfErr result (λ e. (e ≡ Full) × (b.port ≡ a.port) × FoundNoRoom core a.pass.view b.pass.view)
  was_full_removing result a b same h = if_err result _ _ (λ e k. (k.0, same, k.1)) h

-- the first call of a removal, and whose it is
pub begins_removal : (removal : RemovalOf) → is_first_call (first_call removal) ≡ true
begins_removal (OfChip place) = refl
begins_removal (OfDevice device) = refl

pub whose_removal : (removal : RemovalOf) → removal_of (first_call removal) ≡ removal
whose_removal (OfChip place) = refl
whose_removal (OfDevice device) = refl

-- what its actor knows of places then
gone_by : (removal : RemovalOf) (first : Call) (w : OneView) → first ≡ first_call removal → ((place : ℕ) → first ≡ Unplug place false → KnowsClosed w place × KnowsDrained w place) → KnowsGone removal w
gone_by (OfChip place) first w is drained = drained place is
gone_by (OfDevice device) first w is drained = tt

pub knows_removed : (result : Result Reply Errno) (v w : OneView) (removal : RemovalOf) (first : Call) → first ≡ first_call removal → IfOk result (λ r. is_done r ≡ false → KnowsTheSame v w)
    → IfOk result (λ r. is_done r ≡ true → (place : ℕ) → first ≡ Unplug place false → KnowsClosed w place × KnowsDrained w place) → IfOk result (λ r. KnowsRemoved removal r v w)
knows_removed (Ok reply) v w removal first is same drained = record { removed = λ done. gone_by removal first w is (drained done); refused = same }
knows_removed (Err errno) v w removal first is same drained = tt

is_gone_by : (removal : RemovalOf) (reply : Reply) (first : Call) (w : OneView) → first ≡ first_call removal → ((place : ℕ) → first ≡ Unplug place false → (reply ≡ Refused NoDev) ↔ LastFinds (is_gone_outside place) w.seen)
    → IsGoneBy removal reply w
is_gone_by (OfChip place) reply first w is gone = gone place is
is_gone_by (OfDevice device) reply first w is gone = tt

-- its entries
pub removal_ends : (result : Result Reply Errno) (v w : OneView) (removal : RemovalOf) (first : Call) → first ≡ first_call removal → removal_of first ≡ removal → IfOk result (λ r. RemovedBy (removal_of first) r v w)
    → IfOk result (λ r. (place : ℕ) → first ≡ Unplug place false → (r ≡ Refused NoDev) ↔ LastFinds (is_gone_outside place) w.seen) → IfOk result (λ r. RemovedBy removal r v w × IsGoneBy removal r w)
removal_ends (Ok reply) v w removal first is whose ended gone = (subst (λ (x : RemovalOf). RemovedBy x reply v w) whose ended, is_gone_by removal reply first w is gone)
removal_ends (Err errno) v w removal first is whose ended gone = tt

-- a command with its buffer, as a call of the device
pub fits_commanding : (c : CommandIn) (on : FileKind) (buffer : List ℕ) → c.place < PLACES → c ≡ command_in c.place c.fd c.of_chip c.cmd buffer → (c.of_chip ≡ is_chip on) × HasLines on → FitsOrder (Commanding c) on buffer
fits_commanding c on buffer below handed file = record { device = (command_fits c buffer (record { ring = None; queue = None; asked = None }) below handed).fits_call; file = file; buffer = handed }

-- one on a request brings nothing
pub request_brings : (c : CommandIn) (gift : Gift) → c.of_chip ≡ false → Brings (Commanding c) gift
request_brings c gift request chip = absurd (true≢false (sym chip ∙ request))

-- who made no call
pub knows_unmade : (call : DeviceCall) (errno : Errno) (v : OneView) → KnowsAfter call (Err errno) v v
knows_unmade (Once call) errno v = knows_by_itself (guarded_place call) v
knows_unmade (Removing removal) errno v = tt
knows_unmade (Commanding c) errno v = tt

-- a removal that was made
module _ {P : Type 0} (told : P → Option Told) (faults : P → ℕ) (maps : P → List Map) (maps_left : P → ℕ) (Own : OwnRelation) (Follows : FollowsRelation) (limit : ℕ) where
  pub removal_done : (result : Result Reply Errno) (a b : ActorValue P) (removal given : RemovalOf) → given ≡ removal → b.port ≡ a.port
      → IfOk result (λ r. (bytes : List ℕ) × (called : HasCalled 0 a.pass.view (Removing given) r bytes b.pass.view) × AllDrained called.did b.pass.view)
      → IfOk result (λ r. (bytes : List ℕ) × HasDone told faults maps maps_left Own Follows limit (Removing removal) Chip a r bytes b)
  removal_done result a b removal given is same h =
      if_ok result _ _ (λ r k. (k.0, (k.1, k.2, same)))
      (subst (λ (x : RemovalOf). IfOk result (λ r. (bytes : List ℕ) × (called : HasCalled 0 a.pass.view (Removing x) r bytes b.pass.view) × AllDrained called.did b.pass.view)) is h)

  -- the actor of a command that was answered as at a closed guard
  pub knows_commanded : (result : Result Answered Errno) (op : Option Op) (a b : ActorValue P) (c : CommandIn) (old new : List ℕ)
      → IfOk result (λ r. (bytes : List ℕ) × (new ≡ bytes ++ drop (length bytes) old) × HasCommanded told faults maps maps_left Own Follows limit op a c r.reply bytes b)
      → IfOk result (λ r. r.reply ≡ guard_reply false → KnowsClosed b.pass.view c.place)
  knows_commanded result op a b c old new h = if_ok result _ _ (λ r k gone. let guard = k.2.called.guard c.place refl in guard.knows (guard.gone_alone gone)) h

  -- a reply is neither of a call's errors
  pub done_is_answer : (call : DeviceCall) (on : FileKind) (a b : ActorValue P) (reply : Reply) (bytes : List ℕ) → HasDone told faults maps maps_left Own Follows limit call on a reply bytes b → (reply ≢ Refused Full) × (reply ≢ Refused NoMemory)
  done_is_answer (Once call) on a b reply bytes h = (called_not_full 0 a.pass.view b.pass.view (Once call) reply bytes h.0, called_not_memory 0 a.pass.view b.pass.view (Once call) reply bytes h.0)
  done_is_answer (Removing removal) on a b reply bytes h = (called_not_full 0 a.pass.view b.pass.view (Removing removal) reply bytes h.0, called_not_memory 0 a.pass.view b.pass.view (Removing removal) reply bytes h.0)
  done_is_answer (Commanding c) on a b reply bytes h = (called_not_full limit a.pass.view b.pass.view (Commanding c) reply bytes h.called, called_not_memory limit a.pass.view b.pass.view (Commanding c) reply bytes h.called)
