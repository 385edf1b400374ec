-- The entries of whole calls of the device leave no removal unfinished.
use Rattle.std.proofs.Common.{Option, Some, None, ◌≡◌, ℕ, List, [], ◌∷◌, refl, sym, ap, subst, inl, inr, Bool, true, false}
use Rattle.std.specs.Prelude.{if◌then◌else◌}
use Rattle.std.proofs.lemmas.Bool.{true≢false}
use Rattle.gl_base.specs.Rows.{Each}
use Rattle.gl_uapi.specs.Command.{command_of}
use Rattle.gl_world.specs.History.{entry}
use Rattle.gl_world.specs.Removal.{AllQuiet, IsQuiet}
use Rattle.gl_world.specs.declared.history.Entry.{Entry}
use Rattle.gl_model.specs.declared.call.Call.{Call}
use Rattle.gl_model.specs.declared.call.Call.TheVariants.{Probe, Unplug, MakeDir, RemoveDir, Write, Read, Live, Remove, Tick, Pin, Irq, Pull, Level, Interrupt, OpenChip, Find, Ioctl, ReadEdges, ReadInfo, PollLine, PollChip, Close, Refused as RefusedCall}
use Rattle.gl_model.specs.declared.gift.Gift.{Gift}
use Rattle.gl_model.specs.declared.reply.Reply.{Reply}
use Rattle.gl_model.specs.Calling.{AreOfCalls, Called, IsCalled, made_by}
use Rattle.gl_model.specs.Entries.{begins, last_call, places_named}
use Rattle.gl_model.specs.Machine.{machine}
use Rattle.gl_model.specs.declared.device_call.DeviceCall.{DeviceCall}
use Rattle.gl_model.specs.declared.device_call.DeviceCall.TheVariants.{Once, Removing, Commanding}
use Rattle.gl_model.specs.declared.device_call.CommandIn.{CommandIn}
use Rattle.gl_model.specs.declared.device_call.RemovalOf.{RemovalOf}
use Rattle.gl_model.specs.declared.device_call.RemovalOf.TheVariants.{OfChip, OfDevice}
use Rattle.gl_model.specs.Parts.{MakesAt, MakesCommand, MakesInside, MakesRest, first_call, guard_of, in_ask, in_tell, in_whole, is_driver_asked, device_has, is_poll, is_single}
use Rattle.gl_model.specs.Step.{guard_reply}
use Rattle.gl_model.proofs.Awaiting.{Leads, Moves, quiet_leads}
use Rattle.gl_model.proofs.Leading.{leads_on}
use Rattle.gl_model.specs.World.{World}

module _ {K : Type 0} (stands_for : K → World → Type 0) where
  -- a call that is whole by itself has nothing to do with removals
  single_is_quiet : (actor : ℕ) (call : Call) (reply : Reply) → is_single call ≡ true → IsQuiet (machine stands_for) (entry actor call reply)
  single_is_quiet actor (Unplug place last) reply e = absurd (true≢false (sym e))
  single_is_quiet actor (Remove device last) reply e = absurd (true≢false (sym e))
  single_is_quiet actor (Ioctl place fd cmd len bytes part) reply e = absurd (true≢false (sym e))
  single_is_quiet actor (RefusedCall place poll) reply e = absurd (true≢false (sym e))
  single_is_quiet actor (Probe label lines kind) reply e = (λ bytes. refl, refl)
  single_is_quiet actor (MakeDir path) reply e = (λ bytes. refl, refl)
  single_is_quiet actor (RemoveDir path) reply e = (λ bytes. refl, refl)
  single_is_quiet actor (Write path value) reply e = (λ bytes. refl, refl)
  single_is_quiet actor (Read path) reply e = (λ bytes. refl, refl)
  single_is_quiet actor (Live device) reply e = (λ bytes. refl, refl)
  single_is_quiet actor (Tick mono real) reply e = (λ bytes. refl, refl)
  single_is_quiet actor (Pin place what) reply e = (λ bytes. refl, refl)
  single_is_quiet actor (Irq place offset what) reply e = (λ bytes. refl, refl)
  single_is_quiet actor (Pull place offset up) reply e = (λ bytes. refl, refl)
  single_is_quiet actor (Level place offset pull) reply e = (λ bytes. refl, refl)
  single_is_quiet actor (Interrupt place offset up) reply e = (λ bytes. refl, refl)
  single_is_quiet actor (OpenChip word) reply e = (λ bytes. refl, refl)
  single_is_quiet actor (Find place name) reply e = (λ bytes. refl, refl)
  single_is_quiet actor (ReadEdges place fd len) reply e = (λ bytes. refl, refl)
  single_is_quiet actor (ReadInfo place fd len) reply e = (λ bytes. refl, refl)
  single_is_quiet actor (PollLine place fd) reply e = (λ bytes. refl, refl)
  single_is_quiet actor (PollChip place fd) reply e = (λ bytes. refl, refl)
  single_is_quiet actor (Close fd) reply e = (λ bytes. refl, refl)

  -- the first call of a removal that wasn't answered Done has begun none
  unbegun_is_quiet : (actor : ℕ) (removal : RemovalOf) (reply : Reply) → begins (first_call removal) reply ≡ false → IsQuiet (machine stands_for) (entry actor (first_call removal) reply)
  unbegun_is_quiet actor (OfChip place) reply e = (λ bytes. ap (λ (b : Bool). if b then places_named bytes else []) e, refl)
  unbegun_is_quiet actor (OfDevice device) reply e = (λ bytes. ap (λ (b : Bool). if b then places_named bytes else []) e, refl)

  -- the last call of a removal begins none
  last_begins_none : (removal : RemovalOf) (reply : Reply) (bytes : List ℕ) → (machine stands_for).begun_places (last_call (first_call removal)) reply bytes ≡ []
  last_begins_none (OfChip place) reply bytes = refl
  last_begins_none (OfDevice device) reply bytes = refl

  module _ (actor : ℕ) where
    quiet_then : (e : Entry K Call Reply Gift) (es : List (Entry K Call Reply Gift)) → IsQuiet (machine stands_for) e → Leads (machine stands_for) None es None → Leads (machine stands_for) None (e ∷ es) None
    quiet_then e es quiet rest = (None, inl (quiet, refl), rest)

    removal_leads : (removal : RemovalOf) (reply : Reply) (rest : List (Entry K Call Reply Gift)) (b : Bool) → begins (first_call removal) reply ≡ b → MakesRest actor b (last_call (first_call removal)) [] rest
        → Leads (machine stands_for) None (entry actor (first_call removal) reply ∷ rest) None
    removal_leads removal reply rest false e makes = subst (λ es. Leads (machine stands_for) None (entry actor (first_call removal) reply ∷ es) None) (sym makes.0)
        (quiet_then (entry actor (first_call removal) reply) [] (unbegun_is_quiet actor removal reply e) refl)
    removal_leads removal reply rest true e makes = subst (λ es. Leads (machine stands_for) None (entry actor (first_call removal) reply ∷ es) None) (sym makes.1)
        (Some (last_call (first_call removal)), inr (inl (refl, refl)), (None, inr (inr (refl, refl, λ bytes. last_begins_none removal makes.0 bytes)), refl))

    rest_leads : (second : Call) (own rest : List (Entry K Call Reply Gift)) (b : Bool) → ((reply : Reply) → IsQuiet (machine stands_for) (entry actor second reply)) → AllQuiet (machine stands_for) own → MakesRest actor b second own rest → Leads (machine stands_for) None rest None
    rest_leads second own rest false quiet quiet_own makes = subst (λ es. Leads (machine stands_for) None es None) (sym makes.0) refl
    rest_leads second own rest true quiet quiet_own makes = subst (λ es. Leads (machine stands_for) None es None) (sym makes.1)
        (leads_on (Moves (machine stands_for)) None None None own (entry actor second makes.0 ∷ []) (quiet_leads (machine stands_for) None own quiet_own) (quiet_then (entry actor second makes.0) [] (quiet makes.0) refl))

    command_leads : (asked : Bool) (answer : Option ℕ) (c : CommandIn) (own made : List (Entry K Call Reply Gift)) → AllQuiet (machine stands_for) own → MakesCommand actor asked answer c own made → Leads (machine stands_for) None made None
    command_leads false answer c own made quiet makes = subst (λ es. Leads (machine stands_for) None es None) (sym makes.0.1) (quiet_then (entry actor (in_whole c) makes.0.0) [] (λ bytes. refl, refl) refl)
    command_leads true answer c own made quiet makes = subst (λ es. Leads (machine stands_for) None es None) (sym makes.2)
        (quiet_then (entry actor (in_ask c) makes.0) makes.1 (λ bytes. refl, refl) (rest_leads (in_tell answer c) own makes.1 (begins (in_ask c) makes.0) (λ reply. (λ bytes. refl, refl)) quiet makes.3))

    inside_leads : (call : DeviceCall) (answer : Option ℕ) (own made : List (Entry K Call Reply Gift)) → device_has call ≡ true → AllQuiet (machine stands_for) own → MakesInside actor call answer own made → Leads (machine stands_for) None made None
    inside_leads (Once call) answer own made is quiet makes = subst (λ es. Leads (machine stands_for) None es None) (sym makes.0.1) (quiet_then (entry actor call makes.0.0) [] (single_is_quiet actor call makes.0.0 is) refl)
    inside_leads (Removing removal) answer own made is quiet makes = subst (λ es. Leads (machine stands_for) None es None) (sym makes.0.2) (removal_leads removal makes.0.0 makes.0.1 (begins (first_call removal) makes.0.0) refl makes.0.3)
    inside_leads (Commanding c) answer own made is quiet makes = command_leads (is_driver_asked c.of_chip c.len (command_of c.cmd)) answer c own made quiet makes

    guard_leads : (guard : Option ℕ) (closed : Bool) (call : DeviceCall) (answer : Option ℕ) (own made : List (Entry K Call Reply Gift)) → device_has call ≡ true → AllQuiet (machine stands_for) own → MakesAt actor guard closed call answer own made → Leads (machine stands_for) None made None
    guard_leads None closed call answer own made is quiet makes = inside_leads call answer own made is quiet makes
    guard_leads (Some place) false call answer own made is quiet makes = inside_leads call answer own made is quiet makes
    guard_leads (Some place) true call answer own made is quiet makes = subst (λ es. Leads (machine stands_for) None es None) (sym makes.0)
        (quiet_then (entry actor (RefusedCall place (is_poll call)) (guard_reply (is_poll call))) [] (λ bytes. refl, refl) refl)

    calls_lead : (calls : List (Called K)) → Each (IsCalled stands_for actor) calls → Leads (machine stands_for) None (made_by calls) None
    calls_lead [] each = refl
    calls_lead (called ∷ later) each = leads_on (Moves (machine stands_for)) None None None called.made (made_by later)
        (guard_leads (guard_of called.call) called.closed called.call called.answer called.own called.made each.0.makes.0 each.0.quiet each.0.makes.1) (calls_lead later each.1)

    pub all_lead : (entries : List (Entry K Call Reply Gift)) → AreOfCalls stands_for actor entries → Leads (machine stands_for) None entries None
    all_lead entries a = subst (λ es. Leads (machine stands_for) None es None) (sym a.are) (calls_lead a.calls a.each)
