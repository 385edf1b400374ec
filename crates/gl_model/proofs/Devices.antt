-- The state of a device agrees with the phases of its chips.
use Rattle.std.proofs.Common.{◌≡◌, ◌<◌, ℕ, List, [], ◌∷◌, sym, ap, ◌∙◌, Bool, true, false, Option, Some, None, arith, inl, inr}
use Rattle.std.specs.Prelude.{◌==◌, ◌&&◌, length}
use Rattle.std.proofs.lemmas.Bool.{true≢false}
use Rattle.std.proofs.lemmas.Bool.Decides.{nat_tests}
use Rattle.gl_base.specs.Refusals.{when}
use Rattle.gl_base.specs.declared.errno.Errno.{Errno}
use Rattle.gl_base.specs.declared.errno.Errno.TheVariants.{Busy}
use Rattle.gl_pins.specs.PinRange.{is_among}
use Rattle.gl_simtree.specs.Calls.{is_leaving as is_leaving_state, is_live}
use Rattle.gl_simtree.specs.Rows.{state_of}
use Rattle.gl_simtree.specs.declared.row.State.TheVariants.{Off}
use Rattle.gl_world.specs.declared.history.Entry.{Entry}
use Rattle.gl_world.specs.History.{fold_from}
use Rattle.gl_world.specs.Removal.{Removes}
use Rattle.gl_model.specs.declared.call.Call.{Call}
use Rattle.gl_model.specs.declared.gift.Gift.{Gift}
use Rattle.gl_model.specs.declared.reply.Reply.{Reply}
use Rattle.gl_model.specs.declared.reply.Reply.TheVariants.{Done, Refused}
use Rattle.gl_model.specs.Chips.{is_leaving, phase_at}
use Rattle.gl_model.specs.Devices.{DevicesAgree, StateAgrees}
use Rattle.gl_model.specs.Machine.{machine, world_of}
use Rattle.gl_model.specs.OneRemoval.{IsRemovedByOne}
use Rattle.gl_model.specs.Outcome.{refused_or}
use Rattle.gl_model.specs.Places.{origin_at}
use Rattle.gl_model.specs.Removal.{is_actor, is_of, is_removing, is_removing_of, remove_ended, removed_places}
use Rattle.gl_model.specs.Sound.{IsSound, IsSoundFor, is_leaving_of}
use Rattle.gl_model.specs.Step.{step}
use Rattle.gl_model.specs.World.{World, opening}
use Rattle.gl_model.proofs.Phases.{both, rank_is_leaving, removed_finds}
use Rattle.gl_model.proofs.Soundness.{chosen, keeps_sound, opens}
use Rattle.gl_model.proofs.TreeStates.{state_off}

pub first_among : (first count : ℕ) → 0 < count → is_among first count first ≡ true
first_among first count h = grind (arith, nat_tests)

removing_is_leaving : (device : List ℕ) (actor : ℕ) (w : World) (p : ℕ) → is_removing_of device actor w p ≡ true → is_leaving_of device w p ≡ true
removing_is_leaving device actor w p h =
    let a = both (is_of device w p) (is_removing actor w p) h in
    let b = both (is_leaving (phase_at w p)) (is_actor actor (origin_at w p).remover) a.1 in
    ap (λ b. b && is_leaving (phase_at w p)) a.0 ∙ b.0

agrees : (device : List ℕ) (w : World) → IsSoundFor device w → StateAgrees device w
agrees device w s = record {
  live_has_up = λ live. (s.first, s.stand s.first ∙ first_among s.first s.count (s.live_has_up live));
  up_is_live = λ up. elim (chosen (is_live (state_of device w.tree))) as (λ _. is_live (state_of device w.tree) ≡ true) [
    | inl t ↦ t
    | inr f ↦ absurd (true≢false (sym up.1 ∙ s.idle f up.0))
  ];
  leaving_has_chip = λ leaving. let r = s.leaving_has_remover leaving in (r.1, removing_is_leaving device r.0 w r.1 r.2);
  chip_is_leaving = λ leaving. s.leaving leaving.0 leaving.1;
}

-- the last call of a device's removal

not_refused : (e : Errno) → Refused e ≡ Done → ⊥
not_refused e h = true≢false (sym (ap is_done h))
  where
    is_done : Reply → Bool
    is_done Done = true
    is_done _ = false

ended_off : (r : Option Errno) (w : World) (actor : ℕ) (device : List ℕ) → (refused_or r w (remove_ended actor device w)).reply ≡ Done
    → state_of device (refused_or r w (remove_ended actor device w)).world.tree ≡ Off
ended_off None w actor device h = state_off device w.tree
ended_off (Some e) w actor device h = absurd (not_refused e h)

abbrev some_number : Option ℕ → ℕ
some_number (Some n) = n
some_number None = 0

module _ {K : Type 0} (stands_for : K → World → Type 0) where
  sound_after : (w : World) (history : List (Entry K Call Reply Gift)) → IsSound w → IsSound (fold_from (machine stands_for) w history)
  sound_after w [] s = s
  sound_after w (e ∷ history) s = sound_after (step w e.actor e.call).world history (keeps_sound w e.actor e.call s)

  -- the world after a history is sound
  pub sound_world : (history : List (Entry K Call Reply Gift)) → IsSound (world_of stands_for history)
  sound_world history = sound_after opening history opens

  pub devices_agree : DevicesAgree stands_for
  devices_agree = record {
    agree = λ history legal device. agrees device (world_of stands_for history) ((sound_world history).devices device);
    ends_off = λ w actor device h. ended_off (when (length (removed_places device actor w) == 0) Busy) w actor device h;
  }

  -- who removes a device

  removes_leaving : (device : List ℕ) (w : World) (actor p : ℕ) → is_of device w p ≡ true → Removes (machine stands_for) w actor p → is_leaving_of device w p ≡ true
  removes_leaving device w actor p of removes = ap (λ b. b && is_leaving (phase_at w p)) of ∙ rank_is_leaving (phase_at w p) removes.0

  pub removed_by_one : (device : List ℕ) (w : World) → IsSoundFor device w → is_leaving_state (state_of device w.tree) ≡ true → IsRemovedByOne stands_for device w
  removed_by_one device w s leaving =
      let r = s.leaving_has_remover leaving in
      let h = both (is_of device w r.1) (is_removing r.0 w r.1) r.2 in
      let finds = removed_finds w r.0 r.1 h.1 in
      record {
        actor = r.0;
        place = r.1;
        of_it = h.0;
        removes = finds;
        no_other = λ other p of removes.
            ap some_number (sym removes.1 ∙ s.one_remover p r.1 (removes_leaving device w other p of removes) (removing_is_leaving device r.0 w r.1 r.2) ∙ finds.1);
      }
