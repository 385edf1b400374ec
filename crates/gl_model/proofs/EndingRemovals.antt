-- The last call of a removal is answered Done, where the actor that makes it has begun the removal.
use Rattle.gl_model.proofs.PhaseLaws.{both_true, is_that_device, one_passes, begins_them}
use Rattle.std.proofs.Common.{Option, Some, None, Bool, true, false, not, eq-eqb, ne_eqb, ◌≡◌, ◌<◌, ◌≤◌, ℕ, List, [], ◌∷◌, ◌++◌, length, refl, sym, ap, ◌∙◌, arith, subst}
use Rattle.std.specs.Prelude.{Contains, cond, is_none, ◌==◌}
use Rattle.std.proofs.lemmas.Bool.{true≢false, false≢true}
use mathlib.Core.Logic.{dite}
use native.Mathlib.Decide.{ℕ_discrete}
use Rattle.gl_base.specs.Refusals.{when}
use Rattle.gl_base.specs.declared.errno.Errno.{Errno}
use Rattle.gl_base.specs.declared.errno.Errno.TheVariants.{Busy}
use Rattle.gl_base.specs.declared.phase.Phase.{Phase}
use Rattle.gl_base.specs.declared.phase.Phase.TheVariants.{Absent, Up, Leaving, Gone}
use Rattle.gl_simtree.specs.Calls.{is_live, remove_refusal}
use Rattle.gl_simtree.specs.Rows.{state_of}
use Rattle.gl_world.specs.declared.machine.Machine.{Ghosts}
use Rattle.gl_world.specs.declared.history.Entry.{Entry}
use Rattle.gl_world.specs.History.{AnsweredFrom, entries_of, entry, fold_from, stage as stage_of}
use Rattle.gl_world.specs.Laws.{Laws}
use Rattle.gl_world.specs.Ranks.{rank}
use Rattle.gl_world.specs.Removal.{AllQuiet, Removes}
use Rattle.gl_world.proofs.Histories.{answered_rest, fold_append}
use Rattle.gl_model.specs.declared.call.Call.{Call}
use Rattle.gl_model.specs.declared.call.Call.TheVariants.{Remove, Unplug}
use Rattle.gl_model.specs.declared.gift.Gift.{Gift}
use Rattle.gl_model.specs.declared.reply.Reply.{Reply}
use Rattle.gl_model.specs.declared.reply.Reply.TheVariants.{Done, Refused}
use Rattle.gl_model.specs.Chips.{is_leaving, phase_at}
use Rattle.gl_model.specs.EndingRemovals.{HasBegun, LastCallsAreDone}
use Rattle.gl_model.specs.Entries.{awaited_call, begun_places, ending_call, is_done, last_call}
use Rattle.gl_model.specs.Machine.{IsLegal, bytes_of, machine, remover_of, reply_of, world_after, world_of}
use Rattle.gl_model.specs.Outcome.{Outcome, done, refused_or}
use Rattle.gl_model.specs.declared.device_call.RemovalOf.TheVariants.{OfChip, OfDevice}
use Rattle.gl_model.specs.declared.device_call.RemovalOf.{RemovalOf}
use Rattle.gl_model.specs.Parts.{first_call}
use Rattle.gl_model.specs.Places.{origin_at}
use Rattle.gl_model.specs.Removal.{end_at, is_actor, is_of, is_outside_tree, is_removing, is_removing_of, is_unplugging, remove_begun, remove_ended, removed_places, unplug_begun, unplug_refusal}
use Rattle.gl_model.specs.Sound.{IsSound, IsSoundFor}
use Rattle.gl_model.specs.Step.{step}
use Rattle.gl_model.specs.World.{World, opening}
use Rattle.gl_model.proofs.Devices.{first_among, sound_world}
use Rattle.gl_model.proofs.Ledger.{some_is}
use Rattle.gl_model.proofs.MachineLaws.{always, machine_laws}
use Rattle.gl_model.proofs.Phases.{actor_is, named, named_are, rank_is_leaving, stage, within_chips}
use Rattle.gl_model.proofs.Soundness.{keeps_sound, remove_finds}

done_unless : (b : Bool) (w : World) (out : Outcome) → b ≡ true → out.reply ≡ Done → (refused_or (when (not b) Busy) w out).reply ≡ Done
done_unless true w out e h = h
done_unless false w out e h = absurd (false≢true e)

done_where : (b : Bool) (w : World) (out : Outcome) → b ≡ false → out.reply ≡ Done → (refused_or (when b Busy) w out).reply ≡ Done
done_where false w out e h = h
done_where true w out e h = absurd (true≢false e)

unplug_done : (w : World) (by p : ℕ) → stage w p ≡ 2 → remover_of w p ≡ Some by → (origin_at w p).device ≡ None → (step w by (Unplug p true)).reply ≡ Done
unplug_done w by p leaving remover alone =
    let is_alone_there : is_outside_tree w p ≡ true = ap is_none alone in
    let removed : is_removing by w p ≡ true = both_true (is_leaving (phase_at w p)) (is_actor by (origin_at w p).remover) (rank_is_leaving (phase_at w p) leaving) (actor_is by (origin_at w p).remover remover) in
    done_unless (is_unplugging by w p) w (done (end_at (λ k. k == p) w)) (both_true (is_outside_tree w p) (is_removing by w p) is_alone_there removed) refl

remove_done : (w : World) (by p : ℕ) (device : List ℕ) → stage w p ≡ 2 → remover_of w p ≡ Some by → (origin_at w p).device ≡ Some device → (step w by (Remove device true)).reply ≡ Done
remove_done w by p device leaving remover of_device =
    let is_of_there : is_of device w p ≡ true = is_that_device device (origin_at w p).device of_device in
    let removed : is_removing by w p ≡ true = both_true (is_leaving (phase_at w p)) (is_actor by (origin_at w p).remover) (rank_is_leaving (phase_at w p) leaving) (actor_is by (origin_at w p).remover remover) in
    let t : is_removing_of device by w p ≡ true = both_true (is_of device w p) (is_removing by w p) is_of_there removed in
    let lt : p < length w.chips = within_chips w.chips p (omega arith) in
    done_where (length (removed_places device by w) == 0) w (remove_ended by device w) (one_passes (is_removing_of device by w) 0 (length w.chips) p (omega arith) (omega arith) t) refl

done_by : (o : Option (List ℕ)) (w : World) (by p : ℕ) → stage w p ≡ 2 → remover_of w p ≡ Some by → (origin_at w p).device ≡ o → (step w by (ending_call p o)).reply ≡ Done
done_by None w by p leaving remover e = unplug_done w by p leaving remover e
done_by (Some device) w by p leaving remover e = remove_done w by p device leaving remover e

-- a first call that is answered Done begins the removal of a place

refused_is_not_done : {A : Type 0} (e : Errno) → Refused e ≡ Done → A
refused_is_not_done e h = absurd (false≢true (ap is_done h))

unplug_names : (r : Option Errno) (w : World) (actor place : ℕ) → let out = refused_or r w (unplug_begun actor place w) in out.reply ≡ Done → Contains (begun_places (Unplug place false) out.reply out.bytes) place
unplug_names None w actor place h = named place 1 place (first_among place 1 (omega arith))
unplug_names (Some e) w actor place h = refused_is_not_done e h

remove_names : (r : Option Errno) (w : World) (actor : ℕ) (device : List ℕ) (s : IsSoundFor device w) → (r ≡ None → is_live (state_of device w.tree) ≡ true)
    → let out = refused_or r w (remove_begun actor device w) in out.reply ≡ Done → Contains (begun_places (Remove device false) out.reply out.bytes) s.first
remove_names None w actor device s live h = subst (λ ps. Contains ps s.first) (sym (named_are device w s)) (named s.first s.count s.first (first_among s.first s.count (s.live_has_up (live refl))))
remove_names (Some e) w actor device s live h = refused_is_not_done e h

begun_one : (w : World) (actor : ℕ) (removal : RemovalOf) → IsSound w → (step w actor (first_call removal)).reply ≡ Done
    → (p : ℕ) × Contains (begun_places (first_call removal) (reply_of w actor (first_call removal)) (bytes_of w actor (first_call removal))) p
begun_one w actor (OfChip place) s h = (place, unplug_names (unplug_refusal place w) w actor place h)
begun_one w actor (OfDevice device) s h = ((s.devices device).first, remove_names (remove_refusal device w.tree) w actor device (s.devices device) (λ e. (remove_finds device w.tree e).1) h)

stage_low : (phase : Phase) → rank phase ≤ 3
stage_low Absent = omega arith
stage_low Up = omega arith
stage_low Leaving = omega arith
stage_low Gone = omega arith

-- a removal goes on while the remover's own entries have nothing to do with removals

module _ {M C R G : Type 0} (m : Ghosts M C R G) (laws : Laws m) (a p : ℕ) where
  -- the actor removes the place, and this call ends it
  abbrev GoesOn : m.World → C → Type 0
  GoesOn w call = Removes m w a p × (m.awaited_call w p ≡ call)

  one_on : (w : m.World) (x : Entry M C R G) (call : C) → m.Sound w → m.FitsCall x.call → (x.actor ≡ a → m.is_last_removal x.call ≡ false) → GoesOn w call → GoesOn (m.world_after w x.actor x.call) call
  one_on w x call s fits quiet on =
      let forward = laws.goes_forward w x.actor x.call p s fits in
      let is_two : stage_of m w p ≡ 2 = on.0.0 in
      let high = stage_low (m.phase_of (m.world_after w x.actor x.call) p) in
      let still : stage_of m (m.world_after w x.actor x.call) p ≡ 2 = dite (ℕ_discrete (stage_of m (m.world_after w x.actor x.call) p) 3)
      (λ gone. let ends = laws.ends_place w x.actor x.call p s fits (omega arith) gone in
      let mine : x.actor ≡ a = some_is x.actor a (sym ends.2 ∙ on.0.1) in
      absurd (true≢false (sym ends.1 ∙ quiet mine)))
      (λ ne. omega arith) in
      let stays = laws.removal_stays w x.actor x.call p s fits is_two still in
      ((still, stays.0 ∙ on.0.1), stays.1 ∙ on.1)

  all_on : (w : m.World) (xs : List (Entry M C R G)) (call : C) → m.Sound w → AnsweredFrom m w xs → AllQuiet m (entries_of a xs) → GoesOn w call → GoesOn (fold_from m w xs) call
  all_on w [] call s h quiet on = on
  all_on w (x ∷ xs) call s h quiet on =
      let sound = laws.keeps_sound w x.actor x.call s h.1 in
      dite (ℕ_discrete x.actor a)
      (λ is. let own : AllQuiet m (x ∷ entries_of a xs) = subst (λ b. AllQuiet m (cond b (x ∷ entries_of a xs) (entries_of a xs))) (eq-eqb x.actor a is) quiet in
      all_on (m.world_after w x.actor x.call) xs call sound h.2 own.1 (one_on w x call s h.1 (λ _. own.0.1) on))
      (λ ne. let others : AllQuiet m (entries_of a xs) = subst (λ b. AllQuiet m (cond b (x ∷ entries_of a xs) (entries_of a xs))) (ne_eqb x.actor a ne) quiet in
      all_on (m.world_after w x.actor x.call) xs call sound h.2 others (one_on w x call s h.1 (λ is. absurd (ne is)) on))

module _ {K : Type 0} (stands_for : K → World → Type 0) where
  done_at : (w : World) (actor place : ℕ) → Removes (machine stands_for) w actor place → (step w actor (awaited_call w place)).reply ≡ Done
  done_at w actor place removes = done_by (origin_at w place).device w actor place removes.0 removes.1 refl

  done_behind : (history : List (Entry K Call Reply Gift)) → IsLegal stands_for history → (actor : ℕ) (removal : RemovalOf) → HasBegun stands_for history actor removal
      → (step (world_of stands_for history) actor (last_call (first_call removal))).reply ≡ Done
  done_behind history legal actor removal begun =
      let m : Ghosts K Call Reply Gift = machine stands_for in
      let first : Entry K Call Reply Gift = entry actor (first_call removal) Done in
      let w : World = fold_from m opening begun.before in
      let v : World = world_after w actor (first_call removal) in
      let answered : AnsweredFrom m opening (begun.before ++ first ∷ begun.since) = subst (AnsweredFrom m opening) begun.is_behind legal.0 in
      let rest : AnsweredFrom m w (first ∷ begun.since) = answered_rest m opening begun.before (first ∷ begun.since) answered in
      let sound : IsSound w = sound_world stands_for begun.before in
      let one = begun_one w actor removal sound (sym rest.0) in
      let begins = begins_them w actor (first_call removal) one.0 sound one.1 in
      let on = all_on m (machine_laws stands_for) actor one.0 v begun.since (last_call (first_call removal)) (keeps_sound w actor (first_call removal) sound) rest.2 begun.quiet ((begins.0, begins.1), begins.2) in
      let here : world_of stands_for history ≡ fold_from m v begun.since = ap (λ h. fold_from m opening h) begun.is_behind ∙ fold_append m opening begun.before (first ∷ begun.since) in
      let told : (step (fold_from m v begun.since) actor (awaited_call (fold_from m v begun.since) one.0)).reply ≡ Done = done_at (fold_from m v begun.since) actor one.0 on.0 in
      subst (λ u. (step u actor (last_call (first_call removal))).reply ≡ Done) (sym here)
      (subst (λ c. (step (fold_from m v begun.since) actor c).reply ≡ Done) on.1 told)

  pub last_calls_are_done : LastCallsAreDone stands_for
  last_calls_are_done = record {
    of_a_place = done_at;
    of_a_removal = always stands_for
        (λ history. (actor : ℕ) (removal : RemovalOf) → HasBegun stands_for history actor removal → (step (world_of stands_for history) actor (last_call (first_call removal))).reply ≡ Done) done_behind;
  }
