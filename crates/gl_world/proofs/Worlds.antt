-- What holds of each world that a legal history leads to.
use Rattle.std.proofs.Common.{◌≡◌, ℕ, List, [], ◌∷◌, refl, ap, ◌∙◌, arith, Some, inl, inr}
use mathlib.Core.Logic.{dite}
use native.Mathlib.Decide.{dec_lt}
use Rattle.gl_world.specs.declared.machine.Machine.{Ghosts}
use Rattle.gl_world.specs.declared.history.Entry.{Entry}
use Rattle.gl_world.specs.History.{fold_from, fold, stage, AnsweredFrom}
use Rattle.gl_world.specs.Laws.{Laws}
use Rattle.gl_world.specs.Worlds.{WorldsAreSound, LeavingHasRemover, ClosedIsGoneOrAnothers, PhasesNeverFall, RefusedIsClosing, NothingBehindGone}
use Rattle.std.specs.Prelude.{◌++◌}
use Rattle.std.proofs.lemmas.List.{append_assoc}
use Rattle.gl_world.proofs.Histories.{answered_prefix, placed_prefix, placed_rest}
use Rattle.gl_world.proofs.Phases.{most_three, fold_sound, stage_since}
use Rattle.gl_world.proofs.Happenings.{legal_named}

module _ {M C R G : Type 0} (m : Ghosts M C R G) (laws : Laws m) where
  pub worlds_are_sound : WorldsAreSound m
  worlds_are_sound history answered = fold_sound m laws m.opening history laws.opens_sound answered

  abbrev HasRemover : m.World → ℕ → Type 0
  HasRemover w p = stage m w p ≡ 2 → (actor : ℕ) × (m.remover_of w p ≡ Some actor)

  remover_kept : (w : m.World) (xs : List (Entry M C R G)) (p : ℕ) → m.Sound w → AnsweredFrom m w xs → HasRemover w p → HasRemover (fold_from m w xs) p
  remover_kept w [] p sound answered has = has
  remover_kept w (x ∷ xs) p sound answered has = let w' : m.World = m.world_after w x.actor x.call in
      remover_kept w' xs p (laws.keeps_sound w x.actor x.call sound answered.1) answered.2
      (λ two. let forward = laws.goes_forward w x.actor x.call p sound answered.1 in dite (dec_lt (stage m w p) 2)
      (λ less. (x.actor, (laws.begins_place w x.actor x.call p sound answered.1 less two).0))
      (λ more. let before : stage m w p ≡ 2 = omega arith in let by = has before in (by.0, (laws.removal_stays w x.actor x.call p sound answered.1 before two).0 ∙ by.1)))

  pub leaving_has_remover : LeavingHasRemover m
  leaving_has_remover history p answered two = remover_kept m.opening history p laws.opens_sound answered (λ at. let low = laws.opens_places p in absurd (omega arith)) two

  pub closed_is_gone_or_anothers : ClosedIsGoneOrAnothers m
  closed_is_gone_or_anothers actor history p answered closed not_own = let w : m.World = fold m history in let most = most_three (m.phase_of w p) in dite (dec_lt (stage m w p) 3)
      (λ less. let two : stage m w p ≡ 2 = omega arith in let by = leaving_has_remover history p answered two in
      inr (by.0, (λ same. not_own (two, by.1 ∙ ap Some same)), (two, by.1)))
      (λ more. inl (omega arith))

  pub nothing_behind_gone : NothingBehindGone m
  nothing_behind_gone earlier between later e p legal gone named = legal_named m laws earlier between later e p legal gone named

  pub phases_never_fall : PhasesNeverFall m
  phases_never_fall earlier later p answered = stage_since m laws (earlier ++ later) earlier p answered (later, refl)

  pub refused_is_closing : RefusedIsClosing m
  refused_is_closing earlier later e p legal refused = let upto : List (Entry M C R G) = earlier ++ e ∷ [] in
      let then = (placed_rest m m.opening earlier (e ∷ []) (placed_prefix m m.opening upto later legal.1)).1 p refused in
      let since = stage_since m laws (upto ++ later) earlier p legal.0 (e ∷ later, append_assoc earlier (e ∷ []) later) in (then, omega arith)
