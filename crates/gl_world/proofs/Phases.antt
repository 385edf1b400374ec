-- What a list of entries does to phases.
use Rattle.std.proofs.Common.{◌≡◌, ◌≢◌, ℕ, ◌≤◌, List, [], ◌∷◌, sym, refl, ap, ◌∙◌, arith, subst, Option, Some, None}
use mathlib.Core.Logic.{dite}
use native.Mathlib.Decide.{dec_lt}
use Rattle.gl_base.specs.declared.phase.Phase.{Phase}
use Rattle.gl_base.specs.declared.phase.Phase.TheVariants.{Absent, Up, Leaving, Gone}
use Rattle.gl_world.specs.declared.machine.Machine.{Ghosts}
use Rattle.gl_world.specs.declared.history.Entry.{Entry}
use Rattle.gl_world.specs.Ranks.{rank}
use Rattle.gl_world.specs.History.{StartsWith, entries_of, fold_from, fold, stage, AnsweredFrom, Answered}
use Rattle.gl_world.specs.Laws.{Laws}
use Rattle.gl_world.specs.Removal.{Removes}
use Rattle.gl_world.proofs.Histories.{none_of, fold_append, answered_prefix, answered_rest}

abbrev number_or : Option ℕ → ℕ
number_or (Some n) = n
number_or None = 0

pub most_three : (p : Phase) → rank p ≤ 3
most_three Absent = omega arith
most_three Up = omega arith
most_three Leaving = omega arith
most_three Gone = omega arith

module _ {M C R G : Type 0} (m : Ghosts M C R G) (laws : Laws m) where
  pub fold_sound : (w : m.World) (xs : List (Entry M C R G)) → m.Sound w → AnsweredFrom m w xs → m.Sound (fold_from m w xs)
  fold_sound w [] s h = s
  fold_sound w (x ∷ xs) s h = fold_sound (m.world_after w x.actor x.call) xs (laws.keeps_sound w x.actor x.call s h.1) h.2

  pub forward_fold : (w : m.World) (xs : List (Entry M C R G)) (p : ℕ) → m.Sound w → AnsweredFrom m w xs → stage m w p ≤ stage m (fold_from m w xs) p
  forward_fold w [] p s h = omega arith
  forward_fold w (x ∷ xs) p s h = let further = forward_fold (m.world_after w x.actor x.call) xs p (laws.keeps_sound w x.actor x.call s h.1) h.2 in let f = laws.goes_forward w x.actor x.call p s h.1 in omega arith

  -- a removal of this actor that goes on after entries of others went on before them
  pub removal_before : (a : ℕ) (w : m.World) (xs : List (Entry M C R G)) (p : ℕ) → m.Sound w → AnsweredFrom m w xs → entries_of a xs ≡ [] → Removes m (fold_from m w xs) a p → Removes m w a p
  removal_before a w [] p s h none at = at
  removal_before a w (x ∷ xs) p s h none at = let n = none_of a x xs none in let w' : m.World = m.world_after w x.actor x.call in let still = removal_before a w' xs p (laws.keeps_sound w x.actor x.call s h.1) h.2 n.1 at in
      let f = laws.goes_forward w x.actor x.call p s h.1 in let two = still.0 in
      dite (dec_lt (stage m w p) 2)
      (λ less. absurd (n.0 (ap number_or (sym (laws.begins_place w x.actor x.call p s h.1 less still.0).0 ∙ still.1))))
      (λ more. let two : stage m w p ≡ 2 = omega arith in (two, sym (laws.removal_stays w x.actor x.call p s h.1 two still.0).0 ∙ still.1))

  -- a removal of this actor goes on after entries of others
  pub removal_after : (a : ℕ) (w : m.World) (xs : List (Entry M C R G)) (p : ℕ) → m.Sound w → AnsweredFrom m w xs → entries_of a xs ≡ [] → Removes m w a p
      → Removes m (fold_from m w xs) a p × (m.awaited_call (fold_from m w xs) p ≡ m.awaited_call w p)
  removal_after a w [] p s h none at = (at, refl)
  removal_after a w (x ∷ xs) p s h none at = let n = none_of a x xs none in let w' : m.World = m.world_after w x.actor x.call in
      let f = laws.goes_forward w x.actor x.call p s h.1 in let most = most_three (m.phase_of w' p) in let two = at.0 in
      let not_gone : stage m w' p ≢ 3 = λ gone. n.0 (ap number_or (sym (laws.ends_place w x.actor x.call p s h.1 (omega arith) gone).2 ∙ at.1)) in
      let still : stage m w' p ≡ 2 = omega arith in let stays = laws.removal_stays w x.actor x.call p s h.1 at.0 still in
      let further = removal_after a w' xs p (laws.keeps_sound w x.actor x.call s h.1) h.2 n.1 (still, stays.0 ∙ at.1) in (further.0, further.1 ∙ stays.1)

  -- what was seen of a phase is not undone
  pub stage_since : (log seen : List (Entry M C R G)) (p : ℕ) → Answered m log → StartsWith log seen → stage m (fold m seen) p ≤ stage m (fold m log) p
  stage_since log seen p h begins = let h' = subst (λ l. Answered m l) begins.1 h in
      let sound = fold_sound m.opening seen laws.opens_sound (answered_prefix m m.opening seen begins.0 h') in
      let f = forward_fold (fold m seen) begins.0 p sound (answered_rest m m.opening seen begins.0 h') in let e : fold m log ≡ fold_from m (fold m seen) begins.0 = ap (λ l. fold m l) begins.1 ∙ fold_append m m.opening seen begins.0 in
      let s : stage m (fold m log) p ≡ stage m (fold_from m (fold m seen) begins.0) p = ap (λ w. stage m w p) e in omega arith
