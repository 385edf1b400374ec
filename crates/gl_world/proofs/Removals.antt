-- What an actor removes, after entries of others and after its own.
use Rattle.std.proofs.Common.{Option, Some, None, eq-eqb, ne_eqb, ◌≡◌, ◌≢◌, ℕ, List, [], ◌∷◌, ◌++◌, sym, ap, ◌∙◌, arith, subst, inl, inr, false}
use Rattle.std.specs.Prelude.{Contains, cond}
use Rattle.std.proofs.lemmas.Bool.{true≢false}
use mathlib.Core.Logic.{dite}
use native.Mathlib.Decide.{ℕ_discrete, dec_lt}
use Rattle.gl_world.specs.declared.machine.Machine.{Ghosts}
use Rattle.gl_world.specs.declared.history.Entry.{Entry}
use Rattle.gl_world.specs.History.{AnsweredFrom, entries_of, entry, fold_from, fold, stage}
use Rattle.gl_world.specs.Laws.{Laws}
use Rattle.gl_world.specs.Removal.{IsQuiet, AllQuiet, QuietEntriesKeepRemovals, Removes, OwnRemovals, StrangersRemoveNothing}
use Rattle.gl_world.proofs.Histories.{fold_append, answered_prefix, answered_rest}
use Rattle.gl_world.proofs.Phases.{most_three, fold_sound, removal_before, removal_after}

abbrev some_number : Option ℕ → ℕ
some_number (Some n) = n
some_number None = 0

nothing_in : (p : ℕ) → Contains {X = ℕ} [] p → ⊥
nothing_in p c = let less = c.1 in absurd (omega arith)

module _ {M C R G : Type 0} (m : Ghosts M C R G) (laws : Laws m) where
  pub own_removals : OwnRemovals m
  own_removals actor seen between call reply h none = let e : Entry M C R G = entry actor call reply in let w : m.World = fold m seen in let w' : m.World = fold m (seen ++ between) in
      let names : List ℕ = m.begun_places call reply (m.bytes_of w' actor call) in
      let before = answered_prefix m m.opening (seen ++ between) (e ∷ []) h in let mine = answered_rest m m.opening (seen ++ between) (e ∷ []) h in
      let h_seen = answered_prefix m m.opening seen between before in let h_between = answered_rest m m.opening seen between before in
      let sound = fold_sound m laws m.opening seen laws.opens_sound h_seen in let sound' = fold_sound m laws m.opening (seen ++ between) laws.opens_sound before in
      let is : w' ≡ fold_from m w between = fold_append m m.opening seen between in
      let after : (p : ℕ) → Removes m w actor p → Removes m w' actor p × (m.awaited_call w' p ≡ m.awaited_call w p)
      = λ p at. subst (λ x. Removes m x actor p × (m.awaited_call x p ≡ m.awaited_call w p)) (sym is) (removal_after m laws actor w between p sound h_between none at) in
      let named : List ℕ = m.begun_places call (m.reply_of w' actor call) (m.bytes_of w' actor call) in
      let same : names ≡ named = ap (λ r. m.begun_places call r (m.bytes_of w' actor call)) mine.0 in
      let begins = λ (p : ℕ) (c : Contains names p). laws.begins_removal w' actor call p sound' mine.1 (subst (λ l. Contains l p) same c) in
      let goes : (p : ℕ) → m.is_last_removal call ≡ false → Removes m w' actor p → stage m (m.world_after w' actor call) p ≡ 2
      = λ p no at. let two = at.0 in let f = laws.goes_forward w' actor call p sound' mine.1 in let most = most_three (m.phase_of (m.world_after w' actor call) p) in
      let not_gone : stage m (m.world_after w' actor call) p ≢ 3 = λ gone. true≢false (sym (laws.ends_place w' actor call p sound' mine.1 (omega arith) gone).1 ∙ no) in omega arith in record {
        still = λ p at. (after p at).0;
        nothing_new = λ p at. removal_before m laws actor w between p sound h_between none (subst (λ x. Removes m x actor p) is at);
        awaits_still = λ p at. (after p at).1;
        begins = λ p c. let b = begins p c in (b.0, b.1);
        begins_only = λ p at. dite (dec_lt (stage m w' p) 2)
            (λ less. inr (subst (λ l. Contains l p) (sym same) (laws.begins_place w' actor call p sound' mine.1 less at.0).1))
            (λ more. let f = laws.goes_forward w' actor call p sound' mine.1 in let now = at.0 in let two : stage m w' p ≡ 2 = omega arith in
            inl (two, sym (laws.removal_stays w' actor call p sound' mine.1 two at.0).0 ∙ at.1));
        awaits_last = λ p c. (begins p c).2;
        goes_on = λ p no at. let two = goes p no at in (two, (laws.removal_stays w' actor call p sound' mine.1 at.0 two).0 ∙ at.1);
        awaits_on = λ p no at. (laws.removal_stays w' actor call p sound' mine.1 at.0 (goes p no at)).1;
        ends = λ p at awaits. laws.ends_removal w' actor call p sound' mine.1 at.0 at.1 awaits;
      }

  pub strangers : StrangersRemoveNothing m
  strangers actor history p h none at = let before = removal_before m laws actor m.opening history p laws.opens_sound h none at in let low = laws.opens_places p in let two = before.0 in absurd (omega arith)

  -- one entry, of the actor itself and quiet, or of another
  quiet_step : (a : ℕ) (w : m.World) (x : Entry M C R G) (p : ℕ) → m.Sound w → m.FitsCall x.call → x.reply ≡ m.reply_of w x.actor x.call → (x.actor ≡ a → IsQuiet m x)
      → (Removes m w a p → Removes m (m.world_after w x.actor x.call) a p) × (Removes m (m.world_after w x.actor x.call) a p → Removes m w a p)
  quiet_step a w x p s fits reply quiet = let w' : m.World = m.world_after w x.actor x.call in let f = laws.goes_forward w x.actor x.call p s fits in let most = most_three (m.phase_of w' p) in (
    (λ at. let two = at.0 in let not_gone : stage m w' p ≢ 3 = λ gone. let o = laws.ends_place w x.actor x.call p s fits (omega arith) gone in true≢false (sym o.1 ∙ (quiet (ap some_number (sym o.2 ∙ at.1))).1) in
        let still : stage m w' p ≡ 2 = omega arith in (still, (laws.removal_stays w x.actor x.call p s fits at.0 still).0 ∙ at.1)),
    λ at. let now = at.0 in dite (dec_lt (stage m w p) 2)
        (λ less. let o = laws.begins_place w x.actor x.call p s fits less at.0 in let mine = quiet (ap some_number (sym o.0 ∙ at.1)) in
        let none : m.begun_places x.call (m.reply_of w x.actor x.call) (m.bytes_of w x.actor x.call) ≡ [] = ap (λ r. m.begun_places x.call r (m.bytes_of w x.actor x.call)) (sym reply) ∙ mine.0 (m.bytes_of w x.actor x.call) in
        absurd (nothing_in p (subst (λ l. Contains l p) none o.1)))
        (λ more. let two : stage m w p ≡ 2 = omega arith in (two, sym (laws.removal_stays w x.actor x.call p s fits two at.0).0 ∙ at.1)),
  )

  quiet_from : (a : ℕ) (w : m.World) (xs : List (Entry M C R G)) (p : ℕ) → m.Sound w → AnsweredFrom m w xs → AllQuiet m (entries_of a xs) → (Removes m w a p → Removes m (fold_from m w xs) a p) × (Removes m (fold_from m w xs) a p → Removes m w a p)
  quiet_from a w [] p s h quiet = ((λ at. at), λ at. at)
  quiet_from a w (x ∷ xs) p s h quiet = let both = dite (ℕ_discrete x.actor a)
      (λ (is : x.actor ≡ a). let q = subst (λ b. AllQuiet m (cond b (x ∷ entries_of a xs) (entries_of a xs))) (eq-eqb x.actor a is) quiet in let k : (x.actor ≡ a → IsQuiet m x) × AllQuiet m (entries_of a xs) = ((λ _. q.0), q.1) in k)
      (λ (ne : x.actor ≢ a). let q = subst (λ b. AllQuiet m (cond b (x ∷ entries_of a xs) (entries_of a xs))) (ne_eqb x.actor a ne) quiet in let k : (x.actor ≡ a → IsQuiet m x) × AllQuiet m (entries_of a xs) = ((λ is. absurd (ne is)), q) in k) in
      let one = quiet_step a w x p s h.1 h.0 both.0 in let more = quiet_from a (m.world_after w x.actor x.call) xs p (laws.keeps_sound w x.actor x.call s h.1) h.2 both.1 in
      ((λ at. more.0 (one.0 at)), λ at. one.1 (more.1 at))

  pub quiet_entries : QuietEntriesKeepRemovals m
  quiet_entries actor seen later h quiet p = let before = answered_prefix m m.opening seen later h in let sound = fold_sound m laws m.opening seen laws.opens_sound before in
      let is : fold m (seen ++ later) ≡ fold_from m (fold m seen) later = fold_append m m.opening seen later in let both = quiet_from actor (fold m seen) later p sound (answered_rest m m.opening seen later h) quiet in
      ((λ at. subst (λ w. Removes m w actor p) (sym is) (both.0 at)), λ at. both.1 (subst (λ w. Removes m w actor p) is at))
