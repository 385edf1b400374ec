-- A place is closed, and those inside are counted.
use Rattle.std.proofs.Common.{◌≡◌, ℕ, ◌+◌, ◌-◌, ◌%◌, ◌<◌, ◌≤◌, ◌≢◌, List, ◌∷◌, length, get_or, set, sym, refl, ap, ◌∙◌, subst, arith, length-set, get_or-set_other, eq-eqb, ne_eqb, Bool, true, false}
use Rattle.std.specs.Prelude.{cond, ◌==◌}
use Rattle.std.proofs.lemmas.Nat.{or_block}
use Rattle.std.specs.Int.Bits.{bit_or, or_zero_r}
use Rattle.std.proofs.lemmas.Bool.{true≢false}
use mathlib.Core.Logic.{dite}
use native.Mathlib.Decide.{ℕ_discrete}
use mathlib.Core.Option.{some}
use mathlib.Core.Option as maybe
use lib.Seq.{set-get_or}
use Rattle.atomic_table.specs.Table.{State, step, keeps, Allows}
use Rattle.gl_world.specs.declared.machine.Machine.{Ghosts}
use Rattle.gl_world.specs.History.{fold, stage}
use Rattle.gl_world.specs.Laws.{Laws}
use Rattle.gl_world.proofs.Phases.{stage_since}
use Rattle.gl_rule.specs.declared.held.Held.{Held}
use Rattle.gl_rule.specs.declared.view.View.{View}
use Rattle.gl_rule.specs.Sums.{total, times}
use Rattle.gl_rule.specs.Views.{with_closed, with_count, with_drained}
use Rattle.gl_rule.specs.Turn.{Seated}
use Rattle.gl_rule.specs.Guards.{at_guard, times_inside, guard_word}
use Rattle.gl_rule.specs.Rule.{Rule}
use Rattle.gl_rule.specs.Plays.{PlaceClosed, GuardCounted}
use Rattle.gl_rule.proofs.Sums.{total_set}
use Rattle.gl_rule.proofs.Change.{whole}
use Rattle.gl_rule.proofs.Guards.{guards_change, guards_stay}
use Rattle.gl_rule.proofs.Places.{times_other, back, within, total_below, turn_stays, few_there, word_at}

module _ {M C R G : Type 0} (m : Ghosts M C R G) (laws : Laws m) (places : ℕ) where
  abbrev V : Type 0
  V = View M C R G

  abbrev St : Type 0
  St = State (Held M C R G) V

  -- nobody is inside a closed place whose count is 0
  pub counts : (slots id p : ℕ) (me : Seated M C R G) → me.0.spent ≡ false → me.0.turn ≡ false → p < places
      → Allows (Rule m places) slots id me (p + 2) (λ n. n) (GuardCounted (step slots (p + 2) 0 0 maybe.none) me)
  counts slots id p me live resting wide s all _ at small = let r = all.0 in let g = all.1 in let v : V = me.0 in let w : V = with_drained v p in let x : ℕ = get_or s.words (p + 2) 0 in let words : List ℕ = set s.words (p + 2) x in
      let u : V = with_count v (x % 9223372036854775808) in
      let found : x ≡ guard_word (g.shut p) (total (at_guard p) s.views) = g.word p (within m laws places s all wide) in let few = few_there m laws places s r g p in
      let same_words : words ≡ s.words = set-get_or s.words (p + 2) 0 in
      let knew : 0 < times ((p + 2) - 2) v.closed → 9223372036854775808 ≤ x = λ known. let shut = g.knows_closed id v p at (subst (λ k. 0 < times k v.closed) (back p) known) in
      let f : x ≡ 9223372036854775808 + total (at_guard p) s.views = found ∙ ap (λ b. guard_word b (total (at_guard p) s.views)) shut in omega arith in
      let shut_is : x ≡ 9223372036854775808 → (g.shut p ≡ true) × (total (at_guard p) s.views ≡ 0) = λ yes. elim (g.shut p) as (λ b. g.shut p ≡ b → (b ≡ true) × (total (at_guard p) s.views ≡ 0)) [
        | true ↦ (λ e. let f : x ≡ 9223372036854775808 + total (at_guard p) s.views = found ∙ ap (λ b. guard_word b (total (at_guard p) s.views)) e in (refl, omega arith))
        | false ↦ (λ e. let f : x ≡ 0 + total (at_guard p) s.views = found ∙ ap (λ b. guard_word b (total (at_guard p) s.views)) e in absurd (omega arith))
      ] refl in
      dite (ℕ_discrete x 9223372036854775808)
      (λ yes. let d = shut_is yes in let b = total_below m laws places p s.views in let none : total (times_inside p) s.views ≡ 0 = let z = d.1 in omega arith in
      let as_inside : (q : ℕ) → total (times_inside q) (set s.views id w) ≡ total (times_inside q) s.views = λ q. let t = total_set (times_inside q) s.views id v w at in omega arith in
      let as_many : (q : ℕ) → total (at_guard q) (set s.views id w) ≡ total (at_guard q) s.views = λ q. let t = total_set (at_guard q) s.views id v w at in omega arith in (
        w,
        keeps,
        tt,
        whole m places _ r.log (turn_stays m laws places s r id v v.inside v.knocking v.closed (p ∷ v.drained) 0 words at live resting (ap (λ l. length l) same_words) (ap (λ l. get_or l 0 0) same_words) (ap (λ l. get_or l 1 0) same_words))
            (guards_change m places s r.log g id v w r.log words s.homes g.shut record {
              at = at;
              long = ap (λ l. length l) same_words;
              word = λ q l. ap (λ l. get_or l (q + 2) 0) same_words ∙ (g.word q (subst (λ (l : List ℕ). q + 2 < length l) same_words l) ∙ ap (guard_word (g.shut q)) (sym (as_many q)));
              once = λ q. g.once id v q at;
              closed = λ q h. g.knows_closed id v q at h;
              drained = λ q h. dite (ℕ_discrete q p) (λ e. subst (λ k. (g.shut k ≡ true) × (total (times_inside k) (set s.views id w) ≡ 0)) (sym e) (d.0, as_inside p ∙ none))
                  (λ ne. let t = times_other q p v.drained (λ e. ne (sym e)) in let o = g.knows_drained id v q at (omega arith) in (o.0, as_inside q ∙ o.1));
              wider = λ q h. h;
              nobody = λ q h. let e = as_inside q in omega arith;
              closing = g.closing;
              placed = g.placed;
              gone_closed = g.gone_closed;
              stands = λ q h. g.stands id v q at h;
              others_stand = λ j u q ne e h. g.stands j u q e h;
              nowhere = λ h. absurd (true≢false (sym h ∙ live));
            }),
        ((λ _. ap (λ k. (with_drained v k, me.1)) (sym (back p))), (λ no. absurd (no yes)), knew),
      ))
      (λ no. (
        u,
        keeps,
        tt,
        whole m places _ r.log (turn_stays m laws places s r id v v.inside v.knocking v.closed v.drained (x % 9223372036854775808) words at live resting (ap (λ l. length l) same_words) (ap (λ l. get_or l 0 0) same_words) (ap (λ l. get_or l 1 0) same_words))
            (guards_stay m places s r.log g id v u words s.homes at refl refl refl refl refl (ap (λ l. length l) same_words) (λ q. ap (λ l. get_or l (q + 2) 0) same_words) r.log g.placed g.closing g.gone_closed g.stands),
        ((λ yes. absurd (no yes)), (λ _. refl), knew),
      ))

  or_closed : (b : Bool) (c : ℕ) → c < 9223372036854775808 → bit_or (guard_word b c) 9223372036854775808 ≡ guard_word true c
  or_closed true c small = or_block 63 1 1 c 0 small (omega arith) ∙ ap (λ k. 9223372036854775808 + k) (or_zero_r c)
  or_closed false c small = or_block 63 0 1 c 0 small (omega arith) ∙ ap (λ k. 9223372036854775808 + k) (or_zero_r c)

  pub closes : (slots id p : ℕ) (me : Seated M C R G) → me.0.spent ≡ false → me.0.turn ≡ false → 2 ≤ stage m (fold m me.0.seen) p → p < places
      → Allows (Rule m places) slots id me (p + 2) (λ n. bit_or n 9223372036854775808) (PlaceClosed (step slots (p + 2) 9223372036854775808 0 maybe.none) me)
  closes slots id p me live resting leaving wide s all _ at small = let r = all.0 in let g = all.1 in let v : V = me.0 in let w : V = with_closed v p in let x : ℕ = get_or s.words (p + 2) 0 in let n : ℕ = bit_or x 9223372036854775808 in
      let words : List ℕ = set s.words (p + 2) n in let found : x ≡ guard_word (g.shut p) (total (at_guard p) s.views) = g.word p (within m laws places s all wide) in let few = few_there m laws places s r g p in
      let shut : ℕ → Bool = λ q. cond (q == p) true (g.shut q) in
      let shut_here : shut p ≡ true = ap (λ b. cond b true (g.shut p)) (eq-eqb p p refl) in
      let shut_there : (q : ℕ) → q ≢ p → shut q ≡ g.shut q = λ q ne. ap (λ b. cond b true (g.shut q)) (ne_eqb q p ne) in
      let as_inside : (q : ℕ) → total (times_inside q) (set s.views id w) ≡ total (times_inside q) s.views = λ q. let t = total_set (times_inside q) s.views id v w at in omega arith in
      let as_many : (q : ℕ) → total (at_guard q) (set s.views id w) ≡ total (at_guard q) s.views = λ q. let t = total_set (at_guard q) s.views id v w at in omega arith in
      let wider : (q : ℕ) → g.shut q ≡ true → shut q ≡ true = λ q h. elim (q == p) as (λ b. cond b true (g.shut q) ≡ true) [ true ↦ refl | false ↦ h ] in
      let since = stage_since m laws r.log v.seen p r.answered (r.each id v at live).seen in (
        w,
        keeps,
        tt,
        whole m places _ r.log (turn_stays m laws places s r id v v.inside v.knocking (p ∷ v.closed) v.drained v.counted words at live resting (length-set s.words (p + 2) n) (get_or-set_other s.words (p + 2) 0 n 0 (λ e. omega arith)) (get_or-set_other s.words (p + 2) 1 n 0 (λ e. omega arith)))
            (guards_change m places s r.log g id v w r.log words s.homes shut record {
              at = at;
              long = length-set s.words (p + 2) n;
              word = word_at m laws places s r.log g id p v w n shut at (within m laws places s all wide) (λ q _. refl) shut_there
                  (ap (λ k. bit_or k 9223372036854775808) found ∙ (or_closed (g.shut p) (total (at_guard p) s.views) (omega arith) ∙ (λ i. guard_word (sym shut_here i) (sym (as_many p) i))));
              once = λ q. g.once id v q at;
              closed = λ q h. dite (ℕ_discrete q p) (λ e. ap shut e ∙ shut_here) (λ ne. let t = times_other q p v.closed (λ e. ne (sym e)) in shut_there q ne ∙ g.knows_closed id v q at (omega arith));
              drained = λ q h. let o = g.knows_drained id v q at h in (wider q o.0, as_inside q ∙ o.1);
              wider = wider;
              nobody = λ q h. let e = as_inside q in omega arith;
              closing = λ q h. dite (ℕ_discrete q p) (λ e. subst (λ k. 2 ≤ stage m (fold m r.log) k) (sym e) (omega arith)) (λ ne. g.closing q (sym (shut_there q ne) ∙ h));
              placed = g.placed;
              gone_closed = λ q h. wider q (g.gone_closed q h);
              stands = λ q h. g.stands id v q at h;
              others_stand = λ j u q ne e h. g.stands j u q e h;
              nowhere = λ h. absurd (true≢false (sym h ∙ live));
            }),
        ap (λ k. (with_closed v k, me.1)) (sym (back p)),
      )
