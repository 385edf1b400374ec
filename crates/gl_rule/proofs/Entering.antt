-- A pass enters a place, or finds it closed and backs out.
use Rattle.std.proofs.Common.{◌≡◌, ℕ, ◌+◌, ◌-◌, ◌%◌, ◌<◌, ◌≤◌, ◌^◌, ◌≢◌, List, ◌∷◌, length, get_or, set, sym, refl, ap, ◌∙◌, subst, arith, length-set, get_or-set_other, get_or-set_same, Bool, true, false}
use Rattle.std.proofs.lemmas.Bool.{true≢false}
use mathlib.Core.Logic.{dite}
use native.Mathlib.Decide.{ℕ_discrete}
use mathlib.Core.Option.{some}
use mathlib.Core.Option as maybe
use lib.ListN.{get_elem?}
use Rattle.atomic_table.specs.Table.{State, Act, Valid, carried_after, step, keeps, stepped, Allows}
use Rattle.gl_world.specs.declared.machine.Machine.{Ghosts}
use Rattle.gl_world.specs.History.{fold, stage}
use Rattle.gl_world.specs.Laws.{Laws}
use Rattle.gl_rule.specs.declared.held.Held.{Held}
use Rattle.gl_rule.specs.declared.view.View.{View}
use Rattle.gl_rule.specs.Sums.{total, times, without}
use Rattle.gl_rule.specs.Views.{with_inside, with_knock, without_knock}
use Rattle.gl_rule.specs.Turn.{Seated}
use Rattle.gl_rule.specs.Guards.{at_guard, times_inside, guard_word}
use Rattle.gl_rule.specs.Rule.{Rule}
use Rattle.gl_rule.specs.Plays.{PlaceEntered, KnockEnded}
use Rattle.gl_rule.proofs.Sums.{total_set, total_at}
use Rattle.gl_rule.proofs.Change.{whole}
use Rattle.gl_rule.proofs.Guards.{guards_change}
use Rattle.gl_rule.proofs.Places.{times_same, times_other, without_same, without_other, back, within, turn_stays, few_there, open_stage, word_at}

module _ {M C R G : Type 0} (m : Ghosts M C R G) (laws : Laws m) (places : ℕ) where
  abbrev V : Type 0
  V = View M C R G

  abbrev St : Type 0
  St = State (Held M C R G) V

  enters_open : (slots id p : ℕ) (me : Seated M C R G) (s : St) (all : Rule m places s) → get_elem? s.views id ≡ some me.0 → me.0.spent ≡ false → me.0.turn ≡ false → at_guard p me.0 ≡ 0 → p + 2 < length s.words → all.1.shut p ≡ false
      → Rule m places (stepped s (p + 2) ((get_or s.words (p + 2) 0 + 1) % 18446744073709551616) id me.1 (with_inside me.0 p) keeps) × (get_or s.words (p + 2) 0 < 9223372036854775808)
  enters_open slots id p me s all at live resting away wide open_yet = let r = all.0 in let g = all.1 in let v : V = me.0 in let w : V = with_inside v p in let x : ℕ = get_or s.words (p + 2) 0 in let n : ℕ = (x + 1) % 18446744073709551616 in
      let words : List ℕ = set s.words (p + 2) n in
      let found : x ≡ total (at_guard p) s.views = g.word p wide ∙ (ap (λ b. guard_word b (total (at_guard p) s.views)) open_yet ∙ omega arith) in let few = few_there m laws places s r g p in
      let here : at_guard p w ≡ 1 = let t = times_same p v.inside in omega arith in
      let elsewhere : (q : ℕ) → q ≢ p → at_guard q w ≡ at_guard q v = λ q ne. let t = times_other q p v.inside (λ e. ne (sym e)) in omega arith in
      let not_shut : (q : ℕ) → g.shut q ≡ true → q ≢ p = λ q h e. true≢false (sym h ∙ (ap g.shut e ∙ open_yet)) in
      let as_inside : (q : ℕ) → q ≢ p → total (times_inside q) (set s.views id w) ≡ total (times_inside q) s.views = λ q ne. let t = total_set (times_inside q) s.views id v w at in let e = times_other q p v.inside (λ e. ne (sym e)) in omega arith in (
        whole m places _ r.log (turn_stays m laws places s r id v (p ∷ v.inside) v.knocking v.closed v.drained v.counted words at live resting (length-set s.words (p + 2) n) (get_or-set_other s.words (p + 2) 0 n 0 (λ e. omega arith)) (get_or-set_other s.words (p + 2) 1 n 0 (λ e. omega arith)))
            (guards_change m places s r.log g id v w r.log words s.homes g.shut record {
              at = at;
              long = length-set s.words (p + 2) n;
              word = λ q l. let t = total_set (at_guard q) s.views id v w at in dite (ℕ_discrete q p)
                  (λ e. let t' = total_set (at_guard p) s.views id v w at in let more : total (at_guard p) (set s.views id w) ≡ total (at_guard p) s.views + 1 = omega arith in
                  subst (λ k. get_or words (k + 2) 0 ≡ guard_word (g.shut k) (total (at_guard k) (set s.views id w))) (sym e)
                  (get_or-set_same s.words (p + 2) n 0 wide ∙ (omega arith ∙ ap (λ b. guard_word b (total (at_guard p) (set s.views id w))) (sym open_yet))))
                  (λ ne. let e = elsewhere q ne in let same : total (at_guard q) (set s.views id w) ≡ total (at_guard q) s.views = omega arith in
                  get_or-set_other s.words (p + 2) (q + 2) n 0 (λ e. ne (omega arith)) ∙ (g.word q (subst (λ k. q + 2 < k) (length-set s.words (p + 2) n) l) ∙ ap (guard_word (g.shut q)) (sym same)));
              once = λ q. dite (ℕ_discrete q p) (λ e. subst (λ k. at_guard k w ≤ 1) (sym e) (omega arith)) (λ ne. let e = elsewhere q ne in let o = g.once id v q at in omega arith);
              closed = λ q h. g.knows_closed id v q at h;
              drained = λ q h. let o = g.knows_drained id v q at h in (o.0, as_inside q (not_shut q o.0) ∙ o.1);
              wider = λ q h. h;
              nobody = λ q h. let e = as_inside q (not_shut q h) in omega arith;
              closing = g.closing;
              placed = g.placed;
              gone_closed = g.gone_closed;
              stands = λ q h. dite (ℕ_discrete q p) (λ e. subst (λ k. stage m (fold m r.log) k < 3) (sym e) (open_stage m laws places s r g p open_yet))
                  (λ ne. let e = times_other q p v.inside (λ e. ne (sym e)) in g.stands id v q at (omega arith));
              others_stand = λ j u q ne e h. g.stands j u q e h;
              nowhere = λ h. absurd (true≢false (sym h ∙ live));
            }),
        omega arith,
      )

  enters_shut : (slots id p : ℕ) (me : Seated M C R G) (s : St) (all : Rule m places s) → get_elem? s.views id ≡ some me.0 → me.0.spent ≡ false → me.0.turn ≡ false → at_guard p me.0 ≡ 0 → p + 2 < length s.words → all.1.shut p ≡ true
      → Rule m places (stepped s (p + 2) ((get_or s.words (p + 2) 0 + 1) % 18446744073709551616) id me.1 (with_knock me.0 p) keeps) × (9223372036854775808 ≤ get_or s.words (p + 2) 0)
  enters_shut slots id p me s all at live resting away wide closed_yet = let r = all.0 in let g = all.1 in let v : V = me.0 in let w : V = with_knock v p in let x : ℕ = get_or s.words (p + 2) 0 in let n : ℕ = (x + 1) % 18446744073709551616 in
      let words : List ℕ = set s.words (p + 2) n in
      let found : x ≡ 9223372036854775808 + total (at_guard p) s.views = g.word p wide ∙ ap (λ b. guard_word b (total (at_guard p) s.views)) closed_yet in let few = few_there m laws places s r g p in
      let here : at_guard p w ≡ 1 = let t = times_same p v.knocking in omega arith in
      let elsewhere : (q : ℕ) → q ≢ p → at_guard q w ≡ at_guard q v = λ q ne. let t = times_other q p v.knocking (λ e. ne (sym e)) in omega arith in
      let sum = total_set (at_guard p) s.views id v w at in
      let as_inside : (q : ℕ) → total (times_inside q) (set s.views id w) ≡ total (times_inside q) s.views = λ q. let t = total_set (times_inside q) s.views id v w at in omega arith in (
        whole m places _ r.log (turn_stays m laws places s r id v v.inside (p ∷ v.knocking) (p ∷ v.closed) v.drained v.counted words at live resting (length-set s.words (p + 2) n) (get_or-set_other s.words (p + 2) 0 n 0 (λ e. omega arith)) (get_or-set_other s.words (p + 2) 1 n 0 (λ e. omega arith)))
            (guards_change m places s r.log g id v w r.log words s.homes g.shut record {
              at = at;
              long = length-set s.words (p + 2) n;
              word = word_at m laws places s r.log g id p v w n g.shut at wide elsewhere (λ q _. refl) (omega arith ∙ ap (λ b. guard_word b (total (at_guard p) (set s.views id w))) (sym closed_yet));
              once = λ q. dite (ℕ_discrete q p) (λ e. subst (λ k. at_guard k w ≤ 1) (sym e) (omega arith)) (λ ne. let e = elsewhere q ne in let o = g.once id v q at in omega arith);
              closed = λ q h. dite (ℕ_discrete q p) (λ e. ap g.shut e ∙ closed_yet) (λ ne. let t = times_other q p v.closed (λ e. ne (sym e)) in g.knows_closed id v q at (omega arith));
              drained = λ q h. let o = g.knows_drained id v q at h in (o.0, as_inside q ∙ o.1);
              wider = λ q h. h;
              nobody = λ q h. let e = as_inside q in omega arith;
              closing = g.closing;
              placed = g.placed;
              gone_closed = g.gone_closed;
              stands = λ q h. g.stands id v q at h;
              others_stand = λ j u q ne e h. g.stands j u q e h;
              nowhere = λ h. absurd (true≢false (sym h ∙ live));
            }),
        omega arith,
      )

  pub enters : (slots id p : ℕ) (me : Seated M C R G) → me.0.spent ≡ false → me.0.turn ≡ false → at_guard p me.0 ≡ 0 → p < places
      → Allows (Rule m places) slots id me (p + 2) (λ n. (n + 1) % 18446744073709551616) (PlaceEntered (step slots (p + 2) 1 0 maybe.none) me)
  enters slots id p me live resting away wide s all _ at small = elim (all.1.shut p) as (λ b. all.1.shut p ≡ b → (w : V) × (a : Act (Held M C R G)) × Valid s.homes me.1 a
      × Rule m places (stepped s (p + 2) ((get_or s.words (p + 2) 0 + 1) % 18446744073709551616) id me.1 w a) × PlaceEntered (step slots (p + 2) 1 0 maybe.none) me (get_or s.words (p + 2) 0) (w, carried_after me.1 a)) [
        | true ↦ (λ e. let o = enters_shut slots id p me s all at live resting away (within m laws places s all wide) e in (with_knock me.0 p, keeps, tt, o.0, ((λ h. absurd (omega arith)), (λ _. ap (λ k. (with_knock me.0 k, me.1)) (sym (back p))), λ _. o.1)))
        | false ↦ (λ e. let o = enters_open slots id p me s all at live resting away (within m laws places s all wide) e in (with_inside me.0 p, keeps, tt, o.0, ((λ _. ap (λ k. (with_inside me.0 k, me.1)) (sym (back p))), (λ h. absurd (omega arith)), λ known. absurd (true≢false (sym (all.1.knows_closed id me.0 p at (subst (λ k. 0 < times k me.0.closed) (back p) known)) ∙ e)))))
      ] refl

  -- one fewer at the guard of p, which was found closed
  backs_one : (slots id p : ℕ) (me : Seated M C R G) (s : St) (all : Rule m places s) → get_elem? s.views id ≡ some me.0 → me.0.spent ≡ false → me.0.turn ≡ false → 0 < times p me.0.knocking → p + 2 < length s.words
      → Rule m places (stepped s (p + 2) ((get_or s.words (p + 2) 0 + 18446744073709551615) % 18446744073709551616) id me.1 (without_knock me.0 p) keeps)
  backs_one slots id p me s all at live resting knocking wide = let r = all.0 in let g = all.1 in let v : V = me.0 in let w : V = without_knock v p in let x : ℕ = get_or s.words (p + 2) 0 in let n : ℕ = (x + 18446744073709551615) % 18446744073709551616 in
      let words : List ℕ = set s.words (p + 2) n in let found : x ≡ guard_word (g.shut p) (total (at_guard p) s.views) = g.word p wide in let few = few_there m laws places s r g p in
      let fewer = without_same p v.knocking knocking in let mine = total_at (at_guard p) s.views id v at in
      let elsewhere : (q : ℕ) → q ≢ p → at_guard q w ≡ at_guard q v = λ q ne. let t = without_other p q v.knocking ne in omega arith in
      let sum = total_set (at_guard p) s.views id v w at in
      let less : (q : ℕ) → at_guard q w ≤ at_guard q v = λ q. dite (ℕ_discrete q p) (λ e. subst (λ k. at_guard k w ≤ at_guard k v) (sym e) (omega arith)) (λ ne. let t = elsewhere q ne in omega arith) in
      let as_inside : (q : ℕ) → total (times_inside q) (set s.views id w) ≡ total (times_inside q) s.views = λ q. let t = total_set (times_inside q) s.views id v w at in omega arith in
      let new : (b : Bool) → g.shut p ≡ b → n ≡ guard_word (g.shut p) (total (at_guard p) (set s.views id w)) = λ b e. elim b as (λ b. g.shut p ≡ b → n ≡ guard_word (g.shut p) (total (at_guard p) (set s.views id w))) [
        | true ↦ (λ e. let f : x ≡ 9223372036854775808 + total (at_guard p) s.views = found ∙ ap (λ b. guard_word b (total (at_guard p) s.views)) e in omega arith ∙ ap (λ b. guard_word b (total (at_guard p) (set s.views id w))) (sym e))
        | false ↦ (λ e. let f : x ≡ 0 + total (at_guard p) s.views = found ∙ ap (λ b. guard_word b (total (at_guard p) s.views)) e in omega arith ∙ ap (λ b. guard_word b (total (at_guard p) (set s.views id w))) (sym e))
      ] e in
      whole m places _ r.log (turn_stays m laws places s r id v v.inside (without p v.knocking) v.closed v.drained v.counted words at live resting (length-set s.words (p + 2) n) (get_or-set_other s.words (p + 2) 0 n 0 (λ e. omega arith)) (get_or-set_other s.words (p + 2) 1 n 0 (λ e. omega arith)))
      (guards_change m places s r.log g id v w r.log words s.homes g.shut record {
        at = at;
        long = length-set s.words (p + 2) n;
        word = word_at m laws places s r.log g id p v w n g.shut at wide elsewhere (λ q _. refl) (new (g.shut p) refl);
        once = λ q. let l = less q in let o = g.once id v q at in omega arith;
        closed = λ q h. g.knows_closed id v q at h;
        drained = λ q h. let o = g.knows_drained id v q at h in (o.0, as_inside q ∙ o.1);
        wider = λ q h. h;
        nobody = λ q h. let e = as_inside q in omega arith;
        closing = g.closing;
        placed = g.placed;
        gone_closed = g.gone_closed;
        stands = λ q h. g.stands id v q at h;
        others_stand = λ j u q ne e h. g.stands j u q e h;
        nowhere = λ h. absurd (true≢false (sym h ∙ live));
      })

  pub backs : (slots id p : ℕ) (me : Seated M C R G) → me.0.spent ≡ false → me.0.turn ≡ false → 0 < times p me.0.knocking → p < places
      → Allows (Rule m places) slots id me (p + 2) (λ n. (n + (2 ^ 64 - 1)) % 18446744073709551616) (KnockEnded (step slots (p + 2) 1 0 maybe.none) me)
  backs slots id p me live resting knocking wide s all _ at small = (without_knock me.0 p, keeps, tt, backs_one slots id p me s all at live resting knocking (within m laws places s all wide), ap (λ k. (without_knock me.0 k, me.1)) (sym (back p)))
