-- A pass leaves a place.
use Rattle.std.proofs.Common.{◌≡◌, ℕ, ◌+◌, ◌-◌, ◌%◌, ◌<◌, ◌≤◌, ◌^◌, ◌≢◌, List, length, get_or, set, sym, refl, ap, ◌∙◌, subst, arith, length-set, get_or-set_other, Bool, true, false}
use Rattle.std.proofs.lemmas.Bool.{true≢false}
use mathlib.Core.Logic.{dite}
use native.Mathlib.Decide.{ℕ_discrete}
use mathlib.Core.Option.{some}
use mathlib.Core.Option as maybe
use lib.ListN.{get_elem?}
use Rattle.atomic_table.specs.Table.{State, step, keeps, stepped, Allows}
use Rattle.gl_world.specs.declared.machine.Machine.{Ghosts}
use Rattle.gl_world.specs.Laws.{Laws}
use Rattle.gl_rule.specs.declared.held.Held.{Held}
use Rattle.gl_rule.specs.declared.view.View.{View}
use Rattle.gl_rule.specs.Sums.{total, times, without}
use Rattle.gl_rule.specs.Views.{without_inside}
use Rattle.gl_rule.specs.Turn.{Seated}
use Rattle.gl_rule.specs.Guards.{at_guard, times_inside, guard_word}
use Rattle.gl_rule.specs.Rule.{Rule}
use Rattle.gl_rule.specs.Plays.{PlaceLeft}
use Rattle.gl_rule.proofs.Sums.{total_set, total_at}
use Rattle.gl_rule.proofs.Change.{whole}
use Rattle.gl_rule.proofs.Guards.{guards_change}
use Rattle.gl_rule.proofs.Places.{without_same, without_other, back, within, turn_stays, few_there, word_at}

module _ {M C R G : Type 0} (m : Ghosts M C R G) (laws : Laws m) (places : ℕ) where
  abbrev V : Type 0
  V = View M C R G

  abbrev St : Type 0
  St = State (Held M C R G) V

  -- one fewer at the guard of p, from inside
  leaves_one : (slots id p : ℕ) (me : Seated M C R G) (s : St) (all : Rule m places s) → get_elem? s.views id ≡ some me.0 → me.0.spent ≡ false → me.0.turn ≡ false → 0 < times p me.0.inside → p + 2 < length s.words
      → Rule m places (stepped s (p + 2) ((get_or s.words (p + 2) 0 + 18446744073709551615) % 18446744073709551616) id me.1 (without_inside me.0 p) keeps)
  leaves_one slots id p me s all at live resting inside wide = let r = all.0 in let g = all.1 in let v : V = me.0 in let w : V = without_inside v p in let x : ℕ = get_or s.words (p + 2) 0 in let n : ℕ = (x + 18446744073709551615) % 18446744073709551616 in
      let words : List ℕ = set s.words (p + 2) n in let found : x ≡ guard_word (g.shut p) (total (at_guard p) s.views) = g.word p wide in let few = few_there m laws places s r g p in
      let fewer = without_same p v.inside inside in let mine = total_at (at_guard p) s.views id v at in
      let elsewhere : (q : ℕ) → q ≢ p → at_guard q w ≡ at_guard q v = λ q ne. let t = without_other p q v.inside ne in omega arith in
      let sum = total_set (at_guard p) s.views id v w at in
      let less : (q : ℕ) → times q w.inside ≤ times q v.inside = λ q. dite (ℕ_discrete q p) (λ e. subst (λ k. times k w.inside ≤ times k v.inside) (sym e) (omega arith)) (λ ne. let t = without_other p q v.inside ne in omega arith) in
      let fewer_inside : (q : ℕ) → total (times_inside q) (set s.views id w) ≤ total (times_inside q) s.views = λ q. let t = total_set (times_inside q) s.views id v w at in let l = less q in omega arith in
      let new : (b : Bool) → g.shut p ≡ b → n ≡ guard_word (g.shut p) (total (at_guard p) (set s.views id w)) = λ b e. elim b as (λ b. g.shut p ≡ b → n ≡ guard_word (g.shut p) (total (at_guard p) (set s.views id w))) [
        | true ↦ (λ e. let f : x ≡ 9223372036854775808 + total (at_guard p) s.views = found ∙ ap (λ b. guard_word b (total (at_guard p) s.views)) e in omega arith ∙ ap (λ b. guard_word b (total (at_guard p) (set s.views id w))) (sym e))
        | false ↦ (λ e. let f : x ≡ 0 + total (at_guard p) s.views = found ∙ ap (λ b. guard_word b (total (at_guard p) s.views)) e in omega arith ∙ ap (λ b. guard_word b (total (at_guard p) (set s.views id w))) (sym e))
      ] e in
      whole m places _ r.log (turn_stays m laws places s r id v (without p v.inside) v.knocking v.closed v.drained v.counted words at live resting (length-set s.words (p + 2) n) (get_or-set_other s.words (p + 2) 0 n 0 (λ e. omega arith)) (get_or-set_other s.words (p + 2) 1 n 0 (λ e. omega arith)))
      (guards_change m places s r.log g id v w r.log words s.homes g.shut record {
        at = at;
        long = length-set s.words (p + 2) n;
        word = word_at m laws places s r.log g id p v w n g.shut at wide elsewhere (λ q _. refl) (new (g.shut p) refl);
        once = λ q. let l = less q in let o = g.once id v q at in omega arith;
        closed = λ q h. g.knows_closed id v q at h;
        drained = λ q h. let o = g.knows_drained id v q at h in let l = fewer_inside q in let z = o.1 in (o.0, omega arith);
        wider = λ q h. h;
        nobody = λ q h. fewer_inside q;
        closing = g.closing;
        placed = g.placed;
        gone_closed = g.gone_closed;
        stands = λ q h. let l = less q in g.stands id v q at (omega arith);
        others_stand = λ j u q ne e h. g.stands j u q e h;
        nowhere = λ h. absurd (true≢false (sym h ∙ live));
      })

  pub leaves : (slots id p : ℕ) (me : Seated M C R G) → me.0.spent ≡ false → me.0.turn ≡ false → 0 < times p me.0.inside → p < places
      → Allows (Rule m places) slots id me (p + 2) (λ n. (n + (2 ^ 64 - 1)) % 18446744073709551616) (PlaceLeft (step slots (p + 2) 1 0 maybe.none) me)
  leaves slots id p me live resting inside wide s all _ at small = (without_inside me.0 p, keeps, tt, leaves_one slots id p me s all at live resting inside (within m laws places s all wide), ap (λ k. (without_inside me.0 k, me.1)) (sym (back p)))
