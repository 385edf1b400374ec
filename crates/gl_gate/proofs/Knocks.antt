-- A pass that found its place closed.
use Rattle.std.proofs.Common.{◌∙◌, ◌≡◌, ℕ, ◌<◌, sym, subst, ap, arith, false}
use Rattle.gl_rule.specs.Sums.{times}
use Rattle.gl_rule.specs.declared.view.View.{View}
use Rattle.gl_rule.specs.Views.{with_knock, taking_in}
use Rattle.gl_rule.proofs.Sums.{total_append}
use Rattle.std.specs.Prelude.{cond, ◌==◌}
use Rattle.gl_rule.specs.Turn.{Seated}
use Rattle.gl_rule.specs.Guards.{at_guard}
use Rattle.gl_rule.proofs.Places.{times_same}
use Rattle.gl_gate.specs.Rests.{AtRest}
use Rattle.gl_gate.specs.Calls.{IsOutside, KnowsAsMuch}

module _ {M C R G : Type 0} where
  -- a pass outside a place is at no guard of it between calls
  pub away : (p : ℕ) (a : Seated M C R G) → AtRest a → IsOutside a.0 p → at_guard p a.0 ≡ 0
  away p a rests outside = let knocks : times p a.0.knocking ≡ 0 = ap (times p) rests.no_knock in omega arith

  pub knocked_at : (p q : ℕ) (a b : Seated M C R G) → q ≡ p → AtRest a → b ≡ (with_knock a.0 q, a.1) → (b.0.spent ≡ false) × (b.0.turn ≡ false) × (0 < times p b.0.knocking)
  knocked_at p q a b same rests is = let t = times_same p a.0.knocking in subst (λ (x : Seated M C R G). (x.0.spent ≡ false) × (x.0.turn ≡ false) × (0 < times p x.0.knocking)) (sym is)
      (rests.live, rests.no_turn, subst (λ k. 0 < times p (with_knock a.0 k).knocking) (sym same) (omega arith))

  -- a pass that took another in knows what it knew, and more
  pub knows_joined : (v' v w b b' : View M C R G) → v ≡ v' → b ≡ taking_in v w → b' ≡ b → KnowsAsMuch v' b'
  knows_joined v' v w b b' e is same = subst (λ (x : View M C R G × View M C R G). KnowsAsMuch x.0 x.1) (λ i. (e i, sym (same ∙ is) i)) record {
    closed = λ p h. let k = total_append (λ q. cond {A = ℕ} (q == p) 1 0) v.closed w.closed in omega arith;
    drained = λ p h. let k = total_append (λ q. cond {A = ℕ} (q == p) 1 0) v.drained w.drained in omega arith;
  }
