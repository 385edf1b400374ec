-- Closing and draining places, and the entries of a removal.
use Rattle.std.proofs.Common.{◌≡◌, ℕ, ◌+◌, ◌<◌, List, ◌⊎◌, inl, inr, zero, suc, sym, refl, ap, ◌∙◌, subst, arith}
use Rattle.gl_world.specs.declared.machine.Machine.{Ghosts}
use Rattle.gl_world.specs.declared.history.Entry.{Entry}
use Rattle.gl_world.specs.History.{fold}
use Rattle.gl_world.specs.Removal.{Removes}
use Rattle.gl_rule.specs.declared.view.View.{View}
use Rattle.gl_rule.specs.Views.{with_closed, with_drained}
use Rattle.gl_gate.specs.Values.{PassValue, knowing}
use Rattle.gl_gate.specs.Calls.{KnowsAsMuch, KnowsClosed, KnowsDrained}
use Rattle.gl_gate.specs.Grown.{Moved}
use Rattle.gl_chip.specs.Removals.{HasDrained}
use Rattle.gl_chip.proofs.GateSteps.{knows_on}

module _ {M C R G : Type 0} (m : Ghosts M C R G) where
  moved_on : (v w u : View M C R G) → Moved m v w → Moved m w u → Moved m v u
  moved_on v w u a b = record { number = b.number ∙ a.number; room = b.room ∙ a.room; made = b.made ∙ a.made; joined = b.joined ∙ a.joined; seen = b.seen ∙ a.seen; mine = b.mine ∙ a.mine }

  closed_it : (place : ℕ) (x y : PassValue M C R G) → y ≡ knowing x (with_closed x.view place) → Moved m x.view y.view × (y.view.inside ≡ x.view.inside)
  closed_it place x y is = subst (λ (z : PassValue M C R G). Moved m x.view z.view × (z.view.inside ≡ x.view.inside)) (sym is) (record { number = refl; room = refl; made = refl; joined = refl; seen = refl; mine = refl }, refl)

  drained_it : (place : ℕ) (x y : PassValue M C R G) → y ≡ knowing x (with_drained x.view place) → Moved m x.view y.view × (y.view.inside ≡ x.view.inside)
  drained_it place x y is = subst (λ (z : PassValue M C R G). Moved m x.view z.view × (z.view.inside ≡ x.view.inside)) (sym is) (record { number = refl; room = refl; made = refl; joined = refl; seen = refl; mine = refl }, refl)

  pub has_drained_one : (place : ℕ) (x y z : PassValue M C R G) → y ≡ knowing x (with_closed x.view place) → KnowsAsMuch x.view y.view → KnowsClosed y.view place → z ≡ knowing y (with_drained y.view place) → KnowsAsMuch y.view z.view → KnowsDrained z.view place
      → HasDrained m place (place + 1) x.view z.view
  has_drained_one place x y z closed knows shut drained knows' it = let a = closed_it place x y closed in let b = drained_it place y z drained in record {
    moved = moved_on x.view y.view z.view a.0 b.0;
    inside = b.1 ∙ a.1;
    knows_as_much = knows_on x.view y.view z.view knows knows';
    closed = λ p low high. let e : place ≡ p = omega arith in subst (λ q. KnowsClosed z.view q) e (knows'.closed place shut);
    drained = λ p low high. let e : place ≡ p = omega arith in subst (λ q. KnowsDrained z.view q) e it;
  }

  pub none_drained : (from : ℕ) (v : View M C R G) → HasDrained m from from v v
  none_drained from v = record {
    moved = record { number = refl; room = refl; made = refl; joined = refl; seen = refl; mine = refl };
    inside = refl;
    knows_as_much = record { closed = λ p h. h; drained = λ p h. h };
    closed = λ p low high. absurd (omega arith);
    drained = λ p low high. absurd (omega arith);
  }

  pub one_more_drained : (from past next : ℕ) (v w u : View M C R G) → next ≡ past + 1 → HasDrained m from past v w → HasDrained m past (past + 1) w u → HasDrained m from next v u
  one_more_drained from past next v w u is so_far one = record {
    moved = moved_on v w u so_far.moved one.moved;
    inside = one.inside ∙ so_far.inside;
    knows_as_much = knows_on v w u so_far.knows_as_much one.knows_as_much;
    closed = λ p low high. elim (before_or_at p past (omega arith)) as (λ _. KnowsClosed u p) [
      | inl less ↦ one.knows_as_much.closed p (so_far.closed p low less)
      | inr at ↦ one.closed p (omega arith) (omega arith)
    ];
    drained = λ p low high. elim (before_or_at p past (omega arith)) as (λ _. KnowsDrained u p) [
      | inl less ↦ one.knows_as_much.drained p (so_far.drained p low less)
      | inr at ↦ one.drained p (omega arith) (omega arith)
    ];
  }
    where
      before_or_at : (p q : ℕ) → p < q + 1 → (p < q) ⊎ (p ≡ q)
      before_or_at zero zero h = inr refl
      before_or_at zero (suc q) h = inl (omega arith)
      before_or_at (suc p) zero h = absurd (omega arith)
      before_or_at (suc p) (suc q) h = elim (before_or_at p q (omega arith)) as (λ _. (suc p < suc q) ⊎ (suc p ≡ suc q)) [ inl l ↦ inl (omega arith) | inr e ↦ inr (ap suc e) ]

  -- who moved removes what it removed
  pub removes_still : (v w : View M C R G) → Moved m v w → (p : ℕ) → Removes m (fold m v.seen) v.number p → Removes m (fold m w.seen) w.number p
  removes_still v w moved p = subst (λ (x : List (Entry M C R G) × ℕ). Removes m (fold m x.0) x.1 p) (λ i. (sym moved.seen i, sym moved.number i))
