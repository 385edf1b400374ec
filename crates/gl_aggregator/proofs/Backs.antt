-- A pass that entered a place and left it, and one that found it closed.
use Rattle.std.proofs.Common.{◌≡◌, ℕ, ◌<◌, ◌≤◌, length, List, [], ◌∷◌, sym, refl, ap, ◌∙◌, subst, arith}
use Rattle.gl_driver.specs.Calls.{IsBack}
use Rattle.gl_gate.proofs.Grown.{moves_do_nothing}
use Rattle.gl_gate.specs.Calls.{HoldsNoTurn, KnowsAsMuch}
use Rattle.gl_gate.specs.Grown.{Grew}
use Rattle.gl_rule.specs.Sums.{times, without}
use Rattle.gl_rule.specs.Views.{with_closed, with_inside, without_inside}
use Rattle.gl_rule.specs.declared.view.View.{View}
use Rattle.gl_world.specs.Deeds.{Deed}
use Rattle.gl_world.specs.declared.machine.Machine.{Ghosts}

module _ {M C R G : Type 0} where
  pub knows_same : (v w : View M C R G) → w.closed ≡ v.closed → w.drained ≡ v.drained → KnowsAsMuch v w
  knows_same v w closed drained = record {
    closed = λ p h. subst (λ l. 0 < times p l) (sym closed) h;
    drained = λ p h. subst (λ l. 0 < times p l) (sym drained) h;
  }

  pub knows_on : (v w u : View M C R G) → KnowsAsMuch v w → KnowsAsMuch w u → KnowsAsMuch v u
  knows_on v w u a b = record { closed = λ p h. b.closed p (a.closed p h); drained = λ p h. b.drained p (a.drained p h) }

module _ {M C R G : Type 0} (m : Ghosts M C R G) where
  -- a pass that went into a place, did this, and left it
  pub back_inside : (v : View M C R G) (p : ℕ) (did : List (Deed M C R G)) (w : View M C R G) → without p (p ∷ v.inside) ≡ v.inside → IsBack m (with_inside v p) did w → IsBack m v did (without_inside w p)
  back_inside v p did w back_out b = record {
    grew = record { number = b.grew.number; room = b.grew.room; made = b.grew.made; joined = b.grew.joined; seen = b.grew.seen; mine = b.grew.mine; deeds = b.grew.deeds };
    inside = ap (λ l. without p l) b.inside ∙ back_out;
    no_turn = b.no_turn;
    owed = b.owed;
    knows = record { closed = λ q h. b.knows.closed q h; drained = λ q h. b.knows.drained q h };
  }

  -- a pass that found a place closed
  pub back_closed : (v : View M C R G) (p : ℕ) → HoldsNoTurn v → IsBack m v [] (with_closed v p)
  back_closed v p no_turn = record {
    grew = moves_do_nothing m v (with_closed v p) (record { number = refl; room = refl; made = refl; joined = refl; seen = refl; mine = refl });
    inside = refl;
    no_turn = no_turn;
    owed = refl;
    knows = record { closed = λ q h. more q h; drained = λ q h. h };
  } where
    more : (q : ℕ) → 0 < times q v.closed → 0 < times q (p ∷ v.closed)
    more q h = omega arith

  -- a pass that went into a place and made entries there
  pub regrew : (v : View M C R G) (p : ℕ) (went w : View M C R G) (did : List (Deed M C R G)) → went ≡ with_inside v p → Grew m went did w → Grew m v did w
  regrew v p went w did is g = let h : Grew m (with_inside v p) did w = subst (λ u. Grew m u did w) is g in
      record { number = h.number; room = h.room; made = h.made; joined = h.joined; seen = h.seen; mine = h.mine; deeds = h.deeds }

  -- and one that left it
  pub left_grew : (v : View M C R G) (p : ℕ) (w left : View M C R G) (did : List (Deed M C R G)) → left ≡ without_inside w p → Grew m v did w → Grew m v did left
  left_grew v p w left did is g = subst (λ u. Grew m v did u) (sym is) (record { number = g.number; room = g.room; made = g.made; joined = g.joined; seen = g.seen; mine = g.mine; deeds = g.deeds })

-- a list of no more than none
pub none_of : {A : Type 0} (xs : List A) (n : ℕ) → n ≡ 0 → length xs ≤ n → xs ≡ []
none_of [] n e h = refl
none_of (x ∷ xs) n e h = absurd (omega arith)
