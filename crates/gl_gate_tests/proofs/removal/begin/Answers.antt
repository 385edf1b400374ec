use Rattle.std.specs.Prelude.{Contains}
use Rattle.std.proofs.Common.{ℕ, refl, sym, subst, arith}
use Rattle.gl_base.specs.declared.phase.Phase.{Phase}
use Rattle.gl_world.specs.Removal.{Removes}
use Rattle.gl_gate_tests.specs.declared.errand.Errand.TheVariants.{Remove}
use Rattle.gl_gate_tests.specs.declared.errand.Answer.{Answer}
use Rattle.gl_gate_tests.specs.House.{first_places}
use Rattle.gl_gate_tests.specs.contracts.house.HouseMachine.TheImpl.{ghosts}
use Rattle.gl_gate_tests.proofs.removal.begin.Goals as goal

pub returns-in-Ok-Done-clause-begun : goal.returns-in-Ok-Done-clause-begun
returns-in-Ok-Done-clause-begun g c _ = let e = c.in-Ok-Done.ensures in let a = e.acts in let named = subst (λ (r : Answer). Contains (first_places Remove r) 0) (sym c.in-Ok-Done.field-0-is) (0, omega arith, refl) in
    subst (λ (x : (Phase × ℕ) × ℕ). Removes ghosts x.0 x.1 0) (λ i. (sym a.world i, sym e.same.number i)) (a.removals.begins 0 named)
