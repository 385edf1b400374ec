use Rattle.gl_model.proofs.Holds.{one_holder}
use Rattle.gl_model.proofs.Rings.{gaps_are_oldest, reads_in_order, reads_spell_events}
use Rattle.gl_core.specs.Kept.{StandsFor}
use Rattle.gl_core.specs.Reached.{IsReached}
use Rattle.gl_core.proofs.OneHolder.{one_holder_kept}
use Rattle.gl_core.proofs.Reached.{step_reached}
use Rattle.gl_core.proofs.machine.CoreMachine.step.Goals as goal

pub invariant_of-self : goal.invariant_of-self
invariant_of-self c =
    step_reached c.self.inside.state c.step.new.self c.args.actor c.args.call.now c.requires.fits_call (λ w stands. (c.step.ensures.steps w stands).0) c.self.invariant

pub returns-clause-one_holder : goal.returns-clause-one_holder
returns-clause-one_holder c =
    let reached : IsReached c.step.new.self =
    step_reached c.self.inside.state c.step.new.self c.args.actor c.args.call.now c.requires.fits_call (λ w stands. (c.step.ensures.steps w stands).0) c.self.invariant in
    one_holder_kept c.step.new.self reached

pub returns-clause-always_one_holder : goal.returns-clause-always_one_holder
returns-clause-always_one_holder c = one_holder StandsFor

pub returns-clause-reads_in_order : goal.returns-clause-reads_in_order
returns-clause-reads_in_order c = reads_in_order StandsFor

pub returns-clause-reads_spell_events : goal.returns-clause-reads_spell_events
returns-clause-reads_spell_events c = reads_spell_events

pub returns-clause-gaps_are_oldest : goal.returns-clause-gaps_are_oldest
returns-clause-gaps_are_oldest c = gaps_are_oldest StandsFor
