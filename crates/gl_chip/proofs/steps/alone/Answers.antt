use Rattle.gl_chip.proofs.GateSteps.{called_once, owes_after, owes_refused, stood_full}
use Rattle.gl_chip.proofs.steps.alone.Goals as goal

pub returns-in-Ok-clause-owes : goal.returns-in-Ok-clause-owes
returns-in-Ok-clause-owes g c = owes_after g.M.Machine c.args.pass.now.view c.args.call.now c.in-Ok.reply _ _ c.act.new.pass.view c.requires.whole c.in-Ok.ensures.same c.in-Ok.ensures.acts 0 c.requires.owes

pub returns-in-Ok-clause-called : goal.returns-in-Ok-clause-called
returns-in-Ok-clause-called g c = called_once g.M.Machine c.args.pass.now.view c.args.call.now c.in-Ok.reply _ _ c.act.new.pass.view c.number-number.ensures.own c.in-Ok.ensures.same c.in-Ok.ensures.acts

pub returns-in-Err-clause-owes : goal.returns-in-Err-clause-owes
returns-in-Err-clause-owes g c = owes_refused g.M.Machine c.args.pass.now.view c.args.call.now c.act.new.pass.view c.in-Err.ensures.same c.in-Err.ensures.refuses 0 c.requires.owes

pub returns-in-Err-clause-full : goal.returns-in-Err-clause-full
returns-in-Err-clause-full g c = (c.in-Err.ensures.full, c.in-Err.ensures.untouched.1, c.in-Err.ensures.untouched.0, stood_full g.M.Machine c.args.pass.now.view c.args.call.now c.act.new.pass.view c.number-number.ensures.own c.in-Err.ensures.own c.in-Err.ensures.same c.in-Err.ensures.refuses)
