use Rattle.gl_chip.proofs.GateSteps.{called_once, owes_told}
use Rattle.gl_chip.proofs.driving.tell.Goals as goal

pub returns-clause-owes : goal.returns-clause-owes
returns-clause-owes g c = owes_told g.M.Machine c.args.pass.now.view c.args.call.now c.in-Ok.reply _ _ c.act.new.pass.view c.requires.tell c.in-Ok.ensures.same c.in-Ok.ensures.acts c.requires.owes

pub returns-clause-called : goal.returns-clause-called
returns-clause-called g c = called_once g.M.Machine c.args.pass.now.view c.args.call.now c.in-Ok.reply _ _ c.act.new.pass.view c.number-number.ensures.own c.in-Ok.ensures.same c.in-Ok.ensures.acts
