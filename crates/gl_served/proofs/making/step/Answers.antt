use Rattle.gl_served.proofs.Numbers.{lines_fit, number_fits}
use Rattle.gl_served.proofs.making.step.Goals as goal

pub returns-clause-number : goal.returns-clause-number
returns-clause-number c = number_fits c.args.core.now c.core_is_well_kept.ensures c.args.call.now c.step-reply.result c.step-reply.ensures.reply

pub returns-clause-lines : goal.returns-clause-lines
returns-clause-lines c =
    lines_fit c.args.core.now c.core_is_well_kept.ensures c.args.call.now c.args.gift c.lines_brought-lines.result c.step-reply.result c.requires.brings c.lines_brought-lines.ensures c.step-reply.ensures.reply
