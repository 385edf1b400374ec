use Rattle.std.proofs.Common.{refl, arith}
use Rattle.gl_base.specs.declared.command.TheConstants.{LINE_GET_VALUES}
use Rattle.gl_aggregator.proofs.Fitting.{asking_fits}
use Rattle.gl_aggregator.proofs.commands.getting.Goals as goal

pub returns-clause-fits : goal.returns-clause-fits
returns-clause-fits c = let long = c.values_command.ensures.len in
    asking_fits c.args.route.now.target LINE_GET_VALUES _ c.values_command.result _ c.values_command.ensures.command refl c.values_command.ensures.fits (omega arith) (omega arith) c.requires.route.lines
