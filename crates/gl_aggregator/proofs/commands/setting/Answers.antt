use Rattle.std.proofs.Common.{refl, arith}
use Rattle.gl_base.specs.declared.command.TheConstants.{LINE_SET_VALUES}
use Rattle.gl_aggregator.proofs.Fitting.{asking_fits}
use Rattle.gl_aggregator.proofs.commands.setting.Goals as goal

pub returns-clause-fits : goal.returns-clause-fits
returns-clause-fits c = let long = c.values_command-command.ensures.len in
    asking_fits c.args.route.now.target LINE_SET_VALUES _ c.values_command-command.result _ c.values_command-command.ensures.command refl c.values_command-command.ensures.fits (omega arith) (omega arith) c.set_by.ensures.fits
