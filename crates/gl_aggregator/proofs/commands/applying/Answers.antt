use Rattle.std.proofs.Common.{refl, ap, arith, ◌∙◌}
use Rattle.gl_base.specs.declared.command.TheConstants.{LINE_SET_CONFIG}
use Rattle.gl_uapi.specs.NewRequest.{new_config_bytes}
use Rattle.gl_aggregator.specs.Commands.{on_target}
use Rattle.gl_aggregator.specs.Routes.{lines_on}
use Rattle.gl_aggregator.proofs.Fitting.{asking_fits, configured}
use Rattle.gl_aggregator.proofs.commands.applying.Goals as goal

pub returns-clause-fits : goal.returns-clause-fits
returns-clause-fits c = let long = c.config_command-command.ensures.len in
    asking_fits c.args.route.now.target LINE_SET_CONFIG _ c.config_command-command.result _ c.config_command-command.ensures.command refl c.config_command-command.ensures.fits (omega arith) (omega arith) c.apply_by.ensures.fits

pub returns-clause-visit : goal.returns-clause-visit
returns-clause-visit c = configured c.args.route.now.target c.args.op.now (lines_on c.args.op.now c.args.route.now) c.words.result.now c.config_command-command.result c.apply_by.result
    (c.words.ensures.words ∙ c.flag_words-words.ensures) (omega (arith, c.if-words.false))
    (c.config_command-command.ensures.command ∙ ap (λ l. on_target c.args.route.now.target LINE_SET_CONFIG (new_config_bytes 0 l)) c.attributes_for.ensures) c.apply_by.ensures.op
