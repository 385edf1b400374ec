use Rattle.std.proofs.Common.{◌∙◌, arith}
use Rattle.gl_attrs.proofs.Filling.{next_filled, none_filled}
use Rattle.gl_attrs.proofs.resolving.settings_of.Goals as goal

pub loop-i-init : goal.loop-i-init
loop-i-init c = c.lines_without_settings-settings.ensures ∙ none_filled c.args.config

pub loop-i-preserved : goal.loop-i-preserved
loop-i-preserved c = next_filled c.args.config c.loop-i.i c.loop-i.settings c.line_settings.result (omega arith) c.loop-i.invariant c.line_settings.ensures
