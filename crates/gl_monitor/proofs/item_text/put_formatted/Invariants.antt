use Rattle.gl_args.specs.Options.{options_in}
use Rattle.std.proofs.Common.{◌≡◌, ◌++◌, length}
use Rattle.gl_monitor.specs.ItemText.{formatted}
use Rattle.gl_monitor.proofs.item_text.put_formatted.Given as goal

abbrev pub invariant-loop-rest : goal.invariant-loop-rest
invariant-loop-rest l = l.text ++ formatted l.tool (options_in l.opts) l.found l.item l.rest ≡ l.fn.text ++ formatted l.tool (options_in l.opts) l.found l.item l.format

abbrev pub decreases-loop-rest : goal.decreases-loop-rest
decreases-loop-rest l = length l.rest
