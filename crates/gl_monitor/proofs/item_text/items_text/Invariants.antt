use Rattle.gl_args.specs.Options.{options_in}
use Rattle.std.proofs.Common.{◌≡◌, ◌++◌, drop}
use Rattle.gl_monitor.specs.ItemText.{items_text}
use Rattle.gl_monitor.proofs.item_text.items_text.Given as goal

abbrev pub invariant-loop-item : goal.invariant-loop-item
invariant-loop-item l = l.text ++ items_text l.tool (options_in l.opts) l.found (drop l.item-index l.items) ≡ items_text l.tool (options_in l.opts) l.found l.items
