use Rattle.std.proofs.Common.{◌≡◌, ◌++◌, drop, map}
use Rattle.gl_args.specs.Items.{item_in}
use Rattle.gl_args.specs.Tools.{line_words, lines_from}
use Rattle.gl_args.proofs.tool.lines_of.Given as goal

abbrev pub invariant-loop-item : goal.invariant-loop-item
invariant-loop-item l = l.lines.items ++ lines_from l.name (line_words (map item_in (drop l.item-index l.items))) ≡ lines_from l.name (line_words (map item_in l.items))
