use Rattle.std.proofs.Common.{◌≡◌, ◌++◌, drop, map}
use Rattle.gl_args.specs.Items.{item_in}
use Rattle.gl_args.specs.Tools.{line_words, name_or_none}
use Rattle.gl_args.proofs.tool.chips_of.Given as goal

abbrev pub invariant-loop-item : goal.invariant-loop-item
invariant-loop-item l = l.names.items ++ map name_or_none (line_words (map item_in (drop l.item-index l.items))) ≡ map name_or_none (line_words (map item_in l.items))
