use Rattle.std.proofs.Common.{◌≡◌, ◌+◌, ◌≤◌, drop, map, length}
use Rattle.gl_args.specs.Items.{item_in}
use Rattle.gl_args.specs.Tools.{line_words}
use Rattle.gl_args.proofs.tool.line_count.Given as goal

abbrev pub invariant-loop-item : goal.invariant-loop-item
invariant-loop-item l =
    (l.count + length (line_words (map item_in (drop l.item-index l.items))) ≡ length (line_words (map item_in l.items))) × (l.count ≤ l.item-index)
