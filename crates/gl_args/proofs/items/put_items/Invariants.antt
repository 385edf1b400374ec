use Rattle.std.proofs.Common.{◌≡◌, false, None, drop, map}
use Rattle.gl_args.specs.Items.{reads, with_front, item_in}
use Rattle.gl_args.specs.Items.{texts}
use Rattle.gl_args.proofs.items.put_items.Given as goal

abbrev pub invariant-loop-word : goal.invariant-loop-word
invariant-loop-word l = with_front (map item_in l.items.items) (reads l.tool (texts (drop l.word-index l.words)) l.ended l.wanted) ≡ reads l.tool (texts l.words) false None
