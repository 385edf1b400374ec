use Rattle.std.proofs.Common.{◌≡◌, ◌++◌, ◌-◌, ◌/◌, length}
use Rattle.gl_talk.specs.Old.{old_edge_lines}
use Rattle.gl_talk.proofs.old.put_edges.Given as goal

abbrev pub invariant-loop-i : goal.invariant-loop-i
invariant-loop-i l =
    (l.i-end ≡ length l.bytes / 48)
    × (l.text.items ++ old_edge_lines l.bytes l.i (length l.bytes / 48 - l.i) ≡ l.fn.text.items ++ old_edge_lines l.bytes 0 (length l.bytes / 48))
