use Rattle.std.proofs.Common.{◌≡◌, ◌++◌, ◌-◌, ◌/◌, length}
use Rattle.gl_monitor.specs.Items.{changes_from}
use Rattle.gl_monitor.proofs.item.put_changes.Given as goal

abbrev pub invariant-loop-i : goal.invariant-loop-i
invariant-loop-i l =
    (l.i-end ≡ length l.bytes / 288)
    × (l.items.items ++ changes_from l.edges l.bytes l.i (length l.bytes / 288 - l.i) ≡ l.fn.items.items ++ changes_from l.edges l.bytes 0 (length l.bytes / 288))
