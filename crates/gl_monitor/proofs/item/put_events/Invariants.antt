use Rattle.std.proofs.Common.{◌≡◌, ◌++◌, ◌-◌, ◌/◌, length}
use Rattle.gl_monitor.specs.Items.{events_from}
use Rattle.gl_monitor.proofs.item.put_events.Given as goal

abbrev pub invariant-loop-i : goal.invariant-loop-i
invariant-loop-i l =
    (l.i-end ≡ length l.bytes / 48)
    × (l.items.items ++ events_from l.bytes l.i (length l.bytes / 48 - l.i) ≡ l.fn.items.items ++ events_from l.bytes 0 (length l.bytes / 48))
