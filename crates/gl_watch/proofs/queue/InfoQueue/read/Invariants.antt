-- The first changes have been moved out, and stand in the buffer as bytes.
use Rattle.std.proofs.Common.{◌≡◌, ◌*◌, ◌≤◌, length, take, drop}
use Rattle.std.specs.List.{flat_map}
use Rattle.circular_buffer.specs.Buffer.{buffer}
use Rattle.gl_uapi.specs.InfoChanged.{changed_bytes}
use Rattle.gl_uapi.proofs.Writing.{Written}
use Rattle.gl_watch.proofs.queue.InfoQueue.read.Given as goal

abbrev pub invariant-loop-i : goal.invariant-loop-i
invariant-loop-i l =
    (l.self-inside.changes ≡ buffer (drop l.i l.initial.self-inside.changes.items) l.initial.self-inside.changes.capacity)
    × Written (flat_map changed_bytes (take l.i l.initial.self-inside.changes.items)) l.initial.out (288 * l.i) l.out
    × (l.count ≤ length l.initial.self-inside.changes.items)
