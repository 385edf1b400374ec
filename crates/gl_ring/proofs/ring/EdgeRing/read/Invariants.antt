-- The first events have been moved out, and stand in the buffer as bytes.
use Rattle.std.proofs.Common.{◌≡◌, ◌*◌, ◌≤◌, length, take, drop}
use Rattle.std.specs.List.{flat_map}
use Rattle.circular_buffer.specs.Buffer.{buffer}
use Rattle.gl_uapi.specs.LineEvent.{event_bytes}
use Rattle.gl_uapi.proofs.Writing.{Written}
use Rattle.gl_ring.proofs.ring.EdgeRing.read.Given as goal

abbrev pub invariant-loop-i : goal.invariant-loop-i
invariant-loop-i l =
    (l.self-inside.events ≡ buffer (drop l.i l.initial.self-inside.events.items) l.initial.self-inside.events.capacity)
    × Written (flat_map event_bytes (take l.i l.initial.self-inside.events.items)) l.initial.out (48 * l.i) l.out
    × (l.count ≤ length l.initial.self-inside.events.items)
