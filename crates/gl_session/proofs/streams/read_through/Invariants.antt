use Rattle.std.proofs.Common.{◌≡◌, ◌≤◌, ◌+◌, ◌-◌, length}
use Rattle.std.specs.Io.KnownBytes.{Consumes}
use Rattle.gl_session.proofs.streams.read_through.Given as goal

abbrev pub invariant-loop-chunk : goal.invariant-loop-chunk
invariant-loop-chunk g l =
    (Consumes (g.S.Source.left l.initial.source) (g.S.Source.left l.source) l.bytes.items)
    × (length l.bytes.items ≤ l.limit + 1)
    × (g.S.Source.fault_count l.source ≡ g.S.Source.fault_count l.initial.source)

abbrev pub decreases-loop-chunk : goal.decreases-loop-chunk
decreases-loop-chunk g l = l.limit + 1 - length l.bytes.items
