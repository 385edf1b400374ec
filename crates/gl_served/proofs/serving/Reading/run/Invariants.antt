use Rattle.std.proofs.Common.{◌≡◌, ℕ, List, []}
use Rattle.std.specs.Io.KnownBytes.{Consumes}
use Rattle.gl_served.specs.CutLines.{ServesTo}
use Rattle.gl_served.proofs.serving.Reading.run.Given as goal

-- the bytes that were read so far were taken in, and nothing waits
abbrev pub invariant-loop : goal.invariant-loop
invariant-loop g l =
    (g.S.Source.fault_count l.source ≡ g.S.Source.fault_count l.initial.source)
    × (g.K.Sink.fault_count l.sink ≡ g.K.Sink.fault_count l.initial.sink)
    × ((bytes : List ℕ) × Consumes (g.S.Source.left l.initial.source) (g.S.Source.left l.source) bytes
    × ServesTo (g.K.Sink.held l.initial.sink) (g.K.Sink.held l.sink) l.served l.self.line.items l.self.answered l.self.waiting.items bytes)
    × (l.self.waiting.items ≡ [])
