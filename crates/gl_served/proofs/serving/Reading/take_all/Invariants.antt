use Rattle.std.proofs.Common.{◌≡◌, ℕ, List, ◌++◌, take, Option}
use Rattle.gl_served.specs.CutLines.{ServesTo}
use Rattle.gl_served.proofs.serving.Reading.take_all.Given as goal

-- the bytes so far were taken in
abbrev pub invariant-loop-byte : goal.invariant-loop-byte
invariant-loop-byte g l =
    (g.K.Sink.fault_count l.sink ≡ g.K.Sink.fault_count l.initial.sink)
    × ((start : Option (List ℕ)) (before : List ℕ) → ServesTo start (g.K.Sink.held l.fn.sink) l.fn.served l.fn.self.line.items l.fn.self.answered l.fn.self.waiting.items before
    → ServesTo start (g.K.Sink.held l.sink) l.served l.self.line.items l.self.answered l.self.waiting.items (before ++ take l.byte-index l.bytes))
