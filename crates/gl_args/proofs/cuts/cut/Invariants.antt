use Rattle.std.proofs.Common.{◌≡◌, take, drop, ◌++◌}
use Rattle.gl_args.specs.Cuts.{before, behind}
use Rattle.gl_args.proofs.cuts.cut.Given as goal

abbrev pub invariant-loop-at : goal.invariant-loop-at
invariant-loop-at l = (before l.byte l.word ≡ take l.at l.word ++ before l.byte (drop l.at l.word)) × (behind l.byte l.word ≡ behind l.byte (drop l.at l.word))
