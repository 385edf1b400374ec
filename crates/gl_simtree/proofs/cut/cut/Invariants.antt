use Rattle.std.proofs.Common.{◌≡◌, take, drop, ◌++◌}
use Rattle.gl_simtree.specs.Cuts.{before_slash, behind_slash}
use Rattle.gl_simtree.proofs.cut.cut.Given as goal

-- no byte so far is a slash
abbrev pub invariant-loop-at : goal.invariant-loop-at
invariant-loop-at l = (before_slash l.path ≡ take l.at l.path ++ before_slash (drop l.at l.path)) × (behind_slash l.path ≡ behind_slash (drop l.at l.path))
