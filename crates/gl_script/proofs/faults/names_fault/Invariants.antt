use Rattle.std.proofs.Common.{◌≡◌, ◌+◌, ◌≤◌, length}
use Rattle.gl_base.specs.Words.{words_at}
use Rattle.gl_script.specs.Faults.{names_fault}
use Rattle.gl_script.proofs.faults.names_fault.Given as goal

abbrev pub invariant-loop-found : goal.invariant-loop-found
invariant-loop-found l =
    (names_fault l.fn.most (words_at l.fn.at l.line) ≡ names_fault l.most (words_at l.at l.rest))
    × (l.at + length l.rest ≤ l.fn.at + length l.line)

abbrev pub decreases-loop-found : goal.decreases-loop-found
decreases-loop-found l = length (words_at l.at l.rest)
