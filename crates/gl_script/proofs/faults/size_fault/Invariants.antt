use Rattle.std.proofs.Common.{◌≡◌, ◌+◌, ◌≤◌, length}
use Rattle.gl_base.specs.Words.{words_at}
use Rattle.gl_script.specs.Faults.{size_fault}
use Rattle.gl_script.proofs.faults.size_fault.Given as goal

abbrev pub invariant-loop-found : goal.invariant-loop-found
invariant-loop-found l =
    (size_fault 0 (words_at l.fn.at l.line) ≡ size_fault l.count (words_at l.at l.rest))
    × (l.at + length l.rest ≤ l.fn.at + length l.line) × (l.count ≤ 128)

abbrev pub decreases-loop-found : goal.decreases-loop-found
decreases-loop-found l = length (words_at l.at l.rest)
