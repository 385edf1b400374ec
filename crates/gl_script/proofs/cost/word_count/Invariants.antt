use Rattle.std.proofs.Common.{◌≡◌, ◌+◌, ◌≤◌, min, length}
use Rattle.gl_base.specs.declared.limits.TheConstants.{COST_MAX}
use Rattle.gl_base.specs.Words.{words_at}
use Rattle.gl_script.proofs.cost.word_count.Given as goal

abbrev pub invariant-loop-found : goal.invariant-loop-found
invariant-loop-found l =
    (min (l.count + length (words_at l.at l.rest)) (COST_MAX + 1) ≡ min (length (words_at l.fn.at l.line)) (COST_MAX + 1))
    × (l.at + length l.rest ≤ l.fn.at + length l.line)
    × (l.count ≤ COST_MAX + 1)

abbrev pub decreases-loop-found : goal.decreases-loop-found
decreases-loop-found l = length (words_at l.at l.rest)
