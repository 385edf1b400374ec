use Rattle.std.proofs.Common.{◌≡◌, ◌+◌, ◌≤◌, length}
use Rattle.std.specs.List.{list_any}
use Rattle.gl_base.specs.Words.{words_at}
use Rattle.gl_script.specs.Cost.{is_chip_option}
use Rattle.gl_script.proofs.cost.names_chip.Given as goal

abbrev pub invariant-loop-found : goal.invariant-loop-found
invariant-loop-found l =
    (list_any is_chip_option (words_at l.at l.rest) ≡ list_any is_chip_option (words_at l.fn.at l.line))
    × (l.at + length l.rest ≤ l.fn.at + length l.line)

abbrev pub decreases-loop-found : goal.decreases-loop-found
decreases-loop-found l = length (words_at l.at l.rest)
