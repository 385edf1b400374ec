use Rattle.std.proofs.Common.{◌≡◌, ◌+◌, ◌≤◌, length, IfSome}
use Rattle.std.specs.Option.{option_copied}
use Rattle.gl_base.specs.Words.{pieces, pieces_left}
use Rattle.gl_trace.specs.HistoryRead.{line_count}
use Rattle.gl_trace.proofs.history.count_lines.Given as goal

abbrev pub invariant-loop-rest : goal.invariant-loop-rest
invariant-loop-rest l =
    (l.count + line_count (pieces_left 10 (option_copied l.rest)) ≡ line_count (pieces 10 l.text))
    × (l.count ≤ length l.text)
    × (IfSome (option_copied l.rest) (λ rest. l.count + length rest ≤ length l.text))

abbrev pub decreases-loop-rest : goal.decreases-loop-rest
decreases-loop-rest l = length (pieces_left 10 (option_copied l.rest))
