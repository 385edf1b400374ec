use Rattle.std.proofs.Common.{◌≡◌, ◌+◌, ◌≤◌, ◌<◌, ◌^◌, length}
use Rattle.gl_base.specs.Words.{words_at}
use Rattle.gl_script.specs.Faults.{pieces_fault}
use Rattle.gl_script.specs.Pieces.{made_by}
use Rattle.gl_script.proofs.faults.pieces_read.Given as goal

abbrev pub invariant-loop-found : goal.invariant-loop-found
invariant-loop-found l =
    (pieces_fault l.makes l.fn.said l.fn.end (words_at l.fn.at l.line) ≡ pieces_fault l.makes l.said l.end (words_at l.at l.rest))
    × (made_by l.makes (words_at l.fn.at l.line) ≡ made_by l.makes (words_at l.at l.rest))
    × (l.at + length l.rest ≤ l.fn.at + length l.line) × (l.end < 2 ^ 32) × (l.said ≤ 1024)

abbrev pub decreases-loop-found : goal.decreases-loop-found
decreases-loop-found l = length (words_at l.at l.rest)
