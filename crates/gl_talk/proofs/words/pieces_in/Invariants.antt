use Rattle.std.proofs.Common.{◌≡◌, ◌+◌, ◌≤◌, ◌++◌, true, length}
use Rattle.gl_base.specs.Words.{words_at}
use Rattle.gl_script.specs.Formed.{are_pieces}
use Rattle.gl_talk.specs.Words.{bytes_said}
use Rattle.gl_talk.proofs.words.pieces_in.Given as goal

abbrev pub invariant-loop-found : goal.invariant-loop-found
invariant-loop-found l =
    (l.bytes.items ++ bytes_said (words_at l.at l.rest) ≡ bytes_said (words_at l.fn.at l.line))
    × (are_pieces (words_at l.at l.rest) ≡ true)
    × (l.at + length l.rest ≤ l.fn.at + length l.line)

abbrev pub decreases-loop-found : goal.decreases-loop-found
decreases-loop-found l = length (words_at l.at l.rest)
