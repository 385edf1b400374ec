use Rattle.std.proofs.Common.{◌≡◌, ◌+◌, length, filter, IfSome}
use Rattle.std.specs.Option.{option_copied}
use Rattle.gl_base.specs.Words.{pieces_left, placed, words_at, has_text}
use Rattle.gl_base.proofs.words.next_word.Given as goal

abbrev pub invariant-loop-rest : goal.invariant-loop-rest
invariant-loop-rest l =
    (words_at l.fn.at l.line ≡ filter has_text (placed l.at (pieces_left 32 (option_copied l.rest))))
    × (IfSome (option_copied l.rest) (λ rest. l.at + length rest ≡ l.fn.at + length l.line))

abbrev pub decreases-loop-rest : goal.decreases-loop-rest
decreases-loop-rest l = length (pieces_left 32 (option_copied l.rest))
