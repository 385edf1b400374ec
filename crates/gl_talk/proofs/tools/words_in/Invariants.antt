use Rattle.std.proofs.Common.{◌≡◌, ◌+◌, ◌≤◌, ◌++◌, length}
use Rattle.gl_args.specs.Items.{texts}
use Rattle.gl_base.specs.Words.{words_at}
use Rattle.gl_talk.specs.ToolWords.{word_texts}
use Rattle.gl_talk.proofs.tools.words_in.Given as goal

abbrev pub invariant-loop-found : goal.invariant-loop-found
invariant-loop-found l =
    (texts l.words.items ++ word_texts (words_at l.at l.rest) ≡ word_texts (words_at l.fn.at l.line))
    × (l.at + length l.rest ≤ l.fn.at + length l.line)

abbrev pub decreases-loop-found : goal.decreases-loop-found
decreases-loop-found l = length (words_at l.at l.rest)
