-- Which lines of an operation a word has the bits of, as the code says it.
use Rattle.std.specs.Prelude.{ℕ, Bool, true, ◌==◌}
use Rattle.gl_base.specs.declared.op.Op.{Op}
use Rattle.gl_aggregator.specs.declared.words.Choice.{Choice}
use Rattle.gl_aggregator.specs.declared.words.Choice.TheVariants.{All, High, Flagged}
use Rattle.gl_aggregator.specs.Commands.{is_high, word_at}

-- the choice has the line at position i
abbrev pub is_chosen : Op → Choice → ℕ → Bool
is_chosen op All i = true
is_chosen op High i = is_high op i
is_chosen op (Flagged word) i = word_at op i == word
