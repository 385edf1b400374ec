use Rattle.std.proofs.Common.{◌≡◌, drop}
use Rattle.std.specs.Prelude.{◌==◌}
use Rattle.std.specs.List.{list_any}
use Rattle.gl_aggregator.proofs.flag_words.is_among.Given as goal

-- none so far is the word
abbrev pub invariant-loop-other : goal.invariant-loop-other
invariant-loop-other l = list_any (λ other. other == l.word) (drop l.other-index l.words) ≡ list_any (λ other. other == l.word) l.words
