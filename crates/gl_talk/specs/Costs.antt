-- What statements and whole talks cost: how many entries of a history they make at most. This project's choice.
use Rattle.std.specs.Prelude.{ℕ, List, sum_by}
use Rattle.gl_base.specs.Words.{Span}
use Rattle.gl_client.specs.Costs.{CostsAtMost}
use Rattle.gl_client.specs.Entries.{EntriesAtMost}
use Rattle.gl_script.specs.Cost.{words_cost}
use Rattle.gl_talk.specs.Open.{Names, no_names}
use Rattle.gl_talk.specs.Talk.{does, talks}

-- A statement makes at most as many entries as it costs, whatever it is answered.
abbrev pub StatementsKeepWithinCost : Type 0
StatementsKeepWithinCost = (names : Names) (slot : ℕ) (words : List Span) → CostsAtMost (words_cost words) (does names slot words)

-- A whole talk makes at most as many entries as its statements cost together, with the end.
abbrev pub TalksKeepWithinCost : Type 0
TalksKeepWithinCost = (begun : ℕ) (statements : List (List Span)) (names : Names) → CostsAtMost (sum_by words_cost statements) (talks begun statements names)

-- An actor's talk makes at most as many entries as its statements cost together, each closing counted where it is made and no
-- closing refused: a file is closed once.
abbrev pub TalksMakeAtMost : Type 0
TalksMakeAtMost = (statements : List (List Span)) → EntriesAtMost (sum_by words_cost statements) (talks 0 statements no_names)
