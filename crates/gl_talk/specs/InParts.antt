-- Statements in a row, in parts. This project's choice.
use Rattle.std.specs.Prelude.{◌≡◌, ℕ, ◌+◌, List, ◌++◌, length}
use Rattle.gl_base.specs.Words.{Span}
use Rattle.gl_client.specs.Program.{done, then_by}
use Rattle.gl_talk.specs.Open.{Names}
use Rattle.gl_talk.specs.Talk.{Does, quits, says, talks}

-- Statements of two lists in a row are those of the first, and after them those of the second.
abbrev pub StatementsComeInParts : Type 0
StatementsComeInParts = (begun : ℕ) (first second : List (List Span)) (behind : Names → Does) (names : Names) → says begun (first ++ second) behind names ≡ says begun first (says (begun + length first) second behind) names

-- What comes after statements comes after the names that they give; after those of a whole talk comes the end.
abbrev pub TalksAreStatementsAndTheEnd : Type 0
TalksAreStatementsAndTheEnd = (begun : ℕ) (statements : List (List Span)) (names : Names) → talks begun statements names ≡ then_by (says begun statements done names) quits
