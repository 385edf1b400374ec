-- Statements and whole talks print whole lines. This project's choice.
use Rattle.std.specs.Prelude.{ℕ, List}
use Rattle.gl_base.specs.Words.{Span}
use Rattle.gl_client.specs.Printing.{PrintsLines}
use Rattle.gl_talk.specs.Open.{Names}
use Rattle.gl_talk.specs.Talk.{does, talks}

-- The last byte of each text that a statement prints is 0x0A, whatever it is answered.
abbrev pub StatementsPrintLines : Type 0
StatementsPrintLines = (names : Names) (slot : ℕ) (words : List Span) → PrintsLines (does names slot words)

-- The same of a whole talk.
abbrev pub TalksPrintLines : Type 0
TalksPrintLines = (begun : ℕ) (statements : List (List Span)) (names : Names) → PrintsLines (talks begun statements names)
