-- Which slots the open files have: those that were open before a statement, and the statement's own. This project's choice.
use Rattle.std.specs.Prelude.{◌≡◌, ℕ, ◌+◌, Bool, true, List}
use Rattle.gl_base.specs.Rows.{Each}
use Rattle.gl_base.specs.Words.{Span}
use Rattle.gl_client.specs.Gives.{Gives}
use Rattle.gl_lines.specs.OwnSlots.{SlotPasses}
use Rattle.gl_monitor.specs.WatchedSlots.{WatchedPasses}
use Rattle.gl_talk.specs.Open.{Names}
use Rattle.gl_talk.specs.Talk.{does}

-- the slot of each open file passes a test
pub record OpenPass (test : ℕ → Bool) (names : Names) : Type 0 where
  pub files : Each (λ file. test file.slot ≡ true) names.files
  pub sets : Each (λ tool. SlotPasses test tool.held) names.sets
  pub monitors : Each (λ tool. WatchedPasses test tool.watched) names.monitors

-- Behind a statement no file is open but in a slot that was open before it, or in one of its own two: a test that these pass
-- is passed by all.
abbrev pub SlotsAreOwn : Type 0
SlotsAreOwn = (test : ℕ → Bool) (names : Names) (slot : ℕ) (words : List Span) → OpenPass test names → test slot ≡ true → test (slot + 1) ≡ true → Gives (OpenPass test) (does names slot words)
