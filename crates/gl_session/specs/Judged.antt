-- What a run of several actors printed is judged to be a lawful run. This project's choice.
use Rattle.std.specs.Prelude.{◌≡◌, ℕ, ◌≤◌, true, false, List, length, Option, Some}
use Rattle.gl_driver.specs.Told.{Told, new_port}
use Rattle.gl_script.specs.Cost.{has_aggregate}
use Rattle.gl_script.specs.Section.{SaidSection}
use Rattle.gl_script.specs.Sentence.{Sentence}
use Rattle.gl_check.specs.Drivers.{DriverOver}
use Rattle.gl_check.specs.Joining.{Maps}
use Rattle.gl_check.specs.Many.{actor_sections}
use Rattle.gl_session.specs.declared.judging.TheConstants.{CHECK_MAX}
use Rattle.gl_session.specs.Run.{CameToOutput}
use Rattle.gl_session.specs.Verdict.{IsLawful, check_text}

-- Each output that a session of several actors without `aggregate` came to over new ports of a planned driver, where it isn't too long with its header and
-- its session.
abbrev pub RunsAreLawful : DriverOver → Type 0
RunsAreLawful driver = driver.kind.is_planned ≡ true → (session : List ℕ) (sections : List SaidSection) (before left : ℕ → Option Told) (m : Maps) (text : List ℕ) → Sentence session sections
    → 2 ≤ length (actor_sections sections) → has_aggregate sections ≡ false → CameToOutput driver sections before left m text
    → ((n : ℕ) → n ≤ length (actor_sections sections) → before n ≡ Some new_port) → length (check_text session text) ≤ CHECK_MAX
    → IsLawful (check_text session text)
