-- One through a port that tells: the same run as over the list alone, and what the port tells in the end. This project's choice.
use Rattle.std.specs.Prelude.{◌≡◌, ℕ, List, map, Option, Some}
use Rattle.gl_base.specs.Rows.{Each}
use Rattle.gl_base.specs.declared.op.Op.{Op}
use Rattle.gl_driver.specs.Told.{Told}
use Rattle.gl_script.specs.Section.{SaidSection}
use Rattle.gl_talk.specs.Open.{Names}
use Rattle.gl_check.specs.One.{Answering, DriverAsked, Ran, TellingPort, answer_in, asked_over, entries_over, from_port, one_over, run_session, taken_over, told_over}
use Rattle.gl_check.specs.Tells.{TellsAfter}

-- the driver was asked for an operation
abbrev pub IsForOperation : DriverAsked → Type 0
IsForOperation a = (op : Op) × (a.op ≡ Some op)

module _ (limit left : ℕ) (sections : List SaidSection) (given : List Answering) where
  -- a session over what its driver does, through a port that told this before
  abbrev pub through_port : Option Told → Ran TellingPort Names
  through_port before = run_session limit left from_port sections (record { left = given; told = before })

  -- It prints, takes and makes what One says: so what it tells of the driver's calls and of the port is said of One's run. Where each call of the
  -- driver was for an operation, a port that told tells in the end as many calls more as One takes, and as its last answer that of the last of them.
  pub record IsOneThroughPort : Type 0 where
    pub prints : (before : Option Told) → (through_port before).text ≡ one_over limit left sections given
    pub takes : (before : Option Told) → (through_port before).behind.took ≡ taken_over limit left sections given
    pub makes : (before : Option Told) → (through_port before).behind.entries ≡ entries_over limit left sections given
    pub tells : (t : Told) → Each IsForOperation (asked_over limit left sections given (Some t))
        → TellsAfter t (map answer_in (taken_over limit left sections given)) (told_over limit left sections given (Some t))

abbrev pub OneIsThroughPort : Type 0
OneIsThroughPort = (limit left : ℕ) (sections : List SaidSection) (given : List Answering) → IsOneThroughPort limit left sections given
