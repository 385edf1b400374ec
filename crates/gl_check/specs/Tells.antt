-- What a port tells after answers of its driver. This project's choice.
use Rattle.std.specs.Prelude.{◌≡◌, ℕ, List, [], ◌∷◌, ◌++◌, drop, length, Option, Some, None}
use Rattle.gl_base.specs.Count.{counted_up}
use Rattle.gl_world.specs.Deeds.{entries_in}
use Rattle.gl_driver.specs.Told.{Told}
use Rattle.gl_driver.specs.declared.op.DriverCall.{DriverCall}
use Rattle.gl_core.specs.Device.{OneEntry, tells_in}
use Rattle.gl_check.specs.Turns.{Did, Said, Turn}

-- how many calls went through a port after so many answers more
abbrev pub calls_after : ℕ → List (Option ℕ) → ℕ
calls_after calls [] = calls
calls_after calls (answer ∷ answers) = calls_after (counted_up calls) answers

-- the answer of a port's last call
abbrev pub answered_last : Option DriverCall → Option (Option ℕ)
answered_last None = None
answered_last (Some asked) = Some asked.answer

-- the last of these answers, or what was known before them
abbrev pub last_or : Option (Option ℕ) → List (Option ℕ) → Option (Option ℕ)
last_or known [] = known
last_or known (answer ∷ answers) = last_or (Some answer) answers

-- a port that told t tells in the end as many calls more as there are answers, and as its last answer the last of these
pub record TellsAfter (t : Told) (answers : List (Option ℕ)) (left : Option Told) : Type 0 where
  pub told : Told
  pub left_is : left ≡ Some told
  pub calls : told.calls ≡ calls_after t.calls answers
  pub last : answered_last told.last ≡ last_or (answered_last t.last) answers

-- the entries of a call of the device that aren't the driver's own: its own ones stand behind the first
abbrev pub without_own : List OneEntry → List OneEntry → List OneEntry
without_own own [] = []
without_own own (e ∷ es) = e ∷ drop (length own) es

-- The answers that turns tell, one after another, but for those within another call: these the driver asked for.
abbrev pub outer_tells : List Turn → List (Option ℕ)
outer_tells [] = []
outer_tells (Said text ∷ turns) = outer_tells turns
outer_tells (Did e ∷ turns) = tells_in (without_own e.own (entries_in e.did)) ++ outer_tells turns
