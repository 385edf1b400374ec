-- What the program writes for a session: over the simulated driver, whose answers are planned, with an aggregator over it, and a new port for each actor.
use Rattle.std.specs.Prelude.{◌≡◌, ℕ, Bool, true, false, nat_lt, List, length, Option, Some, IfSome}
use Rattle.std.specs.Io.KnownBytes.{Appends}
use Rattle.gl_base.specs.declared.op.Op.{Op}
use Rattle.gl_driver.specs.Told.{Told, new_port, planned_for}
use Rattle.gl_script.specs.Cost.{has_aggregate, session_cost}
use Rattle.gl_script.specs.Gen.{load_text}
use Rattle.gl_script.specs.Section.{SaidSection}
use Rattle.gl_script.specs.Sentence.{Sentence}
use Rattle.gl_core.specs.Device.{OneDeed, OneEntry}
use Rattle.gl_session.specs.Figures.{figures}
use Rattle.gl_check.specs.Drivers.{DriverKind, DriverOver, driver_kind, over}
use Rattle.gl_check.specs.Many.{Many, PlannedTells, Texts, actor_sections}
use Rattle.gl_check.specs.One.{Answering, entries_made, one, one_over, planned}
use Rattle.gl_check.specs.Settled.{IsGiven}
use Rattle.gl_aggregator.specs.Aggregating.{FollowsAt, OwnAt}
use Rattle.gl_session.specs.Output.{AreTold, output}

-- the simulated driver makes no entries of its own, and its answers are planned
abbrev pub simulated_answer : Option Told → Op → List OneDeed → ℕ → ℕ → Option ℕ → Type 0
simulated_answer told op did room seen answer = IfSome told (λ t. answer ≡ planned_for op t)

-- The driver of the program: at a place with a map it asks the map's targets, and at each other place it does what the simulated one does.
abbrev pub simulated : DriverKind
simulated = driver_kind 8 true (λ map op own. OwnAt map op own) (λ map told op did room seen answer. FollowsAt simulated_answer map told op did room seen answer)

-- over ports that take four maps
abbrev pub simulated_over : DriverOver
simulated_over = over 4 simulated

-- Output of a session of several actors: of texts and a history with Many, whose tells are as planned, and no other history has it.
pub record PrintsMany (sections : List SaidSection) (text : List ℕ) : Type 0 where
  pub history : List OneEntry
  pub texts : Texts
  pub many : Many simulated_over sections history texts
  pub as_planned : PlannedTells simulated_over sections history texts
  pub told : AreTold 0 history
  pub prints : text ≡ output sections texts history

-- With fewer than two actors it is One over just what the driver did where it was asked, each call such as it may make, with an answer that follows:
-- at a place without a map the planned one, and at one with a map what is gathered of its targets, or a failure. There is one such list only, so
-- the session has one text.
pub record PrintsOver (sections : List SaidSection) (text : List ℕ) : Type 0 where
  pub given : List Answering
  pub prints : text ≡ one_over 8 4 sections given
  pub is_given : IsGiven simulated_over (session_cost sections) sections (Some new_port) given
  pub only : (other : List Answering) → IsGiven simulated_over (session_cost sections) sections (Some new_port) other → other ≡ given

-- Without an `aggregate` it is One over the answers of Planned, which is one text.
pub record PrintsOne (sections : List SaidSection) (text : List ℕ) : Type 0 where
  pub over : PrintsOver sections text
  pub plainly : has_aggregate sections ≡ false → text ≡ one sections (planned sections)

abbrev pub PrintsBy : Bool → List SaidSection → List ℕ → Type 0
PrintsBy true sections text = PrintsOne sections text
PrintsBy false sections text = PrintsMany sections text

abbrev pub Prints : List SaidSection → List ℕ → Type 0
Prints sections text = PrintsBy (nat_lt (length (actor_sections sections)) 2) sections text

-- the text of a session was written
abbrev pub HasPrinted : List SaidSection → Option (List ℕ) → Option (List ℕ) → Type 0
HasPrinted sections old new = (text : List ℕ) × Appends old new text × Prints sections text

-- The four lines on the load of a number: on its text as a session, which is One over the answers of Planned.
pub record PrintsLoad (turns : ℕ) (text : List ℕ) : Type 0 where
  pub sections : List SaidSection
  pub sentence : Sentence (load_text turns) sections
  pub prints : text ≡ figures sections (entries_made sections (planned sections)) (one sections (planned sections))

-- they were written
abbrev pub HasPrintedLoad : ℕ → Option (List ℕ) → Option (List ℕ) → Type 0
HasPrintedLoad turns old new = (text : List ℕ) × Appends old new text × PrintsLoad turns text
