-- What comes of a session that one actor carries out on a device of its own. This project's choice.
use Rattle.std.specs.Prelude.{◌≡◌, ◌<◌, ◌≤◌, ℕ, ◌+◌, true, List, length, map, Option, Some}
use Rattle.gl_base.specs.Rows.{Each}
use Rattle.gl_base.specs.declared.limits.TheConstants.{COST_MAX}
use Rattle.gl_gate.specs.Grown.{Grew}
use Rattle.gl_driver.specs.Told.{Told}
use Rattle.gl_script.specs.Cost.{session_cost}
use Rattle.gl_script.specs.Section.{SaidSection}
use Rattle.gl_script.specs.declared.section.SectionKind.{SectionKind}
use Rattle.gl_script.specs.declared.section.SectionKind.TheVariants.{Setup, Actor, After}
use Rattle.gl_chip.specs.Steps.{FoundNoRoom}
use Rattle.gl_core.specs.Device.{OneDeed, core}
use Rattle.gl_chip.specs.Values.{OneView}
use Rattle.gl_session.specs.Alone.{ArePartsSeen, KeepsNoMaps, PlayedSession}
use Rattle.gl_check.specs.Drivers.{DriverKind, DriverOver}
use Rattle.gl_check.specs.Joining.{Maps}
use Rattle.gl_check.specs.Tells.{TellsAfter}
use Rattle.gl_check.specs.Lawful.{IsLawfulCall}
use Rattle.gl_check.specs.One.{Answering, answer_in, asked_over, entries_made, entries_over, maps_over, one, one_over, planned_over, said_in_kind, taken, taken_over, told_behind, told_over}

-- What the session came to, over a port that told this before and tells that now: its text is One of just the answers that One
-- takes, and it makes no more entries than the session costs. A planned driver gave those that the port's plan before and the statements
-- say; over a new port they are Planned. The port tells all that the statements and the calls make of what it told: how many calls, the
-- plan, the accepted bits, and the operation and the answer of the last call. So where it told, it tells as many driver calls more as there are answers, and
-- as its last answer the last of them.
pub record CameToOne (driver : DriverKind) (sections : List SaidSection) (before : Option Told) (text : List ℕ) (left : Option Told) : Type 0 where
  pub answers : List (Option ℕ)
  pub prints : text ≡ one sections answers
  pub takes : taken sections answers ≡ answers
  pub within : entries_made sections answers ≤ session_cost sections
  pub as_planned : driver.is_planned ≡ true → (t : Told) → before ≡ Some t → answers ≡ planned_over t sections
  pub port : left ≡ told_behind sections answers before
  pub tells : (t : Told) → before ≡ Some t → TellsAfter t answers left

-- Whatever maps its port is taught, which keeps these in the end: its text is One over just what the driver did where it was asked, its own calls among it, and no more
-- entries are made than the session costs. Each call of the driver is one that it may make, with an answer that follows by what the port told
-- then, and there was room for its own calls. The port tells all that the statements and the calls make of what it told; so where it told, it tells as
-- many driver calls more as were asked, those within others left out, and as its last answer that of the last of them.
pub record CameToOneOver (driver : DriverOver) (sections : List SaidSection) (before : Option Told) (text : List ℕ) (left : Option Told) (m : Maps) : Type 0 where
  pub given : List Answering
  pub prints : text ≡ one_over driver.kind.limit driver.maps_left sections given
  pub takes : taken_over driver.kind.limit driver.maps_left sections given ≡ given
  pub within : entries_over driver.kind.limit driver.maps_left sections given ≤ session_cost sections
  pub lawful : Each (IsLawfulCall driver.kind (session_cost sections)) (asked_over driver.kind.limit driver.maps_left sections given before)
  pub port : left ≡ told_over driver.kind.limit driver.maps_left sections given before
  pub tells : (t : Told) → before ≡ Some t → TellsAfter t (map answer_in given) left
  pub maps : m ≡ maps_over driver.kind.limit driver.maps_left sections given

-- And where no port keeps maps it came to One of the answers alone.
pub record CameAlone (driver : DriverOver) (sections : List SaidSection) (before : Option Told) (text : List ℕ) (left : Option Told) (m : Maps) : Type 0 where
  pub over : CameToOneOver driver sections before text left m
  pub plainly : KeepsNoMaps driver sections → CameToOne driver.kind sections before text left

-- The same of One of the answers, and as many entries were made as it makes over them.
pub record CameWithEntries (driver : DriverKind) (sections : List SaidSection) (before : Option Told) (text : List ℕ) (left : Option Told) (entries : ℕ) : Type 0 where
  pub came : CameToOne driver sections before text left
  pub makes : entries ≡ entries_made sections came.answers

-- The same of a session whatever maps its port is taught: as many entries as One makes over them, where no port keeps maps.
pub record CameAloneWith (driver : DriverOver) (sections : List SaidSection) (before : Option Told) (text : List ℕ) (left : Option Told) (m : Maps) (entries : ℕ) : Type 0 where
  pub over : CameToOneOver driver sections before text left m
  pub plainly : KeepsNoMaps driver sections → CameWithEntries driver.kind sections before text left entries

-- how many statements the sections of a kind have
abbrev pub count_in_kind : SectionKind → List SaidSection → ℕ
count_in_kind kind sections = length (said_in_kind kind sections)

-- The talks of a session have 1,048,576 statements at most, and it costs `COST_MAX` entries at most. Every sentence keeps within both.
pub record IsSized (sections : List SaidSection) : Type 0 where
  pub few : count_in_kind Setup sections + count_in_kind Actor sections + count_in_kind After sections ≤ 1048576
  pub cheap : session_cost sections ≤ COST_MAX

-- all parts were carried out, these are the deeds of the actor, and its port keeps these maps then
abbrev pub HasPlayed : DriverOver → List SaidSection → Option Told → List ℕ → Option Told → Maps → OneView → OneView → Type 0
HasPlayed driver sections before text left m v w = (did : List OneDeed) × (p : PlayedSession driver sections before text did left) × Grew core v did w
    × ArePartsSeen driver sections before text did left p v.room (length w.seen) × (m ≡ p.last.behind.maps)

-- The history was full when a call was to be made, though the actor had made fewer entries than this many.
pub record StoppedBelow (limit : ℕ) (v w : OneView) : Type 0 where
  pub did : List OneDeed
  pub view : OneView
  pub grew : Grew core v did view
  pub full : FoundNoRoom core view w
  pub few : length did < limit
