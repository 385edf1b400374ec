-- What a run answers and writes. This project's choice.
use Rattle.std.specs.Prelude.{◌≡◌, ◌⊎◌, ℕ, Bool, true, false, nat_lt, List, ◌++◌, length, Option, Some, codes}
use Rattle.std.specs.Io.KnownBytes.{Appends}
use Rattle.gl_base.specs.Decimal.{decimal}
use Rattle.gl_driver.specs.Told.{Told}
use Rattle.gl_script.specs.Refusal.{kind_word}
use Rattle.gl_script.specs.Section.{SaidSection}
use Rattle.gl_script.specs.Sentence.{Sentence, first_fault}
use Rattle.gl_script.specs.declared.refusal.Refusal.{Refusal as RefusalOf}
use Rattle.gl_session.specs.declared.status.Status.{Status}
use Rattle.gl_session.specs.declared.status.Status.TheVariants.{Refused, ReadFault, WriteFault, NoMemory}
use Rattle.gl_core.specs.Device.{OneEntry}
use Rattle.gl_session.specs.Lines.{text_line}
use Rattle.gl_session.specs.Many.{CameToMany}
use Rattle.gl_check.specs.Drivers.{DriverOver}
use Rattle.gl_check.specs.Joining.{Maps}
use Rattle.gl_check.specs.Many.{Texts, actor_sections}
use Rattle.gl_session.specs.OneActor.{CameAlone}
use Rattle.gl_session.specs.Output.{AreTold, output}

-- the line that a run writes for words that it doesn't take
abbrev pub usage_line : List ℕ
usage_line = text_line (codes "usage")

-- `refused LINE COLUMN KIND`: the line that a run writes for bytes that it refuses
abbrev pub refused_line : RefusalOf → List ℕ
refused_line refusal = text_line (codes "refused " ++ decimal refusal.line ++ codes " " ++ decimal refusal.column ++ codes " " ++ kind_word refusal.kind)

-- What a session with two or more actors came to: Output of its texts and its history, which are those of Many. The entries are told, so
-- no other history has this output.
pub record CameToOutput (driver : DriverOver) (sections : List SaidSection) (before left : ℕ → Option Told) (m : Maps) (text : List ℕ) : Type 0 where
  pub history : List OneEntry
  pub texts : Texts
  pub came : CameToMany driver sections before left m history texts
  pub prints : text ≡ output sections texts history
  pub told : AreTold 0 history

-- Two sessions of several actors, over whatever drivers and ports, that came to the same text came to the same history.
abbrev pub TextsTellHistory : DriverOver → DriverOver → Type 0
TextsTellHistory driver other_driver = (sections others : List SaidSection) (before left other_before other_left : ℕ → Option Told) (m other_m : Maps) (text : List ℕ)
    (a : CameToOutput driver sections before left m text) (b : CameToOutput other_driver others other_before other_left other_m text) → a.history ≡ b.history

-- With fewer than two actors the first actor carries out all of them, through its own port.
abbrev pub CameBy : Bool → DriverOver → List SaidSection → (ℕ → Option Told) → (ℕ → Option Told) → Maps → List ℕ → Type 0
CameBy true driver sections before left m text = CameAlone driver sections (before 0) text (left 0) m
CameBy false driver sections before left m text = CameToOutput driver sections before left m text

-- What a session came to, over ports that told this before and tell that now, and keep these maps.
abbrev pub CameTo : DriverOver → List SaidSection → (ℕ → Option Told) → (ℕ → Option Told) → Maps → List ℕ → Type 0
CameTo driver sections before left m text = CameBy (nat_lt (length (actor_sections sections)) 2) driver sections before left m text

-- what the session came to was written
abbrev pub HasWritten : DriverOver → List SaidSection → (ℕ → Option Told) → (ℕ → Option Told) → Maps → Option (List ℕ) → Option (List ℕ) → Type 0
HasWritten driver sections before left m old new = (text : List ℕ) × Appends old new text × CameTo driver sections before left m text

-- What a run over these bytes is to write, where the ports told this before, tell that then, and keep these maps: what the session came to, or the one
-- line.
abbrev pub IsOutput : DriverOver → (ℕ → Option Told) → (ℕ → Option Told) → Maps → List ℕ → List ℕ → Type 0
IsOutput driver before left m input text =
    ((sections : List SaidSection) × Sentence input sections × CameTo driver sections before left m text)
    ⊎ ((refusal : RefusalOf) × (first_fault input ≡ Some refusal) × (text ≡ refused_line refusal))

-- what a run over bytes that are refused may answer
abbrev pub IsRefusal : Status → Type 0
IsRefusal status = (status ≡ Refused) ⊎ ((status ≡ ReadFault) ⊎ ((status ≡ WriteFault) ⊎ (status ≡ NoMemory)))
