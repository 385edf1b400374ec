-- What a generated load comes to, told by four numbers. This project's choice.
use Rattle.std.specs.Prelude.{◌≡◌, ℕ, ◌+◌, ◌%◌, ◌^◌, List, [], ◌∷◌, ◌++◌, length, sum, Option, codes}
use Rattle.std.specs.Io.KnownBytes.{Appends}
use Rattle.gl_driver.specs.Told.{Told}
use Rattle.gl_script.specs.Gen.{load_text}
use Rattle.gl_script.specs.Section.{SaidSection}
use Rattle.gl_script.specs.Sentence.{Sentence}
use Rattle.gl_session.specs.Lines.{numbered_line}
use Rattle.gl_session.specs.OneActor.{CameWithEntries}
use Rattle.gl_check.specs.Drivers.{DriverKind}

-- how many statements a session has
abbrev pub statement_count : List SaidSection → ℕ
statement_count [] = 0
statement_count (section ∷ sections) = length section.statements + statement_count sections

-- the four lines: the statements of a session, its entries, the bytes that it printed, and the sum of these
abbrev pub figures : List SaidSection → ℕ → List ℕ → List ℕ
figures sections entries text =
    numbered_line (codes "statements") (statement_count sections)
    ++ (numbered_line (codes "entries") entries
    ++ (numbered_line (codes "bytes") (length text)
    ++ numbered_line (codes "sum") (sum text % 2 ^ 32)))

-- Bytes are a session that one actor carried out, over a port that told this before and tells that now, and these are the four lines on it.
pub record CameToFigures (driver : DriverKind) (bytes : List ℕ) (before left : Option Told) (out : List ℕ) : Type 0 where
  pub sections : List SaidSection
  pub sentence : Sentence bytes sections
  pub text : List ℕ
  pub entries : ℕ
  pub came : CameWithEntries driver sections before text left entries
  pub is : out ≡ figures sections entries text

-- the load of a number came to these four lines
abbrev pub CameToLoad : DriverKind → ℕ → Option Told → Option Told → List ℕ → Type 0
CameToLoad driver turns before left out = CameToFigures driver (load_text turns) before left out

-- and they were written
abbrev pub HasWrittenLoad : DriverKind → ℕ → Option Told → Option Told → Option (List ℕ) → Option (List ℕ) → Type 0
HasWrittenLoad driver turns before left old new = (text : List ℕ) × Appends old new text × CameToLoad driver turns before left text
