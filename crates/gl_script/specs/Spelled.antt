-- Sentences by spelling: which lines say which sections. This project's choice.
use Rattle.std.specs.Prelude.{◌≡◌, ◌≤◌, ℕ, Bool, List, [], ◌∷◌, ◌++◌, length, filter, Option, None, Some}
use Rattle.gl_base.specs.Rows.{Each}
use Rattle.gl_script.specs.declared.limits.TheConstants.{SESSION_MAX}
use Rattle.gl_base.specs.Words.{Span, lines_of}
use Rattle.gl_base.specs.declared.limits.TheConstants.{COST_MAX}
use Rattle.gl_script.specs.Cost.{session_cost}
use Rattle.gl_script.specs.Table.{keyword_in}
use Rattle.gl_script.specs.declared.version.Version.{Version}
use Rattle.gl_base.specs.Words.{text_at}
use Rattle.gl_script.specs.Faults.{byte_fault, size_fault, statement_fault}
use Rattle.gl_script.specs.Section.{SaidSection}
use Rattle.gl_script.specs.Columns.{columns}
use Rattle.gl_script.specs.Sentence.{Before, is_counted, kind_of, section_fault, to_list, version_of}

-- printable bytes in words that are few and short enough
pub record IsLine (line : Span) : Type 0 where
  pub printable : byte_fault 1 line.text ≡ None
  pub fits : size_fault 0 (columns line.text) ≡ None

abbrev pub counts : Span → Bool
counts line = is_counted (columns line.text)

-- the lines that count
abbrev pub counted : List Span → List Span
counted lines = filter counts lines

-- words that are a statement of its form, in a session of this version
abbrev pub AreStatement : Version → List Span → Type 0
AreStatement version [] = ⊥
AreStatement version (first ∷ words) = (kind_of first.text ≡ None) × (statement_fault version (keyword_in version first.text) first words ≡ None)

abbrev pub IsStatement : Version → Span → Type 0
IsStatement version line = AreStatement version (columns line.text)

-- the sections before a head, the last of them apart
abbrev pub behind_header : Version → List SaidSection → Option SaidSection → Before
behind_header version complete current = record { version = Some version; complete = complete; current = current }

-- words that begin a section in its place
abbrev pub AreHead : Before → SaidSection → List Span → Type 0
AreHead before section [] = ⊥
AreHead before section (first ∷ words) =
    (kind_of first.text ≡ Some section.kind) × (section.name ≡ text_at 0 words) × (section_fault (Some section.kind) before first words ≡ None)

-- lines are these sections of a session of this version, each its head and its statements
abbrev pub IsSections : Version → List SaidSection → Option SaidSection → List Span → List SaidSection → Type 0
IsSections version complete current lines [] = lines ≡ []
IsSections version complete current [] (section ∷ sections) = ⊥
IsSections version complete current (head ∷ lines) (section ∷ sections) =
    AreHead (behind_header version complete current) section (columns head.text)
    × (rest : List Span) × (lines ≡ section.statements ++ rest)
    × Each (IsStatement version) section.statements
    × IsSections version (complete ++ to_list current) (Some section) rest sections

-- the lines that count are a header, which says a version, and these sections of it
abbrev pub IsHeaded : List Span → List SaidSection → Type 0
IsHeaded [] sections = ⊥
IsHeaded (header ∷ lines) sections = (version : Version) × (version_of (columns header.text) ≡ Some version) × IsSections version [] None lines sections

-- bytes that are spelled as sections: few enough, in lines that are lines, those that count a header and these sections, whose cost is within the limit
pub record Spelled (bytes : List ℕ) (sections : List SaidSection) : Type 0 where
  pub size : length bytes ≤ SESSION_MAX
  pub lines : Each IsLine (lines_of bytes)
  pub headed : IsHeaded (counted (lines_of bytes)) sections
  pub cost : session_cost sections ≤ COST_MAX
