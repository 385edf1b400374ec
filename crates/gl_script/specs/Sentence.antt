-- The sentences of a session and the first fault of what is none. This project's choice.
use Rattle.std.specs.Prelude.{◌≡◌, ℕ, ◌+◌, Bool, true, false, not, ◌&&◌, ◌||◌, ◌==◌, nat_le, nat_lt, if◌then◌else◌, List, [], ◌∷◌, ◌++◌, length, count_by, is_some, Option, None, Some, codes}
use Rattle.std.specs.List.{list_any}
use Rattle.std.specs.Option.{option_or}
use Rattle.std.specs.Str.{bytes_eq}
use Rattle.gl_base.specs.Refusals.{when, first_of}
use Rattle.gl_base.specs.Words.{Span, end_of, lines_of, text_at}
use Rattle.gl_base.specs.declared.limits.TheConstants.{COST_MAX}
use Rattle.gl_script.specs.declared.limits.TheConstants.{SESSION_MAX, ACTORS_MAX}
use Rattle.gl_script.specs.declared.refusal.RefusalKind.TheVariants.{TooLong, Header, Section, Words, Word, Name, Limit, Cost}
use Rattle.gl_script.specs.declared.refusal.Spot.{Spot}
use Rattle.gl_script.specs.declared.refusal.Refusal.{Refusal}
use Rattle.gl_script.specs.declared.section.SectionKind.{SectionKind}
use Rattle.gl_script.specs.declared.section.SectionKind.TheVariants.{Setup, Actor, After}
use Rattle.gl_script.specs.declared.table.Form.TheVariants.{FileName}
use Rattle.gl_script.specs.declared.version.Version.{Version}
use Rattle.gl_script.specs.declared.version.Version.TheVariants.{One, Two, Three}
use Rattle.gl_script.specs.Columns.{columns}
use Rattle.gl_script.specs.Cost.{session_cost}
use Rattle.gl_script.specs.Faults.{spot, byte_fault, size_fault, more_fault, statement_fault}
use Rattle.gl_script.specs.Forms.{meets}
use Rattle.gl_script.specs.Section.{SaidSection}
use Rattle.gl_script.specs.Table.{keyword_in}

-- what stands before a line: the version that the header said, the sections that are complete, and the one that is open
pub record Before : Type 0 where
  pub version : Option Version
  pub complete : List SaidSection
  pub current : Option SaidSection

-- nothing
abbrev pub nothing : Before
nothing = record { version = None; complete = []; current = None }

abbrev pub to_list : Option SaidSection → List SaidSection
to_list None = []
to_list (Some section) = section ∷ []

-- all sections
abbrev pub sections_in : Before → List SaidSection
sections_in before = before.complete ++ to_list before.current

abbrev pub is_comment : List ℕ → Bool
is_comment [] = false
is_comment (byte ∷ bytes) = byte == 35

-- a line without words, or whose first word is a comment, is passed over
abbrev pub is_counted : List Span → Bool
is_counted [] = false
is_counted (word ∷ words) = not (is_comment word.text)

-- `1`, `2` or `3`
abbrev pub version_said : List ℕ → Option Version
version_said word =
    if bytes_eq word (codes "1") then Some One
    else if bytes_eq word (codes "2") then Some Two
    else if bytes_eq word (codes "3") then Some Three
    else None

-- the version that a header says, `session` and its number; other words say none
abbrev pub version_of : List Span → Option Version
version_of (name ∷ version ∷ []) = if bytes_eq name.text (codes "session") then version_said version.text else None
version_of _ = None

-- the first line that counts says a version
abbrev pub header_fault : Option Version → Span → Option Spot
header_fault None first = Some (spot first.at Header)
header_fault (Some version) first = None

-- the kind of section that a word begins, if it begins one
abbrev pub kind_of : List ℕ → Option SectionKind
kind_of word =
    if bytes_eq word (codes "setup") then Some Setup
    else if bytes_eq word (codes "actor") then Some Actor
    else if bytes_eq word (codes "after") then Some After
    else None

abbrev pub is_actor : SectionKind → Bool
is_actor Actor = true
is_actor _ = false

abbrev pub is_after : SectionKind → Bool
is_after After = true
is_after _ = false

-- `setup` comes first, and `after` last
abbrev pub is_out_of_order : SectionKind → Option SaidSection → Bool
is_out_of_order kind None = false
is_out_of_order Setup (Some section) = true
is_out_of_order Actor (Some section) = is_after section.kind
is_out_of_order After (Some section) = is_after section.kind

abbrev pub actors_in : Option SaidSection → ℕ
actors_in None = 0
actors_in (Some section) = if is_actor section.kind then 1 else 0

-- how many actors stand before
abbrev pub actor_count : Before → ℕ
actor_count before = count_by (λ section. is_actor section.kind) before.complete + actors_in before.current

abbrev pub is_named : List ℕ → SaidSection → Bool
is_named name section = bytes_eq section.name name

abbrev pub names_current : List ℕ → Option SaidSection → Bool
names_current name None = false
names_current name (Some section) = is_named name section

-- an actor has this name; a section without a name has the empty one
abbrev pub is_used : List ℕ → Before → Bool
is_used name before = list_any (is_named name) before.complete || names_current name before.current

-- the first fault of the words behind `actor`
abbrev pub actor_fault : Before → ℕ → List Span → Option Spot
actor_fault before end [] = Some (spot end Words)
actor_fault before end (word ∷ words) =
    first_of (when (not (meets FileName word.text)) (spot word.at Word) ∷ when (is_used word.text before) (spot word.at Name) ∷ more_fault words ∷ [])

-- the first fault of the words behind the word of a section
abbrev pub head_fault : SectionKind → Before → ℕ → List Span → Option Spot
head_fault Setup before end words = more_fault words
head_fault Actor before end words = actor_fault before end words
head_fault After before end words = more_fault words

-- the first fault of a statement, which stands behind a header and in a section
abbrev pub in_section_fault : Option Version → Option SaidSection → Span → List Span → Option Spot
in_section_fault None current first words = Some (spot first.at Section)
in_section_fault (Some version) None first words = Some (spot first.at Section)
in_section_fault (Some version) (Some section) first words = statement_fault version (keyword_in version first.text) first words

-- the first fault of a line that begins a section, or else of a statement
abbrev pub section_fault : Option SectionKind → Before → Span → List Span → Option Spot
section_fault (Some kind) before first words =
    first_of (when (is_out_of_order kind before.current) (spot first.at Section)
    ∷ when (is_actor kind && nat_le ACTORS_MAX (actor_count before)) (spot first.at Limit)
    ∷ head_fault kind before (end_of first) words ∷ [])
section_fault None before first words = in_section_fault before.version before.current first words

-- the first fault of a line that counts, by the version that was said before it
abbrev pub versioned_fault : Option Version → Before → Span → List Span → Option Spot
versioned_fault None before first words = header_fault (version_of (first ∷ words)) first
versioned_fault (Some version) before first words = section_fault (kind_of first.text) before first words

-- the first fault of a line that counts
abbrev pub counted_fault : Before → List Span → Option Spot
counted_fault before [] = None
counted_fault before (first ∷ words) = versioned_fault before.version before first words

-- the first fault of a line, behind what stands before it
abbrev pub line_fault : Before → List ℕ → Option Spot
line_fault before text =
    first_of (byte_fault 1 text ∷ size_fault 0 (columns text)
    ∷ (if is_counted (columns text) then counted_fault before (columns text) else None) ∷ [])

-- a section with one statement more
abbrev pub with_statement : Span → Option SaidSection → Option SaidSection
with_statement line None = None
with_statement line (Some section) = Some (record { kind = section.kind; name = section.name; statements = section.statements ++ line ∷ [] })

abbrev pub behind_head : Option SectionKind → Before → Span → List Span → Before
behind_head (Some kind) before line words = record { version = before.version; complete = sections_in before; current = Some (record { kind = kind; name = text_at 0 words; statements = [] }) }
behind_head None before line words = record { version = before.version; complete = before.complete; current = with_statement line before.current }

-- what stands behind a line that counts and has no fault, by the version that was said before it
abbrev pub behind_version : Option Version → Before → Span → Span → List Span → Before
behind_version None before line first words = record { version = version_of (first ∷ words); complete = before.complete; current = before.current }
behind_version (Some version) before line first words = behind_head (kind_of first.text) before line words

-- what stands behind a line that counts and has no fault
abbrev pub behind_counted : Before → Span → List Span → Before
behind_counted before line [] = before
behind_counted before line (first ∷ words) = behind_version before.version before line first words

-- what stands behind a line that has no fault
abbrev pub behind : Before → Span → Before
behind before line = if is_counted (columns line.text) then behind_counted before line (columns line.text) else before

-- a fault in the line of this number
abbrev pub refusal_at : ℕ → Option Spot → Option Refusal
refusal_at number None = None
refusal_at number (Some fault) = Some (record { line = number; column = fault.column; kind = fault.kind })

-- where no line counts the header is missing
abbrev pub end_fault : Before → Option Refusal
end_fault before = when (not (is_some before.version)) (record { line = 1; column = 1; kind = Header })

-- the first fault of lines from the one of this number on, behind what stands before them
abbrev pub fault_from : Before → ℕ → List Span → Option Refusal
fault_from before number [] = end_fault before
fault_from before number (line ∷ lines) = option_or (refusal_at number (line_fault before line.text)) (fault_from (behind before line) (number + 1) lines)

-- what stands behind all lines
abbrev pub behind_all : Before → List Span → Before
behind_all before [] = before
behind_all before (line ∷ lines) = behind_all (behind before line) lines

-- the sections that bytes say, if they have no fault
abbrev pub sections_said : List ℕ → List SaidSection
sections_said bytes = sections_in (behind_all nothing (lines_of bytes))

-- the cost of sections is over the limit
abbrev pub cost_fault : List SaidSection → Option Refusal
cost_fault sections = when (nat_lt COST_MAX (session_cost sections)) (record { line = 0; column = 0; kind = Cost })

-- the first fault of bytes: their length comes first, then the lines in order, and the cost last
abbrev pub first_fault : List ℕ → Option Refusal
first_fault bytes =
    if nat_lt SESSION_MAX (length bytes) then Some (record { line = 0; column = 0; kind = TooLong })
    else option_or (fault_from nothing 1 (lines_of bytes)) (cost_fault (sections_said bytes))

-- the bytes say these sections
pub record Sentence (bytes : List ℕ) (sections : List SaidSection) : Type 0 where
  pub faultless : first_fault bytes ≡ None
  pub says : sections ≡ sections_said bytes
