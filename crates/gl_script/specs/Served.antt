-- The lines of a session that is answered line by line: its header, `setup`, and then statements. A session of this kind has no other
-- section. This project's choice.
use Rattle.std.specs.Prelude.{◌≡◌, ℕ, if◌then◌else◌, List, [], ◌∷◌, Option, None, Some, Result, Ok, Err}
use Rattle.gl_base.specs.Words.{Span}
use Rattle.gl_script.specs.declared.refusal.RefusalKind.TheVariants.{Header as HeaderFault, Section as SectionFault}
use Rattle.gl_script.specs.declared.refusal.Spot.{Spot}
use Rattle.gl_script.specs.declared.section.SectionKind.{SectionKind}
use Rattle.gl_script.specs.declared.section.SectionKind.TheVariants.{Setup as SetupSection, Actor, After}
use Rattle.gl_script.specs.declared.served.LineKind.{LineKind}
use Rattle.gl_script.specs.declared.served.LineKind.TheVariants.{Passed as PassedLine, Header as HeaderLine, Setup as SetupLine, Statement as StatementLine}
use Rattle.gl_script.specs.declared.served.Stage.{Stage}
use Rattle.gl_script.specs.declared.served.Stage.TheVariants.{Opening, Headed, Open}
use Rattle.gl_script.specs.declared.version.Version.{Version}
use Rattle.gl_script.specs.Columns.{columns}
use Rattle.gl_script.specs.Faults.{byte_fault, more_fault, size_fault, spot, statement_fault}
use Rattle.gl_script.specs.Said.{said_of}
use Rattle.gl_script.specs.Sentence.{is_comment, kind_of, version_of}
use Rattle.gl_script.specs.Table.{keyword_in}

-- what a line is
pub data Kind : Type 0 where
  Passed : Kind
  Header : Version → Kind
  Setup : Kind
  Statement : Kind

-- a line of this kind, unless it has a fault
abbrev pub unless : Option Spot → Result Kind Spot → Result Kind Spot
unless None kind = kind
unless (Some fault) kind = Err fault

-- the first line that counts says a version
abbrev pub opening_kind : Option Version → Span → Result Kind Spot
opening_kind None first = Err (spot first.at HeaderFault)
opening_kind (Some version) first = Ok (Header version)

-- the next one is `setup`
abbrev pub headed_kind : Option SectionKind → Span → List Span → Result Kind Spot
headed_kind None first words = Err (spot first.at SectionFault)
headed_kind (Some SetupSection) first words = unless (more_fault words) (Ok Setup)
headed_kind (Some Actor) first words = Err (spot first.at SectionFault)
headed_kind (Some After) first words = Err (spot first.at SectionFault)

-- then come statements, and no further section
abbrev pub open_kind : Version → Option SectionKind → Span → List Span → Result Kind Spot
open_kind version None first words = unless (statement_fault version (keyword_in version first.text) first words) (Ok Statement)
open_kind version (Some kind) first words = Err (spot first.at SectionFault)

abbrev pub kind_at : Stage → Span → List Span → Result Kind Spot
kind_at Opening first words = opening_kind (version_of (first ∷ words)) first
kind_at (Headed version) first words = headed_kind (kind_of first.text) first words
kind_at (Open version) first words = open_kind version (kind_of first.text) first words

-- a line without words, or whose first word is a comment, is passed over
abbrev pub words_kind : Stage → List Span → Result Kind Spot
words_kind stage [] = Ok Passed
words_kind stage (first ∷ words) = if is_comment first.text then Ok Passed else kind_at stage first words

-- what a line is at a stage, or its first fault
abbrev pub line_kind : Stage → List ℕ → Result Kind Spot
line_kind stage text = unless (byte_fault 1 text) (unless (size_fault 0 (columns text)) (words_kind stage (columns text)))

-- the stage after `setup`
abbrev pub opened : Stage → Stage
opened Opening = Opening
opened (Headed version) = Open version
opened (Open version) = Open version

-- the stage after a line of a kind
abbrev pub stage_after : Stage → Kind → Stage
stage_after stage Passed = stage
stage_after stage (Header version) = Headed version
stage_after stage Setup = opened stage
stage_after stage Statement = stage

-- what a line is that was read
abbrev pub kind_in : LineKind → Kind
kind_in PassedLine = Passed
kind_in (HeaderLine version) = Header version
kind_in SetupLine = Setup
kind_in (StatementLine said) = Statement

abbrev pub kinds : Result LineKind Spot → Result Kind Spot
kinds (Ok line) = Ok (kind_in line)
kinds (Err fault) = Err fault

-- where it is a statement, what was read is what its words say
abbrev pub IsSaid : List Span → LineKind → Type 0
IsSaid words (StatementLine said) = said_of words ≡ Some said
IsSaid words line = Unit {0}
