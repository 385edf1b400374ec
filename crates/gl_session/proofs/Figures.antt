-- The numbers that are told of a load.
use Rattle.std.proofs.Common.{◌≡◌, ◌<◌, ◌+◌, ℕ, List, length, map, drop, Option, None, Some, Result, Ok, Err, sym, ◌∙◌, ap}
use Rattle.std.specs.Prelude.{IfOk}
use Rattle.std.proofs.lemmas.List.{drop_more, length-map}
use Rattle.std.proofs.lemmas.Option.{slice_get-get_or}
use Rattle.gl_base.specs.Words.{Span}
use Rattle.gl_script.specs.Meaning.{line_in}
use Rattle.gl_script.specs.Section.{SaidSection, all_statements, statements_of}
use Rattle.gl_script.specs.declared.section.Statement.{Statement}
use Rattle.gl_words.specs.declared.task.Task.{Task}
use Rattle.gl_words.specs.declared.task.Task.TheVariants.{Session, Load, Check}
use Rattle.gl_driver.specs.Told.{Told}
use Rattle.gl_script.specs.Sentence.{Sentence}
use Rattle.gl_session.specs.Figures.{CameToFigures, figures, statement_count}
use Rattle.gl_session.specs.OneActor.{CameWithEntries}
use Rattle.gl_check.specs.Drivers.{DriverKind}
use Rattle.gl_check.specs.Many.{no_section}

-- the statements of a section are as many as their lines
pub as_many_lines : (statements : List Statement) (lines : List Span) → map line_in statements ≡ lines → length statements ≡ length lines
as_many_lines statements lines is = sym (length-map statements line_in) ∙ ap (λ (l : List Span). length l) is

-- a section further on
pub counted_on : (sections : List SaidSection) (i : ℕ) → i < length sections → statement_count (drop i sections) ≡ length (statements_of i sections) + statement_count (drop (i + 1) sections)
counted_on sections i lt = ap (λ (l : List SaidSection). statement_count l) (drop_more sections i no_section lt)
    ∙ ap (λ (s : Option SaidSection). length (all_statements s) + statement_count (drop (i + 1) sections)) (sym (slice_get-get_or sections i no_section lt))

-- words ask for one load
abbrev turns_asked : Option Task → ℕ
turns_asked None = 0
turns_asked (Some Session) = 0
turns_asked (Some (Load turns)) = turns
turns_asked (Some Check) = 0

pub same_turns : (asked : Option Task) (m n : ℕ) → asked ≡ Some (Load m) → asked ≡ Some (Load n) → m ≡ n
same_turns asked m n a b = ap turns_asked (sym a ∙ b)

-- the four lines on a session that was carried out
pub figured : {E : Type 0} {O : Type 0} (result : Result O E) (items : O → List ℕ) (driver : DriverKind) (bytes : List ℕ) (sections : List SaidSection) (before : Option Told) (text : List ℕ) (left : Option Told) (entries : ℕ) → Sentence bytes sections
    → CameWithEntries driver sections before text left entries → IfOk result (λ out. items out ≡ figures sections entries text) → IfOk result (λ out. CameToFigures driver bytes before left (items out))
figured (Ok out) items driver bytes sections before text left entries sentence came is = record { sections = sections; sentence = sentence; text = text; entries = entries; came = came; is = is }
figured (Err errno) items driver bytes sections before text left entries sentence came is = tt
