-- Sections of a session: what a text says. This project's choice.
use Rattle.std.specs.Prelude.{ℕ, List, [], Option, None, Some, slice_get, option_map}
use Rattle.gl_base.specs.Words.{Span}
use Rattle.gl_script.specs.declared.section.SectionKind.{SectionKind}
use Rattle.gl_script.specs.declared.section.SectionKind.TheVariants.{Setup, Actor, After}

-- a section: its kind, an actor's name (the others have none), and its statements, each the line that it stands in
pub record SaidSection : Type 0 where
  pub kind : SectionKind
  pub name : List ℕ
  pub statements : List Span

-- the kind of a section, and an actor's name
pub record SaidHead : Type 0 where
  pub kind : SectionKind
  pub name : List ℕ

abbrev pub titled : SectionKind → List ℕ → SaidHead
titled Setup name = record { kind = Setup; name = [] }
titled Actor name = record { kind = Actor; name = name }
titled After name = record { kind = After; name = [] }

abbrev pub head_of : SaidSection → SaidHead
head_of section = titled section.kind section.name

-- the head of the section of a number, counted from 0, if there is one
abbrev pub head_at : ℕ → List SaidSection → Option SaidHead
head_at section sections = option_map head_of (slice_get sections section)

-- a statement of a section, both counted from 0, if there is one
abbrev pub statement_in : ℕ → Option SaidSection → Option Span
statement_in i None = None
statement_in i (Some section) = slice_get section.statements i

abbrev pub statement_at : ℕ → ℕ → List SaidSection → Option Span
statement_at section i sections = statement_in i (slice_get sections section)

-- the statements of a section; none where there is no such section
abbrev pub all_statements : Option SaidSection → List Span
all_statements None = []
all_statements (Some section) = section.statements

abbrev pub statements_of : ℕ → List SaidSection → List Span
statements_of section sections = all_statements (slice_get sections section)
