-- Sections by their heads and numbers.
use Rattle.std.specs.Prelude.{ℕ, Bool, false, if◌then◌else◌, List, [], map, Option, None, Some, slice_get}
use Rattle.gl_base.specs.Words.{Span}
use Rattle.gl_script.specs.Columns.{columns}
use Rattle.gl_script.specs.Section.{SaidHead, SaidSection}
use Rattle.gl_script.specs.declared.section.SectionKind.{SectionKind}
use Rattle.gl_script.specs.declared.section.SectionKind.TheVariants.{Actor}
use Rattle.gl_check.specs.One.{is_kind}

-- the head of an actor's section
abbrev pub is_actor_head : Option SaidHead → Bool
is_actor_head None = false
is_actor_head (Some head) = is_kind Actor head.kind

-- the words of a section's statements, if it is of this kind
abbrev pub said_of : SectionKind → Option SaidSection → List (List Span)
said_of kind None = []
said_of kind (Some section) = if is_kind kind section.kind then map (λ line. columns line.text) section.statements else []

-- the same of the section of a number, counted from 0
abbrev pub said_at : SectionKind → ℕ → List SaidSection → List (List Span)
said_at kind i sections = said_of kind (slice_get sections i)
