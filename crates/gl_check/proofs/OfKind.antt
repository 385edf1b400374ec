-- The statements of a kind, section by section.
use Rattle.std.proofs.Common.{◌≡◌, ◌<◌, ◌+◌, ℕ, Bool, true, false, List, [], ◌∷◌, ◌++◌, length, map, drop, drop_of_length-le, get_or, Option, Some, ◌≤◌, refl, sym, ◌∙◌, ap}
use Rattle.std.specs.Prelude.{if◌then◌else◌}
use Rattle.std.proofs.lemmas.List.{append_assoc, append-nil, drop_more, map-append}
use Rattle.std.proofs.lemmas.Option.{slice_get-get_or}
use Rattle.gl_base.specs.Words.{Span}
use Rattle.gl_script.specs.Columns.{columns}
use Rattle.gl_script.specs.Section.{SaidSection}
use Rattle.gl_script.specs.declared.section.SectionKind.{SectionKind}
use Rattle.gl_script.specs.declared.section.SectionKind.TheVariants.{Setup}
use Rattle.gl_script.specs.declared.section.Statement.{Statement}
use Rattle.gl_talk.specs.Over.{columns_in}
use Rattle.gl_check.specs.One.{is_kind, said_in_kind}
use Rattle.gl_check.specs.Sections.{said_at, said_of}

-- The statements of a kind from one section on are those of this section, and those of the sections after it.
first_of_kind : (kind : SectionKind) (section : SaidSection) (rest : List SaidSection) → said_in_kind kind (section ∷ rest) ≡ said_of kind (Some section) ++ said_in_kind kind rest
first_of_kind kind section rest = by (is_kind kind section.kind)
  where
    said : List (List Span)
    said = map (λ line. columns line.text) section.statements

    by : (b : Bool) → (if b then said ++ said_in_kind kind rest else said_in_kind kind rest) ≡ (if b then said else []) ++ said_in_kind kind rest
    by true = refl
    by false = refl

nobody : SaidSection
nobody = record { kind = Setup; name = []; statements = [] }

pub said_next : (kind : SectionKind) (sections : List SaidSection) (i : ℕ) → i < length sections → said_in_kind kind (drop i sections) ≡ said_at kind i sections ++ said_in_kind kind (drop (i + 1) sections)
said_next kind sections i lt =
    ap (λ (l : List SaidSection). said_in_kind kind l) (drop_more sections i nobody lt)
    ∙ first_of_kind kind (get_or sections i nobody) (drop (i + 1) sections)
    ∙ ap (λ (o : Option SaidSection). said_of kind o ++ said_in_kind kind (drop (i + 1) sections)) (sym (slice_get-get_or sections i nobody lt))

-- the statements so far, with those of one section more
pub kind_more : (kind : SectionKind) (sections : List SaidSection) (i : ℕ) (all here new first : List Statement) → i < length sections
    → map columns_in here ≡ said_at kind i sections → new ≡ all ++ here
    → map columns_in all ++ said_in_kind kind (drop i sections) ≡ map columns_in first ++ said_in_kind kind sections
    → map columns_in new ++ said_in_kind kind (drop (i + 1) sections) ≡ map columns_in first ++ said_in_kind kind sections
kind_more kind sections i all here new first lt said is so_far =
    ap (λ (l : List Statement). map columns_in l ++ said_in_kind kind (drop (i + 1) sections)) is
    ∙ ap (λ (l : List (List Span)). l ++ said_in_kind kind (drop (i + 1) sections)) (map-append columns_in all here)
    ∙ append_assoc (map columns_in all) (map columns_in here) (said_in_kind kind (drop (i + 1) sections))
    ∙ ap (λ (l : List (List Span)). map columns_in all ++ (l ++ said_in_kind kind (drop (i + 1) sections))) said
    ∙ ap (λ (l : List (List Span)). map columns_in all ++ l) (sym (said_next kind sections i lt))
    ∙ so_far

pub kind_done : (kind : SectionKind) (sections : List SaidSection) (i : ℕ) (all first : List Statement) → length sections ≤ i
    → map columns_in all ++ said_in_kind kind (drop i sections) ≡ map columns_in first ++ said_in_kind kind sections
    → map columns_in all ≡ map columns_in first ++ said_in_kind kind sections
kind_done kind sections i all first most so_far =
    sym (append-nil (map columns_in all)) ∙ ap (λ (l : List SaidSection). map columns_in all ++ said_in_kind kind l) (sym (drop_of_length-le sections most)) ∙ so_far
