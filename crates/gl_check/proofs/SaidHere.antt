-- The statements of a section of a kind.
use Rattle.std.proofs.Common.{◌≡◌, ℕ, Bool, true, false, List, [], ◌∷◌, map, Option, None, Some, refl, sym, ◌∙◌, ap}
use Rattle.std.specs.Prelude.{if◌then◌else◌, option_map}
use Rattle.gl_base.specs.Words.{Span}
use Rattle.gl_script.specs.Columns.{columns}
use Rattle.gl_script.specs.Meaning.{line_in}
use Rattle.gl_script.specs.Section.{SaidHead, SaidSection, all_statements, head_of, titled}
use Rattle.gl_script.specs.declared.section.SectionKind.{SectionKind}
use Rattle.gl_script.specs.declared.section.SectionKind.TheVariants.{Setup, Actor, After}
use Rattle.gl_script.specs.declared.section.Statement.{Statement}
use Rattle.gl_talk.specs.Over.{columns_in}
use Rattle.gl_check.specs.One.{is_kind}
use Rattle.gl_check.specs.Sections.{said_of}

titled_kind : (kind : SectionKind) (name : List ℕ) → (titled kind name).kind ≡ kind
titled_kind Setup name = refl
titled_kind Actor name = refl
titled_kind After name = refl

columns_of_lines : (statements : List Statement) → map columns_in statements ≡ map (λ line. columns line.text) (map line_in statements)
columns_of_lines [] = refl
columns_of_lines (statement ∷ statements) = ap (λ l. columns statement.line.now ∷ l) (columns_of_lines statements)

if_true : {A : Type 0} (test : Bool) (a b : A) → test ≡ true → a ≡ (if test then a else b)
if_true true a b e = refl
if_true false a b e = cc

-- the statements of a section of this kind
pub said_here : (kind : SectionKind) (section : Option SaidSection) (head : SaidHead) (statements : List Statement)
    → Some head ≡ option_map head_of section → is_kind kind head.kind ≡ true → map line_in statements ≡ all_statements section → map columns_in statements ≡ said_of kind section
said_here kind None head statements is of lines = cc
said_here kind (Some section) head statements is of lines =
    let same : head ≡ head_of section = cc in
    let test : is_kind kind section.kind ≡ true = ap (λ k. is_kind kind k) (sym (titled_kind section.kind section.name)) ∙ ap (λ (h : SaidHead). is_kind kind h.kind) (sym same) ∙ of in
    columns_of_lines statements
    ∙ ap (λ (l : List Span). map (λ line. columns line.text) l) lines
    ∙ if_true (is_kind kind section.kind) (map (λ line. columns line.text) section.statements) [] test
