-- The sections of actors, one after another.
use Rattle.std.proofs.Common.{◌≡◌, ◌<◌, ◌≤◌, ◌+◌, ◌-◌, ℕ, suc, Bool, true, false, List, [], ◌∷◌, length, map, drop, get_or, Option, refl, sym, ◌∙◌, ap, arith}
use Rattle.std.specs.Prelude.{if◌then◌else◌, option_map}
use Rattle.std.proofs.lemmas.List.{drop_more}
use Rattle.std.proofs.lemmas.Option.{slice_get-get_or}
use Rattle.gl_script.specs.Columns.{columns}
use Rattle.gl_script.specs.Section.{SaidHead, SaidSection, all_statements, head_at, head_of, statements_of, titled}
use Rattle.gl_script.specs.Meaning.{line_in}
use Rattle.gl_script.specs.declared.section.Statement.{Statement}
use Rattle.gl_script.specs.declared.section.SectionKind.{SectionKind}
use Rattle.gl_script.specs.declared.section.SectionKind.TheVariants.{Setup, Actor, After}
use Rattle.gl_talk.specs.Over.{columns_in}
use Rattle.gl_check.specs.Many.{actor_sections, no_section, words_of}
use Rattle.gl_check.specs.One.{is_kind}
use Rattle.gl_check.specs.Sections.{is_actor_head}

-- whether a section is an actor's stands in its head
kind_same : (kind : SectionKind) (name : List ℕ) → (titled kind name).kind ≡ kind
kind_same Setup name = refl
kind_same Actor name = refl
kind_same After name = refl

pub actor_head : (sections : List SaidSection) (i : ℕ) (head : Option SaidHead) (told : Bool) → i < length sections → told ≡ is_actor_head head → head ≡ head_at i sections → told ≡ is_kind Actor (get_or sections i no_section).kind
actor_head sections i head told lt is at =
    is ∙ ap is_actor_head at ∙ ap (λ (s : Option SaidSection). is_actor_head (option_map head_of s)) (slice_get-get_or sections i no_section lt)
    ∙ ap (λ k. is_kind Actor k) (kind_same (get_or sections i no_section).kind (get_or sections i no_section).name)

-- the words of statements are those of their lines
said_words : (statements : List Statement) → map columns_in statements ≡ map (λ line. columns line.text) (map line_in statements)
said_words [] = refl
said_words (statement ∷ statements) = ap (λ l. columns_in statement ∷ l) (said_words statements)

-- the actors' sections from one section on
abbrev from_one : Bool → SaidSection → List SaidSection → List SaidSection
from_one b section later = if b then section ∷ actor_sections later else actor_sections later

pub actors_from : (sections : List SaidSection) (i : ℕ) (told : Bool) → i < length sections → told ≡ is_kind Actor (get_or sections i no_section).kind
    → actor_sections (drop i sections) ≡ from_one told (get_or sections i no_section) (drop (i + 1) sections)
actors_from sections i told lt is = ap actor_sections (drop_more sections i no_section lt) ∙ ap (λ b. from_one b (get_or sections i no_section) (drop (i + 1) sections)) (sym is)

-- the section after a head
module _ (sections : List SaidSection) (i : ℕ) (told : Bool) (head : Option SaidHead) (there : i < length sections) (is : told ≡ is_actor_head head) (at : head ≡ head_at i sections) where
  from_here : (b : Bool) → told ≡ b → actor_sections (drop i sections) ≡ from_one b (get_or sections i no_section) (drop (i + 1) sections)
  from_here b same = actors_from sections i told there (actor_head sections i head told there is at) ∙ ap (λ x. from_one x (get_or sections i no_section) (drop (i + 1) sections)) same

  pub one_counted : told ≡ true → length (actor_sections (drop i sections)) ≡ length (actor_sections (drop (i + 1) sections)) + 1
  one_counted same = let e : length (actor_sections (drop i sections)) ≡ length (from_one true (get_or sections i no_section) (drop (i + 1) sections)) = ap (λ (l : List SaidSection). length l) (from_here true same) in omega arith

  pub none_counted : told ≡ false → length (actor_sections (drop i sections)) ≡ length (actor_sections (drop (i + 1) sections))
  none_counted same = ap (λ (l : List SaidSection). length l) (from_here false same)

  -- where the actor's section is the one that is looked for, its statements are those of the actor
  pub section_found : (missing number : ℕ) (statements : List Statement) → told ≡ true → missing - 1 ≡ 0
      → get_or (actor_sections (drop i sections)) (missing - 1) no_section ≡ get_or (actor_sections sections) (number - 1) no_section
      → map line_in statements ≡ statements_of i sections → map columns_in statements ≡ words_of (get_or (actor_sections sections) (number - 1) no_section)
  section_found missing number statements same last found lines =
      said_words statements ∙ ap (λ l. map (λ line. columns line.text) l) (lines ∙ ap (λ (s : Option SaidSection). all_statements s) (slice_get-get_or sections i no_section there))
      ∙ ap (λ (s : SaidSection). words_of s) (ap (λ (l : List SaidSection). get_or l 0 no_section) (sym (from_here true same)) ∙ ap (λ k. get_or (actor_sections (drop i sections)) k no_section) (sym last) ∙ found)

  -- else it is further on
  pub section_later : (missing later number : ℕ) → told ≡ true → 1 ≤ later → later ≡ missing - 1
      → get_or (actor_sections (drop i sections)) (missing - 1) no_section ≡ get_or (actor_sections sections) (number - 1) no_section
      → get_or (actor_sections (drop (i + 1) sections)) (later - 1) no_section ≡ get_or (actor_sections sections) (number - 1) no_section
  section_later missing later number same some fewer found =
      let step : missing - 1 ≡ suc (later - 1) = omega arith in
      ap (λ k. get_or (from_one true (get_or sections i no_section) (drop (i + 1) sections)) k no_section) (sym step)
      ∙ ap (λ (l : List SaidSection). get_or l (missing - 1) no_section) (sym (from_here true same)) ∙ found

  pub section_elsewhere : (missing number : ℕ) → told ≡ false
      → get_or (actor_sections (drop i sections)) (missing - 1) no_section ≡ get_or (actor_sections sections) (number - 1) no_section
      → get_or (actor_sections (drop (i + 1) sections)) (missing - 1) no_section ≡ get_or (actor_sections sections) (number - 1) no_section
  section_elsewhere missing number same found = ap (λ (l : List SaidSection). get_or l (missing - 1) no_section) (sym (from_here false same)) ∙ found

-- there are no more actors than sections
pub actors_few : (sections : List SaidSection) → length (actor_sections sections) ≤ length sections
actors_few [] = omega arith
actors_few (section ∷ sections) = by (is_kind Actor section.kind) (actors_few sections)
  where
    by : (b : Bool) → length (actor_sections sections) ≤ length sections → length (from_one b section sections) ≤ length (section ∷ sections)
    by true h = omega arith
    by false h = omega arith
