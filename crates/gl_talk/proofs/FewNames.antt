-- The names of an `aggregate` are few, so what the first ones come to is what all come to.
use Rattle.std.proofs.Common.{◌≡◌, ◌≤◌, ◌-◌, ℕ, Bool, true, false, List, [], ◌∷◌, ◌++◌, ◌||◌, length, Option, refl, sym, ap, subst, append-nil, ◌∙◌, arith}
use Rattle.std.specs.List.{list_any}
use Rattle.std.specs.Prelude.{if◌then◌else◌, nat_eq}
use Rattle.std.proofs.lemmas.Bool.Decides.{nat_tests}
use Rattle.gl_base.specs.Words.{Span}
use Rattle.gl_script.specs.Formed.{AreFormed}
use Rattle.gl_script.specs.declared.limits.TheConstants.{JOINED_MAX}
use Rattle.gl_script.specs.declared.said.Said.{Said}
use Rattle.gl_script.specs.declared.said.Said.TheVariants.{Aggregate}
use Rattle.gl_talk.specs.Actions.{files_named, slots_of}
use Rattle.gl_talk.specs.Copied.{words_of}
use Rattle.gl_talk.specs.Open.{File, file_of}
use Rattle.gl_talk.specs.Words.{behind_two}
use Rattle.gl_talk.specs.declared.copied.CopiedStatement.{CopiedStatement}
use Rattle.gl_talk.proofs.Copies.{formed}

-- the files of names, where they are there
abbrev pub files_of : List Span → List File → List (Option File)
files_of [] files = []
files_of (word ∷ words) files = file_of word.text files ∷ files_of words files

named_by : (b : Bool) (most : ℕ) (word : Span) (words : List Span) (files : List File) → nat_eq most 0 ≡ b → length (word ∷ words) ≤ most
    → files_named (most - 1) words files ≡ files_of words files → (if b then [] else file_of word.text files ∷ files_named (most - 1) words files) ≡ files_of (word ∷ words) files
named_by true most word words files e few later = absurd (grind (arith, nat_tests, e, few))
named_by false most word words files e few later = ap (λ (rest : List (Option File)). file_of word.text files ∷ rest) later

pub named_all : (most : ℕ) (words : List Span) (files : List File) → length words ≤ most → files_named most words files ≡ files_of words files
named_all most [] files few = refl
named_all most (word ∷ words) files few = named_by (nat_eq most 0) most word words files refl few (named_all (most - 1) words files (omega (arith, few)))

-- what all names come to is what the first ones do
or_none : (b : Bool) → (b || false) ≡ b
or_none true = refl
or_none false = refl

pub all_any : (test : Option File → Bool) (so_far : Bool) (left words : List Span) (files : List File) → left ≡ [] → length words ≤ JOINED_MAX
    → (so_far || list_any test (files_of left files)) ≡ list_any test (files_of words files) → so_far ≡ list_any test (files_named JOINED_MAX words files)
all_any test so_far left words files none few all =
    sym (or_none so_far)
    ∙ ap (λ (ws : List Span). so_far || list_any test (files_of ws files)) (sym none)
    ∙ all
    ∙ ap (λ (named : List (Option File)). list_any test named) (sym (named_all JOINED_MAX words files few))

pub all_slots : (so_far : List ℕ) (left words : List Span) (files : List File) → left ≡ [] → length words ≤ JOINED_MAX
    → so_far ++ slots_of (files_of left files) ≡ slots_of (files_of words files) → so_far ≡ slots_of (files_named JOINED_MAX words files)
all_slots so_far left words files none few all =
    sym (append-nil so_far)
    ∙ ap (λ (ws : List Span). so_far ++ slots_of (files_of ws files)) (sym none)
    ∙ all
    ∙ ap (λ (named : List (Option File)). slots_of named) (sym (named_all JOINED_MAX words files few))

-- there are as many as may be
joins : (said : Said) (label : List ℕ) (words : List Span) → said ≡ Aggregate label → AreFormed said words → AreFormed (Aggregate label) words
joins said label words e is = subst (λ (s : Said). AreFormed s words) e is

few_behind : (words : List Span) → length words ≤ 6 → length (behind_two words) ≤ JOINED_MAX
few_behind [] few = omega arith
few_behind (a ∷ []) few = omega arith
few_behind (a ∷ b ∷ words) few = omega (arith, few)

pub joined_formed : (copied : CopiedStatement) (label : List ℕ) → copied.said ≡ Aggregate label → AreFormed (Aggregate label) (words_of copied)
joined_formed copied label e = joins copied.said label (words_of copied) e (formed copied)

pub few_joined : (copied : CopiedStatement) (label : List ℕ) → copied.said ≡ Aggregate label → length (behind_two (words_of copied)) ≤ JOINED_MAX
few_joined copied label e = few_behind (words_of copied) (joined_formed copied label e).1
