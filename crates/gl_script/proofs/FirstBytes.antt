-- A statement is found among those whose word begins with the first byte of the word that is looked for.
use Rattle.std.proofs.Common.{ℕ, Bool, true, false, cond, ◌≡◌, ◌≤◌, List, [], ◌∷◌, length, refl, ap, sym, subst, ◌∙◌, arith, eq-eqb}
use Rattle.std.specs.Prelude.{◌==◌, filter, find, slice_index_or, Some}
use Rattle.std.proofs.lemmas.Slice.Eq.{bytes_eq-Decides}
use Rattle.gl_script.specs.declared.table.Keyword.{Keyword}
use Rattle.gl_script.specs.declared.table.TheConstants.{KEYWORDS}
use Rattle.gl_script.specs.FirstBytes.{begins_with, keywords_from}
use Rattle.gl_script.specs.Table.{is_keyword, keyword_name, keyword_of}

-- what passes one test passes another one, by which the rows may be chosen first
find_among : {X : Type 0} (p q : X → Bool) (xs : List X) → ((x : X) → p x ≡ true → q x ≡ true) → find p (filter q xs) ≡ find p xs
find_among p q [] passes = refl
find_among p q (x ∷ xs) passes =
    elim (p x) as (λ b. p x ≡ b → find p (cond (q x) (x ∷ filter q xs) (filter q xs)) ≡ cond b (Some x) (find p xs)) [
      | true ↦ (λ e. ap (λ b. find p (cond b (x ∷ filter q xs) (filter q xs))) (passes x e) ∙ ap (λ b. cond b (Some x) (find p (filter q xs))) e)
      | false ↦ (λ e. elim (q x) as (λ b. find p (cond b (x ∷ filter q xs) (filter q xs)) ≡ find p (filter q xs)) [ true ↦ ap (λ b. cond b (Some x) (find p (filter q xs))) e | false ↦ refl ] ∙ find_among p q xs passes)
    ] refl

begins : (first : ℕ) (rest : List ℕ) (keyword : Keyword) → is_keyword (first ∷ rest) keyword ≡ true → begins_with first keyword ≡ true
begins first rest keyword e = subst (λ (word : List ℕ). (first == slice_index_or word 0 0) ≡ true) (sym ((bytes_eq-Decides (keyword_name keyword) (first ∷ rest)).0 e)) (eq-eqb first first refl)

pub kept_among : (first : ℕ) (rest : List ℕ) → find (is_keyword (first ∷ rest)) (keywords_from first) ≡ keyword_of (first ∷ rest)
unfolding keywords_from
kept_among first rest = find_among (is_keyword (first ∷ rest)) (begins_with first) KEYWORDS (begins first rest)

pub from_first : (first : ℕ) → filter (begins_with first) KEYWORDS ≡ keywords_from first
unfolding keywords_from
from_first first = refl

pub kept_by : (word : List ℕ) → 1 ≤ length word → find (is_keyword word) (keywords_from (slice_index_or word 0 0)) ≡ keyword_of word
kept_by [] some = absurd (omega arith)
kept_by (first ∷ rest) some = kept_among first rest
