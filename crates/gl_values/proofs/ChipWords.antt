-- The chip words of a tool, one after the other.
use Rattle.std.proofs.Common.{◌≡◌, ◌≤◌, ◌<◌, ℕ, suc, ◌+◌, ◌-◌, List, [], ◌∷◌, length, get_or, refl, ap, arith}
use Rattle.std.proofs.lemmas.List.{drop_more, drop_all}
use Rattle.gl_base.specs.declared.limits.TheConstants.{PLACES}
use Rattle.gl_base.specs.Decimal.{decimal}
use Rattle.gl_values.specs.Chips.{places_from, words_from}

place_step : (i n m : ℕ) → n ≡ suc m → places_from i n ≡ decimal i ∷ places_from (i + 1) m
place_step i n m e = rw e (ap (λ j. decimal i ∷ places_from j m) (omega arith))

-- the next of all places
pub next_place : (words : List (List ℕ)) (i : ℕ) → length words ≡ 0 → i < PLACES → words_from words i ≡ decimal i ∷ words_from words (i + 1)
next_place [] i e h = place_step i (PLACES - i) (PLACES - (i + 1)) (omega arith)
next_place (word ∷ words) i e h = absurd (omega arith)

pub no_place : (words : List (List ℕ)) (i : ℕ) → length words ≡ 0 → PLACES ≤ i → words_from words i ≡ []
no_place [] i e h = let z : PLACES - i ≡ 0 = omega arith in rw z refl
no_place (word ∷ words) i e h = absurd (omega arith)

-- the next word that was given
pub next_word : (words : List (List ℕ)) (i : ℕ) (d : List ℕ) → i < length words → words_from words i ≡ get_or words i d ∷ words_from words (i + 1)
next_word [] i d h = absurd (omega arith)
next_word (word ∷ words) i d h = drop_more (word ∷ words) i d h

-- the only word that was given
pub only_word : (word : List ℕ) (i : ℕ) → i ≡ 0 → words_from (word ∷ []) i ≡ word ∷ words_from (word ∷ []) (i + 1)
only_word word i e = rw e refl

pub past_word : (word : List ℕ) (i : ℕ) → 0 < i → words_from (word ∷ []) i ≡ []
past_word word i h = drop_all i (word ∷ []) (omega arith)

pub ruleset words = (next_place, no_place, next_word, only_word, past_word)
