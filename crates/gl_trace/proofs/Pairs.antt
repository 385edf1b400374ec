-- Bytes that are read from their pairs, from the front.
use Rattle.std.proofs.Common.{◌≡◌, ℕ, ◌+◌, ◌<◌, ◌≤◌, true, false, nat_le, List, [], ◌∷◌, ◌++◌, length, take, Option, Some, None, refl, sym, ◌∙◌, ap, append_assoc, length-append, arith}
use Rattle.std.proofs.lemmas.Bool.Decides.{nat_tests}
use Rattle.std.proofs.lemmas.List.{take_more_set, append-nil}
use Rattle.std.specs.Prelude.{slice_set}
use Rattle.gl_trace.specs.WordRead.{hex_value, onto_bytes, pair_byte, pairs_of, short}

-- bytes in front of those that are read
abbrev pub prefixed : List ℕ → Option (List ℕ) → Option (List ℕ)
prefixed front None = None
prefixed front (Some bytes) = Some (front ++ bytes)

pub prefixed_nothing : (bytes : Option (List ℕ)) → bytes ≡ prefixed [] bytes
prefixed_nothing None = refl
prefixed_nothing (Some bytes) = refl

prefixed_more : (front : List ℕ) (byte : ℕ) (bytes : Option (List ℕ)) → prefixed front (onto_bytes (Some byte) bytes) ≡ prefixed (front ++ byte ∷ []) bytes
prefixed_more front byte None = refl
prefixed_more front byte (Some bytes) = ap Some (sym (append_assoc front (byte ∷ []) bytes))

-- the first `count` bytes are read
abbrev pub Until : List ℕ → List ℕ → ℕ → List ℕ → Type 0
Until digits bytes count rest = pairs_of digits ≡ prefixed (take count bytes) (pairs_of rest)

-- one more was read
pub one_more : (digits bytes rest after : List ℕ) (count byte : ℕ) → Until digits bytes count rest → pairs_of rest ≡ onto_bytes (Some byte) (pairs_of after) → count < length bytes
    → Until digits (slice_set bytes count byte) (count + 1) after
one_more digits bytes rest after count byte so_far e within =
    so_far ∙ ap (prefixed (take count bytes)) e ∙ prefixed_more (take count bytes) byte (pairs_of after)
    ∙ ap (λ front. prefixed front (pairs_of after)) (sym (take_more_set bytes count byte within))

too_long : (front more : List ℕ) (byte : ℕ) → length front ≡ 127 → short (Some (front ++ byte ∷ more)) ≡ None
too_long front more byte e =
    let size : length (front ++ byte ∷ more) ≡ length front + length (byte ∷ more) = length-append front (byte ∷ more) in
    let long : nat_le (length (front ++ byte ∷ more)) 127 ≡ false = grind (arith, nat_tests) in
    rw long refl

any_more : (front : List ℕ) (byte bytes : _) → length front ≡ 127 → short (prefixed front (onto_bytes byte bytes)) ≡ None
any_more front None bytes e = refl
any_more front (Some byte) None e = refl
any_more front (Some byte) (Some more) e = too_long front more byte e

no_more : (front rest : List ℕ) → length front ≡ 127 → 0 < length rest → short (prefixed front (pairs_of rest)) ≡ None
no_more front [] e there = absurd (omega arith)
no_more front (digit ∷ []) e there = refl
no_more front (high ∷ low ∷ digits) e there = any_more front (pair_byte (hex_value high) (hex_value low)) (pairs_of digits) e

-- there are too many
pub too_many : (digits front rest : List ℕ) → pairs_of digits ≡ prefixed front (pairs_of rest) → length front ≡ 127 → 0 < length rest → short (pairs_of digits) ≡ None
too_many digits front rest so_far e there = ap short so_far ∙ no_more front rest e there

-- there are no pairs
pub no_pairs : (digits front rest : List ℕ) → pairs_of digits ≡ prefixed front (pairs_of rest) → pairs_of rest ≡ None → short (pairs_of digits) ≡ None
no_pairs digits front rest so_far e = ap short so_far ∙ ap (λ bytes. short (prefixed front bytes)) e

all_short : (front : List ℕ) → length front ≤ 127 → short (Some (front ++ [])) ≡ Some front
all_short front few =
    let same : front ++ [] ≡ front = append-nil front in
    let fits : nat_le (length front) 127 ≡ true = grind (arith, nat_tests) in
    ap (λ t. short (Some t)) same ∙ rw fits refl

-- all were read
pub all_read : (digits front rest : List ℕ) → pairs_of digits ≡ prefixed front (pairs_of rest) → length rest ≡ 0 → length front ≤ 127 → short (pairs_of digits) ≡ Some front
all_read digits front [] so_far e few = ap short so_far ∙ all_short front few
all_read digits front (digit ∷ rest) so_far e few = absurd (omega arith)

pub ruleset pairs = (prefixed_nothing, no_pairs)
