-- Words of values, a bit a line, and bytes of them.
use Rattle.std.proofs.Common.{◌≡◌, Bool, true, false, ℕ, zero, suc, ◌+◌, ◌^◌, ◌<◌, ◌≤◌, ◌==◌, List, [], ◌∷◌, ◌++◌, length, drop, get_or, set, refl, sym, ap, ◌∙◌, arith}
use Rattle.std.specs.Prelude.{if◌then◌else◌}
use Rattle.std.proofs.lemmas.List.{drop_more, set_at, append_assoc}
use Rattle.std.proofs.Math.Pow.{pow_mono}
use Rattle.gl_uapi.specs.Fields.{overwritten}
use Rattle.gl_v1.specs.Values.{bits_from, value_byte, value_bytes}

-- the bit of one byte
bit_at_most : (b : Bool) (n : ℕ) → (if b then 0 else n) ≤ n
bit_at_most true n = omega arith
bit_at_most false n = omega arith

-- the bits from i on of so many bytes
bits_from_below : (i : ℕ) (bytes : List ℕ) → bits_from i bytes + 2 ^ i ≤ 2 ^ (i + length bytes)
bits_from_below i [] = let e : i + 0 ≡ i = omega arith in let p : 2 ^ (i + 0) ≡ 2 ^ i = ap (λ n. 2 ^ n) e in omega arith
bits_from_below i (byte ∷ bytes) =
    let one : (if byte == 0 then 0 else 2 ^ i) ≤ 2 ^ i = bit_at_most (byte == 0) (2 ^ i) in
    let others : bits_from (i + 1) bytes + 2 ^ (i + 1) ≤ 2 ^ (i + 1 + length bytes) = bits_from_below (i + 1) bytes in
    let more : i + 1 ≡ suc i = omega arith in
    let twice : 2 ^ (i + 1) ≡ 2 ^ suc i = ap (λ n. 2 ^ n) more in
    let e : i + 1 + length bytes ≡ i + suc (length bytes) = omega arith in
    let p : 2 ^ (i + 1 + length bytes) ≡ 2 ^ (i + suc (length bytes)) = ap (λ n. 2 ^ n) e in
    omega arith

-- the bits of at most 64 bytes are a word
pub bits_word : (bytes : List ℕ) → length bytes ≤ 64 → bits_from 0 bytes < 18446744073709551616
bits_word bytes short =
    let all : bits_from 0 bytes + 2 ^ 0 ≤ 2 ^ (0 + length bytes) = bits_from_below 0 bytes in
    let within : 0 + length bytes ≤ 64 = omega arith in
    let top : 2 ^ (0 + length bytes) ≤ 2 ^ 64 = pow_mono {i = 0 + length bytes} {j = 64} within in
    omega arith

-- one byte more
pub next_bit : (bytes : List ℕ) (i : ℕ) → i < length bytes
    → bits_from i (drop i bytes) ≡ (if get_or bytes i 0 == 0 then 0 else 2 ^ i) + bits_from (i + 1) (drop (i + 1) bytes)
next_bit bytes i below = ap (bits_from i) (drop_more bytes i 0 below)

-- so there is room for it
pub bits_fit : (bytes : List ℕ) (i bits bit : ℕ) → length bytes ≤ 64 → i < length bytes → bits + bits_from i (drop i bytes) ≡ bits_from 0 bytes
    → bit ≡ (if get_or bytes i 0 == 0 then 0 else 2 ^ i) → bits + bit < 18446744073709551616
bits_fit bytes i bits bit short below so_far is =
    let all = bits_word bytes short in
    let here = next_bit bytes i below in
    omega arith

pub length-value_bytes : (bits lines i count : ℕ) → length (value_bytes bits lines i count) ≡ count
length-value_bytes bits lines i zero = refl
length-value_bytes bits lines i (suc count) = ap suc (length-value_bytes bits lines (i + 1) count)

-- one byte more
value_bytes_more : (bits lines i count : ℕ) → value_bytes bits lines i (suc count) ≡ value_bytes bits lines i count ++ value_byte bits lines (i + count) ∷ []
value_bytes_more bits lines i zero = let e : i + 0 ≡ i = omega arith in ap (λ n. value_byte bits lines n ∷ []) (sym e)
value_bytes_more bits lines i (suc count) =
    let e : i + 1 + count ≡ i + suc count = omega arith in
    ap (λ bytes. value_byte bits lines i ∷ bytes) (value_bytes_more bits lines (i + 1) count ∙ ap (λ n. value_bytes bits lines (i + 1) count ++ value_byte bits lines n ∷ []) e)

-- the next byte is written behind those so far
pub byte_written : (bits lines i : ℕ) (old buf : List ℕ) → buf ≡ value_bytes bits lines 0 i ++ drop i old → i < length old
    → set buf i (value_byte bits lines i) ≡ value_bytes bits lines 0 (i + 1) ++ drop (i + 1) old
byte_written bits lines i old buf so_far below =
    let front : List ℕ = value_bytes bits lines 0 i in
    let split : buf ≡ front ++ get_or old i 0 ∷ drop (i + 1) old = so_far ∙ ap (λ rest. front ++ rest) (drop_more old i 0 below) in
    let here : set (front ++ get_or old i 0 ∷ drop (i + 1) old) i (value_byte bits lines i) ≡ front ++ value_byte bits lines i ∷ drop (i + 1) old =
    set_at front (get_or old i 0) (drop (i + 1) old) (value_byte bits lines i) i (length-value_bytes bits lines 0 i) in
    let joined : front ++ value_byte bits lines i ∷ [] ++ drop (i + 1) old ≡ front ++ value_byte bits lines i ∷ drop (i + 1) old = append_assoc front (value_byte bits lines i ∷ []) (drop (i + 1) old) in
    let next : i + 1 ≡ suc i = omega arith in
    let same : 0 + i ≡ i = omega arith in
    let more : value_bytes bits lines 0 (i + 1) ≡ front ++ value_byte bits lines i ∷ [] =
    ap (value_bytes bits lines 0) next ∙ value_bytes_more bits lines 0 i ∙ ap (λ n. front ++ value_byte bits lines n ∷ []) same in
    ap (λ bytes. set bytes i (value_byte bits lines i)) split ∙ here ∙ sym joined ∙ ap (λ bytes. bytes ++ drop (i + 1) old) (sym more)

-- all of them are written over the front
pub all_written : (bits lines : ℕ) (old buf : List ℕ) → buf ≡ value_bytes bits lines 0 64 ++ drop 64 old → buf ≡ overwritten 0 (value_bytes bits lines 0 64) old
all_written bits lines old buf so_far = so_far ∙ ap (λ n. value_bytes bits lines 0 64 ++ drop n old) (sym (length-value_bytes bits lines 0 64))
