-- How many bytes a piece has.
use Rattle.std.proofs.Common.{◌≡◌, ◌/◌, ℕ, true, false, List, [], ◌∷◌, length, Option, Some, None, refl, sym, ap, arith}
use Rattle.std.proofs.lemmas.List.{length-replicate}
use Rattle.std.specs.Prelude.{option_map, slice_index}
use Rattle.gl_base.specs.BytesText.{pairs_bytes, is_pairs, pair_value, times_of, times_bytes, piece_size}

-- pairs write half as many bytes as they have digits
halves : (word : List ℕ) → length (pairs_bytes word) ≡ length word / 2
halves [] = refl
halves (high ∷ []) = refl
halves (high ∷ low ∷ digits) = omega (arith, halves digits)

times_size : (byte : ℕ) (times : Option ℕ) → times ≡ option_map length (times_bytes byte times)
times_size byte None = refl
times_size byte (Some n) = ap Some (sym (length-replicate n byte))

pub pairs_size : (word : List ℕ) → is_pairs word ≡ true → Some (length word / 2) ≡ piece_size word
pairs_size word pairs = rw pairs (ap Some (sym (halves word)))

pub size_of_times : (word : List ℕ) → is_pairs word ≡ false → times_of word ≡ piece_size word
size_of_times word other = rw other (times_size (pair_value (slice_index word 0) (slice_index word 1)) (times_of word))

pub ruleset sizes = (pairs_size, size_of_times)
