-- Bytes that are guessed one after the other.
use Rattle.std.proofs.Common.{◌≡◌, ℕ, suc, ◌+◌, ◌-◌, ◌<◌, ◌≤◌, List, [], ◌∷◌, ◌++◌, length, take, drop, sym, ◌∙◌, ap, append_assoc, arith}
use Rattle.std.proofs.lemmas.List.{drop_more, drop-set-lt, take_more_set}
use Rattle.std.specs.Prelude.{slice_set}
use Rattle.gl_trace.specs.BufferRead.{guess, next_after}

drop_same : (n : ℕ) (xs ys : List ℕ) → n < length xs → n < length ys → drop n xs ≡ drop n ys → drop (n + 1) xs ≡ drop (n + 1) ys
drop_same n xs ys p q e = sym (ap (drop 1) (drop_more xs n 0 p)) ∙ ap (drop 1) e ∙ ap (drop 1) (drop_more ys n 0 q)

-- one more byte was guessed
pub guess_more : (bytes : List ℕ) (count i zeros byte zeros_left : ℕ) (text rest rest_left : List ℕ) → length bytes ≡ 592 → count ≤ 592 → i < count
    → take i bytes ++ guess (count - i) zeros rest ≡ guess count 0 text → byte ≡ (next_after zeros rest).byte → zeros_left ≡ (next_after zeros rest).zeros → rest_left ≡ (next_after zeros rest).rest
    → take (i + 1) (slice_set bytes i byte) ++ guess (count - (i + 1)) zeros_left rest_left ≡ guess count 0 text
guess_more bytes count i zeros byte zeros_left text rest rest_left size few within so_far b z r =
    let m = count - (i + 1) in
    let one : count - i ≡ suc m = omega arith in
    let next : byte ∷ guess m zeros_left rest_left ≡ guess (count - i) zeros rest =
    ap (λ x. x ∷ guess m zeros_left rest_left) b ∙ ap (λ x. (next_after zeros rest).byte ∷ guess m x rest_left) z ∙ ap (λ x. (next_after zeros rest).byte ∷ guess m (next_after zeros rest).zeros x) r ∙ ap (λ n. guess n zeros rest) (sym one) in
    ap (λ t. t ++ guess m zeros_left rest_left) (take_more_set bytes i byte (omega (arith, size))) ∙ append_assoc (take i bytes) (byte ∷ []) (guess m zeros_left rest_left) ∙ ap (λ t. take i bytes ++ t) next ∙ so_far

pub zeros_stay : (bytes zeros : List ℕ) (i byte : ℕ) → length bytes ≡ 592 → length zeros ≡ 592 → i < 592 → drop i bytes ≡ drop i zeros → drop (i + 1) (slice_set bytes i byte) ≡ drop (i + 1) zeros
zeros_stay bytes zeros i byte size all within e = drop-set-lt (i + 1) bytes i byte (omega arith) ∙ drop_same i bytes zeros (omega (arith, size)) (omega (arith, all)) e
