-- Items moved out one after the other, each as bytes of one length.
use Rattle.std.proofs.Common.{ℕ, zero, suc, ◌≡◌, ◌+◌, ◌-◌, ◌*◌, ◌≤◌, List, [], ◌∷◌, ◌++◌, length, take, drop, Some, ap, sym, subst, ◌∙◌, arith, add-one, append-nil, length-append, length-drop}
use Rattle.std.proofs.Math.Nat.{mul-add, mul-one}
use Rattle.std.specs.List.{flat_map, slice_get}
use Rattle.std.proofs.lemmas.List.{length-take-le}
use Rattle.std.proofs.lemmas.List.Concat.{flat_map-append}
use Rattle.gl_uapi.proofs.Writing.{Written, overwritten_part, piece_written}
use borrow.Rule.Slice.PartMut.{put_mid}

-- the first item of what is left is the next one
pub take-next : {X : Type 0} (xs : List X) (i : ℕ) (x : X) → slice_get (drop i xs) 0 ≡ Some x → take (suc i) xs ≡ take i xs ++ x ∷ []
take-next [] zero x next = cc
take-next [] (suc i) x next = cc
take-next (y ∷ ys) zero x next = let same : y ≡ x = cc in ap (λ z. z ∷ []) same
take-next (y ∷ ys) (suc i) x next = ap (λ zs. y ∷ zs) (take-next ys i x next)

-- one item more has been written; that it has as many bytes follows from the buffer keeping its length
pub item_written : {X : Type 0} (bytes_of : X → List ℕ) (size : ℕ) (items : List X) (start out new : List ℕ) (i : ℕ) (item : X) → size * i + size ≤ length out
    → length new ≡ length out - size * i → slice_get (drop i items) 0 ≡ Some item → Written (flat_map bytes_of (take i items)) start (size * i) out
    → new ≡ bytes_of item ++ drop size (take (length out - size * i) (drop (size * i) out))
    → Written (flat_map bytes_of (take (i + 1) items)) start (size * (i + 1)) (put_mid (size * i) (length out - size * i) out new)
item_written bytes_of size items start out new i item fits kept next so_far after =
    let part : List ℕ = take (length out - size * i) (drop (size * i) out) in
    let whole : length part ≡ length out - size * i = length-take-le (length out - size * i) (drop (size * i) out) (omega (arith, length-drop (size * i) out)) in
    let joined : length new ≡ length (bytes_of item) + length (drop size part) = ap length after ∙ length-append (bytes_of item) (drop size part) in
    let long : length (bytes_of item) ≡ size = omega (arith, length-drop size part) in
    let piece = overwritten_part (size * i) (length out - size * i) out (bytes_of item) new (omega arith) (omega arith)
    (after ∙ ap (λ (n : ℕ). bytes_of item ++ drop n (take (length out - size * i) (drop (size * i) out))) (sym long)) in
    let written = piece_written so_far (bytes_of item) (put_mid (size * i) (length out - size * i) out new) size long piece in
    let taken : flat_map bytes_of (take i items) ++ bytes_of item ≡ flat_map bytes_of (take (i + 1) items) =
    sym (ap (flat_map bytes_of) (ap (λ n. take n items) (add-one i) ∙ take-next items i item next) ∙ flat_map-append bytes_of (take i items) (item ∷ [])
    ∙ ap (λ bytes. flat_map bytes_of (take i items) ++ bytes) (append-nil (bytes_of item))) in
    let count : size * i + size ≡ size * (i + 1) = sym (mul-add size i 1 ∙ ap (λ n. size * i + n) (mul-one size)) in
    let Front : List ℕ → Type 0 = λ front. Written front start (size * i + size) (put_mid (size * i) (length out - size * i) out new) in
    let Count : ℕ → Type 0 = λ n. Written (flat_map bytes_of (take (i + 1) items)) start n (put_mid (size * i) (length out - size * i) out new) in
    subst Count count (subst Front taken written)
