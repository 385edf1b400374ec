-- Two texts in an array.
use Rattle.std.proofs.Common.{◌≡◌, ℕ, ◌+◌, ◌-◌, ◌≤◌, List, ◌++◌, length, drop, replicate, refl, sym, ap, ◌∙◌, append_assoc, length-append, arith}
use Rattle.std.proofs.lemmas.List.{take_at, drop_at, drop-replicate}
use Rattle.gl_base.specs.Padded.{padded}
use borrow.Rule.Slice.PartMut.{put_mid}

pub padded-both : (n : ℕ) (xs ys : List ℕ) → length xs + length ys ≤ n → put_mid (length xs) (length xs + length ys - length xs) (xs ++ drop (length xs) (replicate n 0)) ys ≡ padded n (xs ++ ys)
padded-both n xs ys fits =
    let zeros : List ℕ = drop (length xs) (replicate n 0) in
    let back : drop (length xs) (xs ++ zeros) ≡ replicate (n - length xs) 0 = drop_at xs zeros (length xs) refl ∙ drop-replicate (length xs) n 0 in
    let rest : drop (length xs + length ys - length xs) (drop (length xs) (xs ++ zeros)) ≡ replicate ((n - length xs) - (length xs + length ys - length xs)) 0 = ap (drop (length xs + length ys - length xs)) back ∙ drop-replicate (length xs + length ys - length xs) (n - length xs) 0 in
    let left : (n - length xs) - (length xs + length ys - length xs) ≡ n - length (xs ++ ys) = omega (arith, length-append xs ys) in
    ap (λ fs. fs ++ (ys ++ drop (length xs + length ys - length xs) (drop (length xs) (xs ++ zeros)))) (take_at xs zeros (length xs) refl)
    ∙ ap (λ zs. xs ++ (ys ++ zs)) (rest ∙ ap (λ k. replicate k 0) left)
    ∙ sym (append_assoc xs ys (replicate (n - length (xs ++ ys)) 0))
