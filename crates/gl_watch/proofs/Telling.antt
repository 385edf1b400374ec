-- Files told one after the other.
use Rattle.std.proofs.Common.{◌≡◌, ℕ, zero, suc, ◌+◌, ◌<◌, List, [], ◌∷◌, ◌++◌, length, map, take, drop, get_or, set, refl, sym, ◌∙◌, ap, arith, add-one}

-- where the first i rows are changed, the next one changed too makes the first i + 1
changed_next : {X : Type 0} (f : X → X) (xs : List X) (i : ℕ) (d : X) → i < length xs → set (map f (take i xs) ++ drop i xs) i (f (get_or (map f (take i xs) ++ drop i xs) i d)) ≡ map f (take (suc i) xs) ++ drop (suc i) xs
changed_next f [] i d lt = absurd (omega arith)
changed_next f (x ∷ xs) zero d lt = refl
changed_next f (x ∷ xs) (suc i) d lt = ap (λ ys. f x ∷ ys) (changed_next f xs i d (omega arith))

pub told_more : {X : Type 0} (f : X → X) (xs ys : List X) (i : ℕ) (y new : X) → i < length xs → ys ≡ map f (take i xs) ++ drop i xs → y ≡ get_or ys i y → new ≡ f y
    → set ys i new ≡ map f (take (i + 1) xs) ++ drop (i + 1) xs
told_more {X} f xs ys i y new lt is at told =
    let whole : List X = map f (take i xs) ++ drop i xs in
    ap (λ (z : X). set ys i z) (told ∙ ap f at) ∙ ap (λ (zs : List X). set zs i (f (get_or zs i y))) is ∙ changed_next f xs i y lt ∙ ap (λ n. map f (take n xs) ++ drop n xs) (sym (add-one i))
