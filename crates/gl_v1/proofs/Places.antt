-- What is read where a piece was written over bytes: at its place, before it, and behind it.
use Rattle.std.proofs.Common.{ℕ, ◌≡◌, ◌+◌, ◌-◌, ◌≤◌, List, ◌++◌, length, take, drop, refl, sym, ap, ◌∙◌, arith, length-append, length-drop}
use Rattle.std.proofs.lemmas.List.{drop-append-le, take-append-le, take-append-drop, drop-drop, take_at, length-take-le}
use Rattle.gl_uapi.specs.Fields.{number_at, overwritten, stretch}
use Rattle.gl_uapi.proofs.Reading.{number_at-stretch, stretch-behind, stretch-here}

-- within the first bytes
pub stretch-front : (o k : ℕ) (front rest : List ℕ) → o + k ≤ length front → stretch o k (front ++ rest) ≡ stretch o k front
unfolding stretch
stretch-front o k front rest within =
    ap (take k) (drop-append-le o front rest (omega arith)) ∙ take-append-le k (drop o front) rest (omega (arith, length-drop o front))

pub length-overwritten : (a : ℕ) (p xs : List ℕ) → a + length p ≤ length xs → length (overwritten a p xs) ≡ length xs
length-overwritten a p xs fits =
    omega (
      arith,
      length-append (take a xs) (p ++ drop (a + length p) xs),
      length-append p (drop (a + length p) xs),
      length-take-le a xs (omega arith),
      length-drop (a + length p) xs,
    )

pub take-before : (a : ℕ) (p xs : List ℕ) → a ≤ length xs → take a (overwritten a p xs) ≡ take a xs
take-before a p xs fits = take_at (take a xs) (p ++ drop (a + length p) xs) a (length-take-le a xs fits)

pub stretch-before : (o k a : ℕ) (p xs : List ℕ) → a ≤ length xs → o + k ≤ a → stretch o k (overwritten a p xs) ≡ stretch o k xs
stretch-before o k a p xs fits before =
    let long : length (take a xs) ≡ a = length-take-le a xs fits in
    stretch-front o k (take a xs) (p ++ drop (a + length p) xs) (omega arith)
    ∙ sym (stretch-front o k (take a xs) (drop a xs) (omega arith))
    ∙ ap (stretch o k) (take-append-drop a xs)

pub stretch-at : (a k : ℕ) (p xs : List ℕ) → a ≤ length xs → length p ≡ k → stretch a k (overwritten a p xs) ≡ p
stretch-at a k p xs fits long =
    stretch-behind a a k (take a xs) (p ++ drop (a + length p) xs) (length-take-le a xs fits) (omega arith)
    ∙ ap (λ o. stretch o k (p ++ drop (a + length p) xs)) (let e : a - a ≡ 0 = omega arith in e)
    ∙ stretch-here p (drop (a + length p) xs) k long

pub stretch-past : (o k a : ℕ) (p xs : List ℕ) → a ≤ length xs → a + length p ≤ o → stretch o k (overwritten a p xs) ≡ stretch o k xs
unfolding stretch
stretch-past o k a p xs fits behind =
    stretch-behind o a k (take a xs) (p ++ drop (a + length p) xs) (length-take-le a xs fits) (omega arith)
    ∙ stretch-behind (o - a) (length p) k p (drop (a + length p) xs) refl (omega arith)
    ∙ ap (take k) (drop-drop (o - a - length p) (a + length p) xs)
    ∙ ap (λ n. take k (drop n xs)) (let e : a + length p + (o - a - length p) ≡ o = omega arith in e)

-- the same of numbers
pub number-before : (w o a : ℕ) (p xs : List ℕ) → a ≤ length xs → o + w ≤ a → number_at w o (overwritten a p xs) ≡ number_at w o xs
number-before w o a p xs fits before =
    sym (number_at-stretch w o (overwritten a p xs)) ∙ ap (number_at w 0) (stretch-before o w a p xs fits before) ∙ number_at-stretch w o xs

pub number-at : (w a : ℕ) (p xs : List ℕ) → a ≤ length xs → length p ≡ w → number_at w a (overwritten a p xs) ≡ number_at w 0 p
number-at w a p xs fits long = sym (number_at-stretch w a (overwritten a p xs)) ∙ ap (number_at w 0) (stretch-at a w p xs fits long)

pub number-past : (w o a : ℕ) (p xs : List ℕ) → a ≤ length xs → a + length p ≤ o → number_at w o (overwritten a p xs) ≡ number_at w o xs
number-past w o a p xs fits behind =
    sym (number_at-stretch w o (overwritten a p xs)) ∙ ap (number_at w 0) (stretch-past o w a p xs fits behind) ∙ number_at-stretch w o xs

-- how long a stretch is
pub length-stretch : (o k : ℕ) (xs : List ℕ) → o + k ≤ length xs → length (stretch o k xs) ≡ k
unfolding stretch
length-stretch o k xs fits = length-take-le k (drop o xs) (omega (arith, length-drop o xs))
