-- Sums over the views.
use Rattle.std.proofs.Common.{◌≡◌, ℕ, zero, suc, ◌+◌, ◌≤◌, ◌*◌, ◌≢◌, suc-mul, List, [], ◌∷◌, ◌++◌, length, set, sym, refl, ap, arith}
use mathlib.Core.Option.{some, some-injective, some-ne-none}
use lib.ListN.{get_elem?}
use Rattle.gl_rule.specs.Sums.{total}

module _ {V : Type 0} (f : V → ℕ) where
  pub total_set : (vs : List V) (i : ℕ) (v w : V) → get_elem? vs i ≡ some v → total f (set vs i w) + f v ≡ total f vs + f w
  total_set [] i v w e = absurd (some-ne-none v (sym e))
  total_set (x ∷ xs) zero v w e = let same : f x ≡ f v = ap f (some-injective x v e) in omega arith
  total_set (x ∷ xs) (suc i) v w e = let h = total_set xs i v w e in omega arith

  pub total_snoc : (vs : List V) (w : V) → total f (vs ++ w ∷ []) ≡ total f vs + f w
  total_snoc [] w = omega arith
  total_snoc (x ∷ xs) w = let h = total_snoc xs w in omega arith

  pub total_few : ((v : V) → f v ≤ 1) → (vs : List V) → total f vs ≤ length vs
  total_few one [] = omega arith
  total_few one (x ∷ xs) = let h = total_few one xs in let o = one x in omega arith

  pub total_at : (vs : List V) (i : ℕ) (v : V) → get_elem? vs i ≡ some v → f v ≤ total f vs
  total_at [] i v e = absurd (some-ne-none v (sym e))
  total_at (x ∷ xs) zero v e = let same : f x ≡ f v = ap f (some-injective x v e) in omega arith
  total_at (x ∷ xs) (suc i) v e = let h = total_at xs i v e in omega arith

  pub total_bounded : (n : ℕ) (vs : List V) → ((i : ℕ) (v : V) → get_elem? vs i ≡ some v → f v ≤ n) → total f vs ≤ length vs * n
  total_bounded n [] few = omega arith
  total_bounded n (x ∷ xs) few = let h = total_bounded n xs (λ i v e. few (suc i) v e) in let o = few 0 x refl in omega (arith, suc-mul (length xs) n)

  pub total_same : (g : V → ℕ) → ((v : V) → f v ≡ g v) → (vs : List V) → total f vs ≡ total g vs
  total_same g same [] = refl
  total_same g same (x ∷ xs) = let h = total_same g same xs in let s = same x in omega arith

  pub total_two : (vs : List V) (i j : ℕ) (v w : V) → get_elem? vs i ≡ some v → get_elem? vs j ≡ some w → i ≢ j → f v + f w ≤ total f vs
  total_two [] i j v w e g n = absurd (some-ne-none v (sym e))
  total_two (x ∷ xs) zero zero v w e g n = absurd (n refl)
  total_two (x ∷ xs) zero (suc j) v w e g n = let same : f x ≡ f v = ap f (some-injective x v e) in let h = total_at xs j w g in omega arith
  total_two (x ∷ xs) (suc i) zero v w e g n = let same : f x ≡ f w = ap f (some-injective x w g) in let h = total_at xs i v e in omega arith
  total_two (x ∷ xs) (suc i) (suc j) v w e g n = let h = total_two xs i j v w e g (λ k. n (ap suc k)) in omega arith

  pub total_append : (xs ys : List V) → total f (xs ++ ys) ≡ total f xs + total f ys
  total_append [] ys = omega arith
  total_append (x ∷ xs) ys = let h = total_append xs ys in omega arith
