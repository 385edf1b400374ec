-- Rows that are changed where a test passes, read one by one.
use Rattle.std.proofs.Common.{◌≡◌, ◌+◌, ◌<◌, ◌≤◌, ◌-◌, ℕ, zero, suc, List, [], ◌∷◌, ◌++◌, length, refl, ap, ◌∙◌, Bool, cond, arith}
use Rattle.std.specs.Prelude.{slice_index_or}
use Rattle.gl_model.specs.Removal.{change_where}

module _ {X : Type 0} where
  pub length-change_where : (test : ℕ → Bool) (f : X → X) (n : ℕ) (xs : List X) → length (change_where test f n xs) ≡ length xs
  length-change_where test f n [] = refl
  length-change_where test f n (x ∷ xs) = ap suc (length-change_where test f (n + 1) xs)

  pub read_where : (test : ℕ → Bool) (f : X → X) (n : ℕ) (xs : List X) (p : ℕ) (d : X) → p < length xs → slice_index_or (change_where test f n xs) p d ≡ cond (test (n + p)) (f (slice_index_or xs p d)) (slice_index_or xs p d)
  read_where test f n [] p d lt = absurd (omega arith)
  read_where test f n (x ∷ xs) zero d lt = let e : n ≡ n + 0 = omega arith in ap (λ k. cond (test k) (f x) x) e
  read_where test f n (x ∷ xs) (suc p) d lt =
      let e : (n + 1) + p ≡ n + suc p = omega arith in
      read_where test f (n + 1) xs p d (omega arith) ∙ ap (λ k. cond (test k) (f (slice_index_or xs p d)) (slice_index_or xs p d)) e

  pub read_before : (xs ys : List X) (p : ℕ) (d : X) → p < length xs → slice_index_or (xs ++ ys) p d ≡ slice_index_or xs p d
  read_before [] ys p d lt = absurd (omega arith)
  read_before (x ∷ xs) ys zero d lt = refl
  read_before (x ∷ xs) ys (suc p) d lt = read_before xs ys p d (omega arith)

  pub read_behind : (xs ys : List X) (p : ℕ) (d : X) → length xs ≤ p → slice_index_or (xs ++ ys) p d ≡ slice_index_or ys (p - length xs) d
  read_behind [] ys p d le = let e : p ≡ p - 0 = omega arith in ap (λ k. slice_index_or ys k d) e
  read_behind (x ∷ xs) ys zero d le = absurd (omega arith)
  read_behind (x ∷ xs) ys (suc p) d le = let e : p - length xs ≡ suc p - suc (length xs) = omega arith in read_behind xs ys p d (omega arith) ∙ ap (λ k. slice_index_or ys k d) e

  pub read_past : (xs : List X) (p : ℕ) (d : X) → length xs ≤ p → slice_index_or xs p d ≡ d
  read_past [] p d le = refl
  read_past (x ∷ xs) zero d le = absurd (omega arith)
  read_past (x ∷ xs) (suc p) d le = read_past xs p d (omega arith)
