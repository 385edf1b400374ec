-- The first row that passes a test: found, changed, taken out. `position` is std's, as `iter().position(..)` gives it.
use Rattle.std.proofs.Common.{◌≡◌, ℕ, zero, suc, ◌<◌, ◌≤◌, Bool, true, false, cond, not, List, [], ◌∷◌, ◌++◌, length, get_or, set, take, drop, Option, Some, None, refl, ap, ◌∙◌, subst, arith}
use Rattle.std.specs.Prelude.{nat_lt}
use Rattle.std.specs.List.{find, position, position_or_len}
use Rattle.std.proofs.lemmas.List.Quantifiers.{position-Some}
use Rattle.std.proofs.lemmas.List.Sums.{prefix_len_passes}
use Rattle.std.proofs.lemmas.Bool.Decides.{nat_tests}
use Rattle.gl_base.specs.Rows.{change_first, without_first, Each}

not_true : (b : Bool) → not b ≡ true → b ≡ false
not_true true e = cc
not_true false e = refl

none_before : (b : Bool) (n : ℕ) → cond b (Some n) None ≡ None → b ≡ false
none_before true n e = cc
none_before false n e = refl

module _ {X : Type 0} where
  pub length-change_first : (test : X → Bool) (f : X → X) (xs : List X) → length (change_first test f xs) ≡ length xs
  length-change_first test f [] = refl
  length-change_first test f (x ∷ xs) =
      elim (test x) as (λ b. length (cond b (f x ∷ xs) (x ∷ change_first test f xs)) ≡ suc (length xs)) [ true ↦ refl | false ↦ ap suc (length-change_first test f xs) ]

  pub length-without_first-le : (test : X → Bool) (xs : List X) → length (without_first test xs) ≤ length xs
  length-without_first-le test [] = omega arith
  length-without_first-le test (x ∷ xs) =
      let rest = length-without_first-le test xs in
      elim (test x) as (λ b. length (cond b xs (x ∷ without_first test xs)) ≤ suc (length xs)) [ true ↦ omega arith | false ↦ omega (arith, rest) ]

  -- where a place is the first whose row passes
  change_first_at : (test : X → Bool) (f : X → X) (xs : List X) (i : ℕ) (d : X) → i < length xs → test (get_or xs i d) ≡ true → ((k : ℕ) → k < i → test (get_or xs k d) ≡ false) → change_first test f xs ≡ set xs i (f (get_or xs i d))
  change_first_at test f [] i d lt e before = absurd (omega arith)
  change_first_at test f (x ∷ xs) zero d lt e before = ap (λ b. cond b (f x ∷ xs) (x ∷ change_first test f xs)) e
  change_first_at test f (x ∷ xs) (suc i) d lt e before =
      ap (λ b. cond b (f x ∷ xs) (x ∷ change_first test f xs)) (before 0 (omega arith)) ∙ ap (λ ys. x ∷ ys) (change_first_at test f xs i d (omega arith) e (λ k h. before (suc k) (omega arith)))

  without_first_at : (test : X → Bool) (xs : List X) (i : ℕ) (d : X) → i < length xs → test (get_or xs i d) ≡ true → ((k : ℕ) → k < i → test (get_or xs k d) ≡ false) → without_first test xs ≡ take i xs ++ drop (suc i) xs
  without_first_at test [] i d lt e before = absurd (omega arith)
  without_first_at test (x ∷ xs) zero d lt e before = ap (λ b. cond b xs (x ∷ without_first test xs)) e
  without_first_at test (x ∷ xs) (suc i) d lt e before =
      ap (λ b. cond b xs (x ∷ without_first test xs)) (before 0 (omega arith)) ∙ ap (λ ys. x ∷ ys) (without_first_at test xs i d (omega arith) e (λ k h. before (suc k) (omega arith)))

  find_at : (test : X → Bool) (xs : List X) (i : ℕ) (d : X) → i < length xs → test (get_or xs i d) ≡ true → ((k : ℕ) → k < i → test (get_or xs k d) ≡ false) → find test xs ≡ Some (get_or xs i d)
  find_at test [] i d lt e before = absurd (omega arith)
  find_at test (x ∷ xs) zero d lt e before = ap (λ b. cond b (Some x) (find test xs)) e
  find_at test (x ∷ xs) (suc i) d lt e before =
      ap (λ b. cond b (Some x) (find test xs)) (before 0 (omega arith)) ∙ find_at test xs i d (omega arith) e (λ k h. before (suc k) (omega arith))

  -- where no row passes
  change_first_none : (test : X → Bool) (f : X → X) (xs : List X) → ((k : ℕ) (d : X) → k < length xs → test (get_or xs k d) ≡ false) → change_first test f xs ≡ xs
  change_first_none test f [] h = refl
  change_first_none test f (x ∷ xs) h = ap (λ b. cond b (f x ∷ xs) (x ∷ change_first test f xs)) (h 0 x (omega arith)) ∙ ap (λ ys. x ∷ ys) (change_first_none test f xs (λ k d lt. h (suc k) d (omega arith)))

  without_first_none : (test : X → Bool) (xs : List X) → ((k : ℕ) (d : X) → k < length xs → test (get_or xs k d) ≡ false) → without_first test xs ≡ xs
  without_first_none test [] h = refl
  without_first_none test (x ∷ xs) h = ap (λ b. cond b xs (x ∷ without_first test xs)) (h 0 x (omega arith)) ∙ ap (λ ys. x ∷ ys) (without_first_none test xs (λ k d lt. h (suc k) d (omega arith)))

  find_none : (test : X → Bool) (xs : List X) → ((k : ℕ) (d : X) → k < length xs → test (get_or xs k d) ≡ false) → find test xs ≡ None
  find_none test [] h = refl
  find_none test (x ∷ xs) h = ap (λ b. cond b (Some x) (find test xs)) (h 0 x (omega arith)) ∙ find_none test xs (λ k d lt. h (suc k) d (omega arith))

  fails_before : (test : X → Bool) (xs : List X) → position test xs ≡ None → (k : ℕ) (d : X) → k < length xs → test (get_or xs k d) ≡ false
  fails_before test xs e k d lt =
      let past : nat_lt (position_or_len test xs) (length xs) ≡ false = none_before (nat_lt (position_or_len test xs) (length xs)) (position_or_len test xs) e in
      let all : length xs ≤ position_or_len test xs = grind (arith, nat_tests) in
      not_true (test (get_or xs k d)) (prefix_len_passes (λ x. not (test x)) xs k d (omega arith))

  -- where the search for a row found one
  pub at_position : (test : X → Bool) (xs : List X) (i : ℕ) → position test xs ≡ Some i → i < length xs
  at_position test [] i e = cc
  at_position test (x ∷ xs) i e = (position-Some test (x ∷ xs) i x e).0

  pub change_first-position : (test : X → Bool) (f : X → X) (xs : List X) (i : ℕ) (d : X) → position test xs ≡ Some i → change_first test f xs ≡ set xs i (f (get_or xs i d))
  change_first-position test f xs i d e = let here = position-Some test xs i d e in change_first_at test f xs i d here.0 here.1 here.2

  pub without_first-position : (test : X → Bool) (xs : List X) (i : ℕ) (d : X) → position test xs ≡ Some i → without_first test xs ≡ take i xs ++ drop (suc i) xs
  without_first-position test xs i d e = let here = position-Some test xs i d e in without_first_at test xs i d here.0 here.1 here.2

  pub find-position : (test : X → Bool) (xs : List X) (i : ℕ) (d : X) → position test xs ≡ Some i → find test xs ≡ Some (get_or xs i d)
  find-position test xs i d e = let here = position-Some test xs i d e in find_at test xs i d here.0 here.1 here.2

  -- and where it found none
  pub change_first-no_position : (test : X → Bool) (f : X → X) (xs : List X) → position test xs ≡ None → change_first test f xs ≡ xs
  change_first-no_position test f xs e = change_first_none test f xs (fails_before test xs e)

  pub without_first-no_position : (test : X → Bool) (xs : List X) → position test xs ≡ None → without_first test xs ≡ xs
  without_first-no_position test xs e = without_first_none test xs (fails_before test xs e)

  pub find-no_position : (test : X → Bool) (xs : List X) → position test xs ≡ None → find test xs ≡ None
  find-no_position test xs e = find_none test xs (fails_before test xs e)

  -- what is true of each row
  pub Each-change_first : (P : X → Type 0) (test : X → Bool) (f : X → X) (xs : List X) → ((x : X) → P x → P (f x)) → Each P xs → Each P (change_first test f xs)
  Each-change_first P test f [] h s = tt
  Each-change_first P test f (x ∷ xs) h s = elim (test x) as (λ b. Each P (cond b (f x ∷ xs) (x ∷ change_first test f xs))) [ true ↦ (h x s.0, s.1) | false ↦ (s.0, Each-change_first P test f xs h s.1) ]

  pub Each-without_first : (P : X → Type 0) (test : X → Bool) (xs : List X) → Each P xs → Each P (without_first test xs)
  Each-without_first P test [] s = tt
  Each-without_first P test (x ∷ xs) s = elim (test x) as (λ b. Each P (cond b xs (x ∷ without_first test xs))) [ true ↦ s.1 | false ↦ (s.0, Each-without_first P test xs s.1) ]

  pub Each-append : (P : X → Type 0) (xs ys : List X) → Each P xs → Each P ys → Each P (xs ++ ys)
  Each-append P [] ys s t = t
  Each-append P (x ∷ xs) ys s t = (s.0, Each-append P xs ys s.1 t)

  pub Each-push : (P : X → Type 0) (xs : List X) (x : X) → Each P xs → P x → Each P (xs ++ x ∷ [])
  Each-push P xs x s p = Each-append P xs (x ∷ []) s (p, tt)

  pub Each-at : (P : X → Type 0) (xs : List X) (k : ℕ) (d : X) → Each P xs → k < length xs → P (get_or xs k d)
  Each-at P [] k d s lt = absurd (omega arith)
  Each-at P (x ∷ xs) zero d s lt = s.0
  Each-at P (x ∷ xs) (suc k) d s lt = Each-at P xs k d s.1 (omega arith)

  pub Each-set : (P : X → Type 0) (xs : List X) (k : ℕ) (x : X) → Each P xs → P x → Each P (set xs k x)
  Each-set P [] k x s p = tt
  Each-set P (y ∷ ys) zero x s p = (p, s.1)
  Each-set P (y ∷ ys) (suc k) x s p = (s.0, Each-set P ys k x s.1 p)

  pub Each-take : (P : X → Type 0) (n : ℕ) (xs : List X) → Each P xs → Each P (take n xs)
  Each-take P zero xs s = tt
  Each-take P (suc n) [] s = tt
  Each-take P (suc n) (x ∷ xs) s = (s.0, Each-take P n xs s.1)

  pub Each-find : (P : X → Type 0) (test : X → Bool) (xs : List X) (x : X) → Each P xs → find test xs ≡ Some x → P x
  Each-find P test [] x s e = cc
  Each-find P test (y ∷ ys) x s e = found (test y) y (find test ys) e s.0 (Each-find P test ys x s.1)
    where
      found : (b : Bool) (z : X) (o : Option X) → cond b (Some z) o ≡ Some x → P z → (o ≡ Some x → P x) → P x
      found true z o q p h = let same : z ≡ x = cc in subst P same p
      found false z o q p h = h q
