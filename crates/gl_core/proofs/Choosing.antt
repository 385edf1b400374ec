-- Rows are changed where a test passes, one row after another. The numbers of the rows begin with n.
use Rattle.std.proofs.Common.{◌≡◌, ℕ, zero, suc, ◌+◌, ◌<◌, ◌≤◌, Bool, true, false, List, [], ◌∷◌, length, refl, sym, ap, ◌∙◌, arith, inl, inr}
use Rattle.std.proofs.lemmas.Bool.{cases_lt}
use Rattle.std.specs.Prelude.{◌&&◌, nat_lt, if◌then◌else◌}
use Rattle.gl_base.specs.Positions.{change_at}
use Rattle.gl_model.specs.Removal.{change_where}

-- those of the first places that pass a test
abbrev pub front : ℕ → (ℕ → Bool) → ℕ → Bool
front n test place = nat_lt place n && test place

pub not_below : (test : ℕ → Bool) (n p : ℕ) → n ≤ p → front n test p ≡ false
not_below test n p le = grind (arith)

pub below : (test : ℕ → Bool) (n p : ℕ) → p < n → front n test p ≡ test p
below test n p lt = grind (arith)

below_at : (test : ℕ → Bool) (n p : ℕ) → n ≡ p → front (n + 1) test p ≡ test n
below_at test n p same = below test (n + 1) p (Prim.omega arith) ∙ ap test (sym same)

below_or_none : (test : ℕ → Bool) (m n p : ℕ) → (m ≤ p → p < n → test p ≡ false) → p < n → front m test p ≡ test p
below_or_none test m n p none lt = elim (cases_lt p m) as (λ _. front m test p ≡ test p) [
  | inl small ↦ below test m p small
  | inr large ↦ not_below test m p large ∙ sym (none large lt)
]

module _ {X : Type 0} where
  head_changed : (f : X → X) (d x : X) (xs : List X) (b : Bool) → (if b then f x else x) ∷ xs ≡ (if b then change_at d 0 f (x ∷ xs) else x ∷ xs)
  head_changed f d x xs true = refl
  head_changed f d x xs false = refl

  tail_changed : (f : X → X) (d : X) (i : ℕ) (x : X) (xs : List X) (b : Bool) → x ∷ (if b then change_at d i f xs else xs) ≡ (if b then change_at d (suc i) f (x ∷ xs) else x ∷ xs)
  tail_changed f d i x xs true = refl
  tail_changed f d i x xs false = refl

  pub change_none : (test : ℕ → Bool) (f : X → X) (n : ℕ) (xs : List X) → ((p : ℕ) → n ≤ p → test p ≡ false) → change_where test f n xs ≡ xs
  change_none test f n [] none = refl
  change_none test f n (x ∷ xs) none =
      ap (λ b. (if b then f x else x) ∷ change_where test f (n + 1) xs) (none n (Prim.omega arith))
      ∙ ap (λ l. x ∷ l) (change_none test f (n + 1) xs (λ p le. none p (Prim.omega arith)))

  pub change_same : (test other : ℕ → Bool) (f : X → X) (n : ℕ) (xs : List X) → ((p : ℕ) → n ≤ p → p < n + length xs → test p ≡ other p)
      → change_where test f n xs ≡ change_where other f n xs
  change_same test other f n [] same = refl
  change_same test other f n (x ∷ xs) same =
      ap (λ b. (if b then f x else x) ∷ change_where test f (n + 1) xs) (same n (Prim.omega arith) (Prim.omega arith))
      ∙ ap (λ l. (if other n then f x else x) ∷ l) (change_same test other f (n + 1) xs (λ p le lt. same p (Prim.omega arith) (Prim.omega arith)))

  -- one row more: the row at position i, whose number is m
  change_more : (test : ℕ → Bool) (f : X → X) (d : X) (n i m : ℕ) (xs : List X) → m ≡ n + i
      → (let now = change_where (front m test) f n xs in change_where (front (m + 1) test) f n xs ≡ (if test m then change_at d i f now else now))
  change_more test f d n i m [] is = elim (test m) as (λ b. [] ≡ (if b then change_at d i f [] else [])) [ true ↦ refl | false ↦ refl ]
  change_more test f d n zero m (x ∷ xs) is =
      let rest : change_where (front m test) f (n + 1) xs ≡ xs = change_none (front m test) f (n + 1) xs (λ p le. not_below test m p (Prim.omega arith)) in
      let rest' : change_where (front (m + 1) test) f (n + 1) xs ≡ xs = change_none (front (m + 1) test) f (n + 1) xs (λ p le. not_below test (m + 1) p (Prim.omega arith)) in
      let now : change_where (front m test) f n (x ∷ xs) ≡ x ∷ xs =
      ap (λ b. (if b then f x else x) ∷ change_where (front m test) f (n + 1) xs) (not_below test m n (Prim.omega arith)) ∙ ap (λ l. x ∷ l) rest in
      let after : change_where (front (m + 1) test) f n (x ∷ xs) ≡ (if test m then f x else x) ∷ xs =
      ap (λ b. (if b then f x else x) ∷ change_where (front (m + 1) test) f (n + 1) xs) (below_at test m n (Prim.omega arith)) ∙ ap (λ l. (if test m then f x else x) ∷ l) rest' in
      after ∙ head_changed f d x xs (test m) ∙ ap (λ l. if test m then change_at d 0 f l else l) (sym now)
  change_more test f d n (suc i) m (x ∷ xs) is =
      let head : front m test n ≡ test n = below test m n (Prim.omega arith) in
      let head' : front (m + 1) test n ≡ test n = below test (m + 1) n (Prim.omega arith) in
      let rest = change_more test f d (n + 1) i m xs (Prim.omega arith) in
      ap (λ b. (if b then f x else x) ∷ change_where (front (m + 1) test) f (n + 1) xs) (head' ∙ sym head)
      ∙ ap (λ l. (if front m test n then f x else x) ∷ l) rest
      ∙ tail_changed f d i (if front m test n then f x else x) (change_where (front m test) f (n + 1) xs) (test m)

  -- at first no row is changed, then one after another
  pub none_yet : (test : ℕ → Bool) (f : X → X) (xs : List X) → xs ≡ change_where (front 0 test) f 0 xs
  none_yet test f xs = sym (change_none (front 0 test) f 0 xs (λ p le. not_below test 0 p (Prim.omega arith)))

  pub one_more : (test : ℕ → Bool) (f : X → X) (d : X) (i : ℕ) (xs now : List X) → now ≡ change_where (front i test) f 0 xs
      → (if test i then change_at d i f now else now) ≡ change_where (front (i + 1) test) f 0 xs
  one_more test f d i xs now so_far =
      ap (λ l. if test i then change_at d i f l else l) so_far ∙ sym (change_more test f d 0 i i xs (Prim.omega arith))

  -- all that pass are changed, where none passes after those that were looked at
  pub all_changed : (test : ℕ → Bool) (f : X → X) (m : ℕ) (xs now : List X) → ((p : ℕ) → m ≤ p → p < length xs → test p ≡ false) → now ≡ change_where (front m test) f 0 xs
      → now ≡ change_where test f 0 xs
  all_changed test f m xs now none so_far = so_far ∙ change_same (front m test) test f 0 xs (λ p le lt. below_or_none test m (0 + length xs) p (λ large _. none p large (Prim.omega arith)) lt)
