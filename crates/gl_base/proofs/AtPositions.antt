-- Tables by position.
use Rattle.std.proofs.Common.{◌≡◌, ◌≢◌, ℕ, zero, suc, ◌+◌, ◌-◌, ◌<◌, ◌≤◌, List, [], ◌∷◌, length, get_or, set, drop, Option, Some, None, refl, sym, ap, ◌∙◌, arith, inl, inr, length-set, get_or-set_same, get_or-set_other}
use Rattle.std.specs.Option.{option_or}
use Rattle.std.proofs.Math.Nat.{eq-or-lt_of_le}
use Rattle.std.proofs.lemmas.List.{drop_more, drop_all, set_past, same_lists}
use Rattle.gl_base.specs.Rows.{Each}
use Rattle.gl_base.specs.Positions.{change_at, change_each, table_from, first_fault}

-- one number more without a fault
pub first_fault_more : {E : Type 0} (f : ℕ → Option E) (i n : ℕ) → i < n → f i ≡ None → first_fault f i (n - i) ≡ first_fault f (i + 1) (n - (i + 1))
first_fault_more f i n lt e =
    let s : n - i ≡ suc (n - (i + 1)) = omega arith in
    ap (first_fault f i) s ∙ ap (λ o. option_or o (first_fault f (i + 1) (n - (i + 1)))) e

-- the fault that was found
pub first_fault_here : {E : Type 0} (f : ℕ → Option E) (i n : ℕ) (e : E) → i < n → f i ≡ Some e → first_fault f i (n - i) ≡ Some e
first_fault_here f i n e lt h =
    let s : n - i ≡ suc (n - (i + 1)) = omega arith in
    ap (first_fault f i) s ∙ ap (λ o. option_or o (first_fault f (i + 1) (n - (i + 1)))) h

-- no fault is left at the end
pub first_fault_all : {E : Type 0} (f : ℕ → Option E) (i n : ℕ) → n ≤ i → first_fault f i (n - i) ≡ None
first_fault_all f i n le = let s : n - i ≡ 0 = omega arith in ap (first_fault f i) s

first_none : {E : Type 0} (o p : Option E) → option_or o p ≡ None → (o ≡ None) × (p ≡ None)
first_none None p e = (refl, e)
first_none (Some x) p e = cc

-- without a fault each number is without one
pub first_fault_each : {E : Type 0} (f : ℕ → Option E) (i n : ℕ) → first_fault f i n ≡ None → (k : ℕ) → i ≤ k → k < i + n → f k ≡ None
first_fault_each f i zero e k low high = absurd (omega arith)
first_fault_each f i (suc n) e k low high =
    let parts = first_none (f i) (first_fault f (i + 1) n) e in
    first_or_later f i n k parts.0 (first_fault_each f (i + 1) n parts.1 k) low high
  where
    first_or_later : {E : Type 0} (f : ℕ → Option E) (i n k : ℕ) → f i ≡ None → (i + 1 ≤ k → k < i + 1 + n → f k ≡ None) → i ≤ k → k < i + suc n → f k ≡ None
    first_or_later f i n k here later low high =
        elim (eq-or-lt_of_le low) [ inl same ↦ ap f (sym same) ∙ here | inr less ↦ later (omega arith) (omega arith) ]

module _ {X : Type 0} where
  pub length-change_at : (d : X) (n : ℕ) (f : X → X) (xs : List X) → length (change_at d n f xs) ≡ length xs
  length-change_at d n f xs = length-set xs n (f (get_or xs n d))

  -- past the end nothing changes
  pub change_at-past : (d : X) (n : ℕ) (f : X → X) (xs : List X) → length xs ≤ n → change_at d n f xs ≡ xs
  change_at-past d n f xs le = set_past xs n (f (get_or xs n d)) le

  pub get_or-change_at_same : (d : X) (n : ℕ) (f : X → X) (xs : List X) (e : X) → n < length xs → get_or (change_at d n f xs) n e ≡ f (get_or xs n d)
  get_or-change_at_same d n f xs e lt = get_or-set_same xs n (f (get_or xs n d)) e lt

  pub get_or-change_at_other : (d : X) (n m : ℕ) (f : X → X) (xs : List X) (e : X) → m ≢ n → get_or (change_at d n f xs) m e ≡ get_or xs m e
  get_or-change_at_other d n m f xs e other = get_or-set_other xs n m (f (get_or xs n d)) e other

  pub length-change_each : (d : X) (ns : List ℕ) (f : X → X) (xs : List X) → length (change_each d ns f xs) ≡ length xs
  length-change_each d [] f xs = refl
  length-change_each d (n ∷ ns) f xs = length-change_each d ns f (change_at d n f xs) ∙ length-change_at d n f xs

  -- one position more of those that are left
  pub change_each_more : (d : X) (ns : List ℕ) (i : ℕ) (f : X → X) (xs : List X) → i < length ns → change_each d (drop i ns) f xs ≡ change_each d (drop (i + 1) ns) f (change_at d (get_or ns i 0) f xs)
  change_each_more d ns i f xs lt = ap (λ ms. change_each d ms f xs) (drop_more ns i 0 lt)

  -- no position is left
  pub change_each_all : (d : X) (ns : List ℕ) (i : ℕ) (f : X → X) (xs : List X) → length ns ≤ i → change_each d (drop i ns) f xs ≡ xs
  change_each_all d ns i f xs le = ap (λ ms. change_each d ms f xs) (drop_all i ns le)

  pub Each-change_at : (P : X → Type 0) (d : X) (n : ℕ) (f : X → X) (xs : List X) → ((x : X) → P x → P (f x)) → Each P xs → Each P (change_at d n f xs)
  Each-change_at P d zero f [] h s = tt
  Each-change_at P d (suc n) f [] h s = tt
  Each-change_at P d zero f (x ∷ xs) h s = (h x s.0, s.1)
  Each-change_at P d (suc n) f (x ∷ xs) h s = (s.0, Each-change_at P d n f xs h s.1)

  pub Each-change_each : (P : X → Type 0) (d : X) (ns : List ℕ) (f : X → X) (xs : List X) → ((x : X) → P x → P (f x)) → Each P xs → Each P (change_each d ns f xs)
  Each-change_each P d [] f xs h s = s
  Each-change_each P d (n ∷ ns) f xs h s = Each-change_each P d ns f (change_at d n f xs) h (Each-change_at P d n f xs h s)

  pub length-table_from : (f : ℕ → X) (i n : ℕ) → length (table_from f i n) ≡ n
  unfolding table_from
  length-table_from f i zero = refl
  length-table_from f i (suc n) = ap suc (length-table_from f (suc i) n)

  -- a table of which one position is read
  pub get_or-table_from : (f : ℕ → X) (i n k : ℕ) (d : X) → k < n → get_or (table_from f i n) k d ≡ f (i + k)
  unfolding table_from
  get_or-table_from f i zero k d lt = absurd (omega arith)
  get_or-table_from f i (suc n) zero d lt = let e : i ≡ i + 0 = omega arith in ap f e
  get_or-table_from f i (suc n) (suc k) d lt = let e : suc i + k ≡ i + suc k = omega arith in get_or-table_from f (suc i) n k d (omega arith) ∙ ap f e

  -- a table that was filled position by position
  pub table_from-filled : (xs : List X) (f : ℕ → X) (n : ℕ) → length xs ≡ n → ((k : ℕ) (d : X) → k < n → get_or xs k d ≡ f k) → xs ≡ table_from f 0 n
  table_from-filled xs f n e h =
      same_lists xs (table_from f 0 n) (e ∙ sym (length-table_from f 0 n)) (λ k d lt. let z : 0 + k ≡ k = omega arith in h k d (omega arith) ∙ sym (get_or-table_from f 0 n k d (omega arith) ∙ ap f z))

  -- tables that agree are one
  pub table_from-same : (f g : ℕ → X) (i n : ℕ) → ((k : ℕ) → i ≤ k → k < i + n → f k ≡ g k) → table_from f i n ≡ table_from g i n
  unfolding table_from
  table_from-same f g i zero h = refl
  table_from-same f g i (suc n) h = ap (λ x. x ∷ table_from f (suc i) n) (h i (omega arith) (omega arith)) ∙ ap (λ xs. g i ∷ xs) (table_from-same f g (suc i) n (λ k low high. h k (omega arith) (omega arith)))

  -- a table of which one position is written
  pub set-table_from : (f g : ℕ → X) (i n k : ℕ) (y : X) → k < n → y ≡ g (i + k) → ((j : ℕ) → i ≤ j → j < i + n → j ≢ i + k → f j ≡ g j) → set (table_from f i n) k y ≡ table_from g i n
  unfolding table_from
  set-table_from f g i zero k y lt e h = absurd (omega arith)
  set-table_from f g i (suc n) zero y lt e h =
      let z : i + 0 ≡ i = omega arith in
      ap (λ x. x ∷ table_from f (suc i) n) (e ∙ ap g z) ∙ ap (λ xs. g i ∷ xs) (table_from-same f g (suc i) n (λ j low high. h j (omega arith) (omega arith) (λ q. omega arith)))
  set-table_from f g i (suc n) (suc k) y lt e h =
      let z : i + suc k ≡ suc i + k = omega arith in
      ap (λ x. x ∷ set (table_from f (suc i) n) k y) (h i (omega arith) (omega arith) (λ q. omega arith))
      ∙ ap (λ xs. g i ∷ xs) (set-table_from f g (suc i) n k y (omega arith) (e ∙ ap g z) (λ j low high q. h j (omega arith) (omega arith) (λ r. q (r ∙ z))))
