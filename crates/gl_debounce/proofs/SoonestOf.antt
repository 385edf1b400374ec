-- The first of all deadlines is the earliest.
use Rattle.std.proofs.Common.{ℕ, zero, suc, Bool, true, false, cond, leb, ◌≡◌, ◌-◌, ◌*◌, ◌<◌, ◌≤◌, List, [], ◌∷◌, ◌++◌, length, get_or, replicate, Option, Some, None, ap, refl, sym, ◌∙◌, inl, inr, arith}
use Rattle.std.proofs.lemmas.Bool.{cases_eq, le-leb, leb-true}
use Rattle.gl_base.specs.declared.limits.TheConstants.{LINES_MAX, PLACES}
use Rattle.gl_debounce.specs.declared.timer.TheConstants.{TABLE_SIZE}
use Rattle.gl_debounce.specs.declared.timer.Timer.{Timer}
use Rattle.gl_debounce.specs.declared.due.Due.{Due}
use Rattle.gl_debounce.specs.Earliest.{earliest, earliest_of, sooner}
use Rattle.gl_debounce.specs.Order.{AreNone, IsFirst, deadline_of}
use Rattle.gl_debounce.specs.Timer.{all_lines}

-- a deadline, if there is one, isn't before a moment
abbrev NotBefore : ℕ → Option ℕ → Type 0
NotBefore moment None = Unit {0}
NotBefore moment (Some deadline) = moment ≤ deadline

sooner_not_before : (m : ℕ) (a b : Option ℕ) → NotBefore m a → NotBefore m b → NotBefore m (sooner a b)
sooner_not_before m None b on_a on_b = on_b
sooner_not_before m (Some a) None on_a on_b = on_a
sooner_not_before m (Some a) (Some b) on_a on_b = by_test (leb a b)
  where
    by_test : (t : Bool) → NotBefore m (cond t (Some a) (Some b))
    by_test true = on_a
    by_test false = on_b

head_not_before : (m : ℕ) (o : Option ℕ) → ((x : ℕ) → o ≡ Some x → m ≤ x) → NotBefore m o
head_not_before m None each = tt
head_not_before m (Some x) each = each x refl

none_before : (m : ℕ) (ds : List (Option ℕ)) → ((k x : ℕ) → get_or ds k None ≡ Some x → m ≤ x) → NotBefore m (earliest_of ds)
none_before m [] each = tt
none_before m (d ∷ ds) each = sooner_not_before m d (earliest_of ds) (head_not_before m d (λ x e. each 0 x e)) (none_before m ds (λ k x e. each (suc k) x e))

sooner_left : (m : ℕ) (b : Option ℕ) → NotBefore m b → sooner (Some m) b ≡ Some m
sooner_left m None not_before = refl
sooner_left m (Some e) not_before = ap (λ t. cond t (Some m) (Some e)) (le-leb m e not_before)

sooner_right : (m : ℕ) (a : Option ℕ) → NotBefore m a → sooner a (Some m) ≡ Some m
sooner_right m None not_before = refl
sooner_right m (Some a) not_before = by_test (leb a m) refl
  where
    by_test : (t : Bool) → leb a m ≡ t → cond t (Some a) (Some m) ≡ Some m
    by_test true test = let same : a ≡ m = omega (arith, leb-true a m test, not_before) in ap Some same
    by_test false test = refl

earliest_at : (m : ℕ) (ds : List (Option ℕ)) (k : ℕ) → get_or ds k None ≡ Some m → ((j x : ℕ) → get_or ds j None ≡ Some x → m ≤ x) → earliest_of ds ≡ Some m
earliest_at m [] k at each = cc
earliest_at m (d ∷ ds) k at each = elim (cases_eq k 0) [
  | inl first ↦
      (let here : d ≡ Some m = sym (ap (λ j. get_or (d ∷ ds) j None) first) ∙ at in
      ap (λ o. sooner o (earliest_of ds)) here ∙ sooner_left m (earliest_of ds) (none_before m ds (λ j x e. each (suc j) x e)))
  | inr later ↦
      (let before : ℕ = k - 1 in
      let next : k ≡ suc before = omega arith in
      ap (λ o. sooner d o) (earliest_at m ds before (sym (ap (λ j. get_or (d ∷ ds) j None) next) ∙ at) (λ j x e. each (suc j) x e))
      ∙ sooner_right m d (head_not_before m d (λ x e. each 0 x e)))
]

-- where something stands there is a line
stands_within : (ds : List (Option ℕ)) (k x : ℕ) → get_or ds k None ≡ Some x → k < length ds
stands_within [] k x at = cc
stands_within (d ∷ ds) k x at = elim (cases_eq k 0) [
  | inl first ↦ omega arith
  | inr later ↦
      (let before : ℕ = k - 1 in
      let next : k ≡ suc before = omega arith in
      omega (arith, stands_within ds before x (sym (ap (λ j. get_or (d ∷ ds) j None) next) ∙ at)))
]

pub none_is_earliest : (ds : List (Option ℕ)) → AreNone ds → earliest_of ds ≡ None
none_is_earliest ds none = all_none ds none.each
  where
    all_none : (es : List (Option ℕ)) → ((k : ℕ) → get_or es k None ≡ None) → earliest_of es ≡ None
    all_none [] each = refl
    all_none (e ∷ es) each = ap (λ o. sooner o (earliest_of es)) (each 0) ∙ all_none es (λ k. each (suc k))

pub first_is_earliest : (ds : List (Option ℕ)) (due : Due) → length ds ≤ TABLE_SIZE → IsFirst ds due → earliest_of ds ≡ Some due.deadline
first_is_earliest ds due few first =
    earliest_at due.deadline ds due.line first.there
    (λ k x at. let within : k < length ds = stands_within ds k x at in let less = first.first k x at in omega (arith, within, less, few))

-- lines without a row have no deadline
earliest_of_none : (n : ℕ) → earliest (replicate {A = Option Timer} n None) ≡ None
earliest_of_none zero = refl
earliest_of_none (suc n) = earliest_of_none n

earliest_with : (rows : List (Option Timer)) (n : ℕ) → earliest (rows ++ replicate n None) ≡ earliest rows
earliest_with [] n = earliest_of_none n
earliest_with (row ∷ rows) n = ap (λ o. sooner (deadline_of row) o) (earliest_with rows n)

pub earliest_same : (rows : List (Option Timer)) → earliest (all_lines rows) ≡ earliest rows
unfolding all_lines
earliest_same rows = earliest_with rows (PLACES * LINES_MAX - length rows)
