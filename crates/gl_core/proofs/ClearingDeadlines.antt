-- The deadlines of the lines of some places end, place after place.
use Rattle.std.proofs.Common.{◌≡◌, ◌≢◌, ℕ, ◌+◌, ◌*◌, ◌/◌, ◌<◌, ◌≤◌, Bool, true, false, List, [], ◌∷◌, Option, Some, None, length, refl, sym, ap, ◌∙◌, arith, inl, inr}
use Rattle.std.specs.Prelude.{◌==◌, nat_le, if◌then◌else◌}
use Rattle.std.specs.Option.{option_map}
use Rattle.std.proofs.lemmas.Bool.{cases_eq, cases_lt}
use Rattle.std.proofs.lemmas.List.{get_or_past}
use Rattle.gl_base.specs.declared.limits.TheConstants.{LINES_MAX}
use Rattle.gl_debounce.specs.Earliest.{earliest, sooner}
use Rattle.gl_debounce.specs.Order.{deadline_of}
use Rattle.gl_debounce.specs.Timer.{without_deadline}
use Rattle.gl_debounce.specs.declared.timer.Timer.{Timer}
use Rattle.gl_model.specs.Removal.{change_where, without_deadlines}
use Rattle.gl_core.specs.Chosen.{chosen_below, is_chosen}
use Rattle.gl_core.proofs.Choosing.{below, change_none, change_same, front, not_below}

same_number : (n m : ℕ) → n ≡ m → (n == m) ≡ true
same_number n m same = grind (arith)

other_number : (n m : ℕ) → n ≢ m → (n == m) ≡ false
other_number n m ne = grind (arith)

-- the lines of one place, by their numbers

place_of_number : (place offset : ℕ) → offset < LINES_MAX → (place * LINES_MAX + offset) / LINES_MAX ≡ place
place_of_number place offset lt = Prim.omega arith

lower_place : (place n : ℕ) → n < place * LINES_MAX → n / LINES_MAX ≢ place
lower_place place n lt same = Prim.omega arith

higher_place : (place n : ℕ) → place * LINES_MAX + LINES_MAX ≤ n → n / LINES_MAX ≢ place
higher_place place n le same = Prim.omega arith

pub in_place : (place offset : ℕ) → offset < LINES_MAX → true ≡ ((place * LINES_MAX + offset) / LINES_MAX == place)
in_place place offset lt = sym (same_number ((place * LINES_MAX + offset) / LINES_MAX) place (place_of_number place offset lt))

pub behind_place : (place line n : ℕ) → place * LINES_MAX + LINES_MAX ≤ line → line ≤ n → (n / LINES_MAX == place) ≡ false
behind_place place line n le past = other_number (n / LINES_MAX) place (higher_place place n (Prim.omega arith))

before : (place n : ℕ) → front (place * LINES_MAX + 0) (λ m. m / LINES_MAX == place) n ≡ false
before place n = elim (cases_lt n (place * LINES_MAX)) as (λ _. front (place * LINES_MAX + 0) (λ m. m / LINES_MAX == place) n ≡ false) [
  | inl lt ↦ below (λ m. m / LINES_MAX == place) (place * LINES_MAX + 0) n (Prim.omega arith) ∙ other_number (n / LINES_MAX) place (lower_place place n lt)
  | inr past ↦ not_below (λ m. m / LINES_MAX == place) (place * LINES_MAX + 0) n (Prim.omega arith)
]

pub before_place : (place : ℕ) (timers : List (Option Timer))
    → timers ≡ change_where (front (place * LINES_MAX + 0) (λ n. n / LINES_MAX == place)) (option_map without_deadline) 0 timers
before_place place timers =
    sym (change_none (front (place * LINES_MAX + 0) (λ n. n / LINES_MAX == place)) (option_map without_deadline) 0 timers (λ n le. before place n))

-- rows that are changed by one test and then by another

module _ {X : Type 0} where
  changed_twice : (a b both : ℕ → Bool) (f : X → X)
      → ((p : ℕ) (x : X) → (if a p then f (if b p then f x else x) else if b p then f x else x) ≡ (if both p then f x else x))
      → (n : ℕ) (xs : List X) → change_where a f n (change_where b f n xs) ≡ change_where both f n xs
  changed_twice a b both f same n [] = refl
  changed_twice a b both f same n (x ∷ xs) =
      ap (λ y. y ∷ change_where a f (n + 1) (change_where b f (n + 1) xs)) (same n x)
      ∙ ap (λ l. (if both n then f x else x) ∷ l) (changed_twice a b both f same (n + 1) xs)

  changed_here : (f : X → X) (x : X) (a b both : Bool) → a ≡ true → b ≡ false → both ≡ true
      → (if a then f (if b then f x else x) else if b then f x else x) ≡ (if both then f x else x)
  changed_here f x true false true p q r = refl
  changed_here f x true false false p q r = cc
  changed_here f x true true both p q r = cc
  changed_here f x false b both p q r = cc

  changed_there : (f : X → X) (x : X) (a b both : Bool) → a ≡ false → both ≡ b
      → (if a then f (if b then f x else x) else if b then f x else x) ≡ (if both then f x else x)
  changed_there f x false b both p q = ap (λ (c : Bool). if c then f x else x) (sym q)
  changed_there f x true b both p q = cc

-- a test of the first places, with one place more

more_at : (test : ℕ → Bool) (place q : ℕ) → q ≡ place → front (place + 1) test q ≡ test place
more_at test place q same = below test (place + 1) q (Prim.omega arith) ∙ ap test same

more_elsewhere : (test : ℕ → Bool) (place q : ℕ) → q ≢ place → front (place + 1) test q ≡ front place test q
more_elsewhere test place q ne = elim (cases_lt q place) as (λ _. front (place + 1) test q ≡ front place test q) [
  | inl lt ↦ below test (place + 1) q (Prim.omega arith) ∙ sym (below test place q lt)
  | inr past ↦ not_below test (place + 1) q (Prim.omega arith) ∙ sym (not_below test place q past)
]

row_changed : (test : ℕ → Bool) (place q : ℕ) (x : Option Timer) → test place ≡ true
    → (let f = option_map without_deadline in
    (if q == place then f (if front place test q then f x else x) else if front place test q then f x else x) ≡ (if front (place + 1) test q then f x else x))
row_changed test place q x is =
    let f : Option Timer → Option Timer = option_map without_deadline in
    elim (cases_eq q place) as (λ _. (if q == place then f (if front place test q then f x else x) else if front place test q then f x else x) ≡ (if front (place + 1) test q then f x else x)) [
      | inl same ↦ changed_here f x (q == place) (front place test q) (front (place + 1) test q) (same_number q place same) (not_below test place q (Prim.omega arith)) (more_at test place q same ∙ is)
      | inr ne ↦ changed_there f x (q == place) (front place test q) (front (place + 1) test q) (other_number q place ne) (more_elsewhere test place q ne)
    ]

not_changed : (test : ℕ → Bool) (place q : ℕ) → test place ≡ false → front place test q ≡ front (place + 1) test q
not_changed test place q is = elim (cases_eq q place) as (λ _. front place test q ≡ front (place + 1) test q) [
  | inl same ↦ not_below test place q (Prim.omega arith) ∙ sym (more_at test place q same ∙ is)
  | inr ne ↦ sym (more_elsewhere test place q ne)
]

-- one place more
pub places_more : (test : ℕ → Bool) (place : ℕ) (timers : List (Option Timer))
    → (let now = without_deadlines (front place test) timers in (if test place then without_deadlines (λ p. p == place) now else now) ≡ without_deadlines (front (place + 1) test) timers)
places_more test place timers = by_mark (test place) refl
  where
    by_mark : (b : Bool) → test place ≡ b
        → (let now = without_deadlines (front place test) timers in (if b then without_deadlines (λ p. p == place) now else now) ≡ without_deadlines (front (place + 1) test) timers)
    by_mark true is =
        changed_twice (λ n. n / LINES_MAX == place) (λ n. front place test (n / LINES_MAX)) (λ n. front (place + 1) test (n / LINES_MAX)) (option_map without_deadline)
        (λ n x. row_changed test place (n / LINES_MAX) x is) 0 timers
    by_mark false is =
        change_same (λ n. front place test (n / LINES_MAX)) (λ n. front (place + 1) test (n / LINES_MAX)) (option_map without_deadline) 0 timers
        (λ n _ _. not_changed test place (n / LINES_MAX) is)

-- no place yet
pub no_place_yet : (test : ℕ → Bool) (timers : List (Option Timer)) → timers ≡ without_deadlines (front 0 test) timers
no_place_yet test timers =
    sym (change_none (λ n. front 0 test (n / LINES_MAX)) (option_map without_deadline) 0 timers (λ n le. not_below test 0 (n / LINES_MAX) (Prim.omega arith)))

-- no place is left
all_chosen : (marks : List Bool) (m q : ℕ) → length marks ≤ m → chosen_below m marks q ≡ is_chosen marks q
all_chosen marks m q few = elim (cases_lt q m) as (λ _. chosen_below m marks q ≡ is_chosen marks q) [
  | inl lt ↦ below (is_chosen marks) m q lt
  | inr past ↦ not_below (is_chosen marks) m q past ∙ sym (get_or_past marks q false (Prim.omega arith))
]

pub all_places : (marks : List Bool) (m : ℕ) (timers : List (Option Timer)) → length marks ≤ m
    → without_deadlines (chosen_below m marks) timers ≡ without_deadlines (is_chosen marks) timers
all_places marks m timers few =
    change_same (λ n. chosen_below m marks (n / LINES_MAX)) (λ n. is_chosen marks (n / LINES_MAX)) (option_map without_deadline) 0 timers
    (λ n _ _. all_chosen marks m (n / LINES_MAX) few)

-- where no deadline runs, none ends

no_sooner : (a b : Option ℕ) → sooner a b ≡ None → (a ≡ None) × (b ≡ None)
no_sooner None b e = (refl, e)
no_sooner (Some x) None e = cc
no_sooner (Some x) (Some y) e = elim (nat_le x y) as (λ c. (if c then Some x else Some y) ≡ None → (Some x ≡ None) × (Some y ≡ None)) [ true ↦ (λ f. cc) | false ↦ (λ f. cc) ] e

still : (timer : Option Timer) → deadline_of timer ≡ None → option_map without_deadline timer ≡ timer
still None e = refl
still (Some timer) e = ap (λ (d : Option ℕ). Some (record timer { deadline = d })) (sym e)

all_still : (test : ℕ → Bool) (n : ℕ) (timers : List (Option Timer)) → earliest timers ≡ None → change_where test (option_map without_deadline) n timers ≡ timers
all_still test n [] e = refl
all_still test n (timer ∷ timers) e =
    let parts = no_sooner (deadline_of timer) (earliest timers) e in
    let here : (b : Bool) → (if b then option_map without_deadline timer else timer) ≡ timer = λ b. elim b as (λ c. (if c then option_map without_deadline timer else timer) ≡ timer) [ true ↦ still timer parts.0 | false ↦ refl ] in
    ap (λ t. t ∷ change_where test (option_map without_deadline) (n + 1) timers) (here (test n)) ∙ ap (λ l. timer ∷ l) (all_still test (n + 1) timers parts.1)

pub none_runs : (test : ℕ → Bool) (timers : List (Option Timer)) → earliest timers ≡ None → timers ≡ without_deadlines test timers
none_runs test timers e = sym (all_still (λ n. test (n / LINES_MAX)) 0 timers e)
