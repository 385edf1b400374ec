-- What a world tells of who has which line, and lists of it: the requests by their numbers and lines, the numbers of the chip
-- files, the next number, and the tables of the lines.
use Rattle.std.proofs.Common.{◌≡◌, ◌-◌, ◌<◌, ◌≤◌, ◌⊎◌, ℕ, zero, suc, List, [], ◌∷◌, ◌++◌, length, map, refl, sym, ap, ◌∙◌, subst, Bool, true, false, cond, Option, Some, None, arith, inl, inr}
use Rattle.std.specs.Prelude.{nat_eq, ◌==◌, ◌&&◌, ◌||◌, is_none, unwrap_or, slice_index_or}
use Rattle.std.specs.List.{AllByRecursion, IsDistinct, find, list_any}
use Rattle.std.proofs.lemmas.Bool.{true≢false}
use Rattle.std.proofs.lemmas.Bool.Decides.{nat_tests}
use Rattle.gl_base.proofs.AtPositions.{get_or-change_at_other, length-change_at}
use Rattle.gl_base.specs.Lines.{offsets_of}
use Rattle.gl_base.specs.Positions.{change_at, change_each}
use Rattle.gl_base.specs.Rows.{Each, change_first, without_first}
use Rattle.gl_desc.specs.Desc.{desc_at, first_desc, is_free}
use Rattle.gl_desc.specs.declared.desc.Desc.{Desc}
use Rattle.gl_desc.specs.declared.desc.Holder.{Holder}
use Rattle.gl_desc.specs.declared.desc.Holder.TheVariants.{Free, Claimed, Held}
use Rattle.gl_watch.specs.declared.file.ChipFile.{ChipFile}
use Rattle.gl_model.specs.declared.place.Place.{Place}
use Rattle.gl_model.specs.Holders.{taken_by}
use Rattle.gl_model.specs.World.{World, Request}
use Rattle.gl_model.proofs.Columns.{read_before, read_behind, read_past}
use Rattle.gl_model.proofs.Phases.{same_number}
use Rattle.gl_model.proofs.SoundRequests.{or_false}
use Rattle.gl_model.proofs.Soundness.{split}

-- a request by what decides who has its lines
pub record Seat : Type 0 where
  pub fd : ℕ
  pub place : ℕ
  pub held : Bool
  pub offsets : List ℕ

abbrev pub seat : Request → Seat
seat request = record { fd = request.fd; place = request.place; held = request.held; offsets = offsets_of request.lines }

-- requests, numbers of chip files, the next number, and each place's lines
pub record Ledger : Type 0 where
  pub seats : List Seat
  pub files : List ℕ
  pub next : ℕ
  pub tables : List (List Desc)

abbrev pub descs_of : Place → List Desc
descs_of place = place.descs

abbrev pub file_number : ChipFile → ℕ
file_number file = file.fd

abbrev pub ledger : World → Ledger
ledger w = record { seats = map seat w.requests; files = map file_number w.files; next = w.next; tables = map descs_of w.places }

abbrev pub seat_number : Seat → ℕ
seat_number s = s.fd

abbrev pub is_seat : ℕ → Seat → Bool
is_seat fd s = s.fd == fd

-- the numbers of the requests and of the chip files
abbrev pub numbers_in : Ledger → List ℕ
numbers_in l = map seat_number l.seats ++ l.files

-- who has the line at an offset of a place
abbrev pub holder_in : List (List Desc) → ℕ → ℕ → Holder
holder_in tables place offset = (desc_at (slice_index_or tables place []) offset).holder

-- who has the lines of a request
abbrev pub seat_holder : Seat → Holder
seat_holder s = cond s.held (Held s.fd) (Claimed s.fd)

-- the line at an offset of a place is one of the request's
abbrev pub touches : Seat → ℕ → ℕ → Bool
touches s place offset = (s.place == place) && list_any (nat_eq offset) s.offsets

abbrev pub touched_by : ℕ → ℕ → Option Seat → Bool
touched_by place offset None = false
touched_by place offset (Some s) = touches s place offset

-- the request has its lines
abbrev pub HasSeat : List (List Desc) → Seat → Type 0
HasSeat tables s = (offset : ℕ) → list_any (nat_eq offset) s.offsets ≡ true → holder_in tables s.place offset ≡ seat_holder s

-- requests and lines agree on who has what
pub record Agrees (l : Ledger) : Type 0 where
  pub differ : IsDistinct nat_eq (numbers_in l)
  pub below : AllByRecursion (λ fd. fd < l.next) (numbers_in l)
  pub had : Each (HasSeat l.tables) l.seats
  pub named : (place offset fd : ℕ) → taken_by (holder_in l.tables place offset) ≡ Some fd → touched_by place offset (find (is_seat fd) l.seats) ≡ true

-- small facts

pub differs : (a b : ℕ) → nat_eq a b ≡ false → a ≡ b → ⊥
differs a b ne e = grind (arith, nat_tests)

pub equals_itself : (a : ℕ) → nat_eq a a ≡ true
equals_itself a = grind (arith, nat_tests)

pub none_some : {A : Type 0} (x : A) → None ≡ Some x → ⊥
none_some x e = true≢false (ap is_none e)

pub some_is : {A : Type 0} (x y : A) → Some x ≡ Some y → x ≡ y
some_is x y e = ap (λ o. unwrap_or o x) e

-- the numbers

module _ (P : ℕ → Type 0) where
  pub all_insert : (n : ℕ) (xs ys : List ℕ) → P n → AllByRecursion P (xs ++ ys) → AllByRecursion P (xs ++ n ∷ ys)
  all_insert n [] ys p all = (p, all)
  all_insert n (x ∷ xs) ys p all = (all.0, all_insert n xs ys p all.1)

  pub all_push : (n : ℕ) (xs ys : List ℕ) → P n → AllByRecursion P (xs ++ ys) → AllByRecursion P (xs ++ (ys ++ n ∷ []))
  all_push n [] [] p all = (p, tt)
  all_push n [] (y ∷ ys) p all = (all.0, all_push n [] ys p all.1)
  all_push n (x ∷ xs) ys p all = (all.0, all_push n xs ys p all.1)

  pub all_without_seat : (test : Seat → Bool) (seats : List Seat) (ys : List ℕ) → AllByRecursion P (map seat_number seats ++ ys) → AllByRecursion P (map seat_number (without_first test seats) ++ ys)
  all_without_seat test [] ys all = all
  all_without_seat test (s ∷ seats) ys all = elim (test s) as (λ b. AllByRecursion P (map seat_number (cond b seats (s ∷ without_first test seats)) ++ ys)) [
    | true ↦ all.1
    | false ↦ (all.0, all_without_seat test seats ys all.1)
  ]

  pub all_without_file : (test : ChipFile → Bool) (xs : List ℕ) (files : List ChipFile) → AllByRecursion P (xs ++ map file_number files) → AllByRecursion P (xs ++ map file_number (without_first test files))
  all_without_file test [] [] all = all
  all_without_file test [] (file ∷ files) all = elim (test file) as (λ b. AllByRecursion P (map file_number (cond b files (file ∷ without_first test files)))) [
    | true ↦ all.1
    | false ↦ (all.0, all_without_file test [] files all.1)
  ]
  all_without_file test (x ∷ xs) files all = (all.0, all_without_file test xs files all.1)

pub all_mono : (P Q : ℕ → Type 0) (xs : List ℕ) → ((n : ℕ) → P n → Q n) → AllByRecursion P xs → AllByRecursion Q xs
all_mono P Q [] h all = tt
all_mono P Q (x ∷ xs) h all = (h x all.0, all_mono P Q xs h all.1)

pub distinct_insert : (n : ℕ) (xs ys : List ℕ) → AllByRecursion (λ x. x < n) (xs ++ ys) → IsDistinct nat_eq (xs ++ ys) → IsDistinct nat_eq (xs ++ n ∷ ys)
unfolding IsDistinct
distinct_insert n [] ys low d = (all_mono (λ x. x < n) (λ x. nat_eq n x ≡ false) ys (λ x lt. grind (arith, nat_tests)) low, d)
distinct_insert n (x ∷ xs) ys low d =
    let lt : x < n = low.0 in
    (all_insert (λ y. nat_eq x y ≡ false) n xs ys (grind (arith, nat_tests)) d.0, distinct_insert n xs ys low.1 d.1)

pub distinct_push : (n : ℕ) (xs ys : List ℕ) → AllByRecursion (λ x. x < n) (xs ++ ys) → IsDistinct nat_eq (xs ++ ys) → IsDistinct nat_eq (xs ++ (ys ++ n ∷ []))
unfolding IsDistinct
distinct_push n [] [] low d = (tt, tt)
distinct_push n [] (y ∷ ys) low d =
    let lt : y < n = low.0 in
    (all_push (λ z. nat_eq y z ≡ false) n [] ys (grind (arith, nat_tests)) d.0, distinct_push n [] ys low.1 d.1)
distinct_push n (x ∷ xs) ys low d =
    let lt : x < n = low.0 in
    (all_push (λ z. nat_eq x z ≡ false) n xs ys (grind (arith, nat_tests)) d.0, distinct_push n xs ys low.1 d.1)

pub distinct_without_seat : (test : Seat → Bool) (seats : List Seat) (ys : List ℕ) → IsDistinct nat_eq (map seat_number seats ++ ys) → IsDistinct nat_eq (map seat_number (without_first test seats) ++ ys)
unfolding IsDistinct
distinct_without_seat test [] ys d = d
distinct_without_seat test (s ∷ seats) ys d = elim (test s) as (λ b. IsDistinct nat_eq (map seat_number (cond b seats (s ∷ without_first test seats)) ++ ys)) [
  | true ↦ d.1
  | false ↦ (all_without_seat (λ y. nat_eq s.fd y ≡ false) test seats ys d.0, distinct_without_seat test seats ys d.1)
]

pub distinct_without_file : (test : ChipFile → Bool) (xs : List ℕ) (files : List ChipFile) → IsDistinct nat_eq (xs ++ map file_number files) → IsDistinct nat_eq (xs ++ map file_number (without_first test files))
unfolding IsDistinct
distinct_without_file test [] [] d = d
distinct_without_file test [] (file ∷ files) d = elim (test file) as (λ b. IsDistinct nat_eq (map file_number (cond b files (file ∷ without_first test files)))) [
  | true ↦ d.1
  | false ↦ (all_without_file (λ y. nat_eq file.fd y ≡ false) test [] files d.0, distinct_without_file test [] files d.1)
]
distinct_without_file test (x ∷ xs) files d = (all_without_file (λ y. nat_eq x y ≡ false) test xs files d.0, distinct_without_file test xs files d.1)

pub numbers_pushed : (seats : List Seat) (s : Seat) (ys : List ℕ) → map seat_number (seats ++ s ∷ []) ++ ys ≡ map seat_number seats ++ s.fd ∷ ys
numbers_pushed [] s ys = refl
numbers_pushed (x ∷ seats) s ys = ap (λ zs. x.fd ∷ zs) (numbers_pushed seats s ys)

-- the seats

module _ (P Q : Seat → Type 0) where
  pub each_map : (seats : List Seat) → ((x : Seat) → P x → Q x) → Each P seats → Each Q seats
  each_map [] h e = tt
  each_map (x ∷ seats) h e = (h x e.0, each_map seats h e.1)

  pub each_pushed : (seats : List Seat) (s : Seat) → ((x : Seat) → P x → Q x) → Q s → Each P seats → Each Q (seats ++ s ∷ [])
  each_pushed [] s h q e = (q, tt)
  each_pushed (x ∷ seats) s h q e = (h x e.0, each_pushed seats s h q e.1)

  -- those after one with a number have other numbers
  each_behind : (n : ℕ) (seats : List Seat) (ys : List ℕ) → ((x : Seat) → is_seat n x ≡ false → P x → Q x) → AllByRecursion (λ y. nat_eq n y ≡ false) (map seat_number seats ++ ys) → Each P seats → Each Q seats
  each_behind n [] ys h all e = tt
  each_behind n (x ∷ seats) ys h all e =
      let other : nat_eq n x.fd ≡ false = all.0 in
      (h x (grind (arith, nat_tests)) e.0, each_behind n seats ys h all.1 e.1)

  pub each_changed : (n : ℕ) (f : Seat → Seat) (s : Seat) (seats : List Seat) (ys : List ℕ) → find (is_seat n) seats ≡ Some s → IsDistinct nat_eq (map seat_number seats ++ ys)
      → ((x : Seat) → is_seat n x ≡ false → P x → Q x) → (P s → Q (f s)) → Each P seats → Each Q (change_first (is_seat n) f seats)
  unfolding IsDistinct
  each_changed n f s [] ys found d h k e = tt
  each_changed n f s (x ∷ seats) ys found d h k e = elim (is_seat n x) as (λ b. is_seat n x ≡ b → cond b (Some x) (find (is_seat n) seats) ≡ Some s → Each Q (cond b (f x ∷ seats) (x ∷ change_first (is_seat n) f seats))) [
    | true ↦ (λ t is.
        let number : x.fd ≡ n = same_number x.fd n t in
        (subst (λ y. P y → Q (f y)) (sym (some_is x s is)) k e.0, each_behind n seats ys h (subst (λ m. AllByRecursion (λ y. nat_eq m y ≡ false) (map seat_number seats ++ ys)) number d.0) e.1))
    | false ↦ (λ ne later. (h x ne e.0, each_changed n f s seats ys later d.1 h k e.1))
  ] refl found

  pub each_without : (n : ℕ) (seats : List Seat) (ys : List ℕ) → IsDistinct nat_eq (map seat_number seats ++ ys)
      → ((x : Seat) → is_seat n x ≡ false → P x → Q x) → Each P seats → Each Q (without_first (is_seat n) seats)
  unfolding IsDistinct
  each_without n [] ys d h e = tt
  each_without n (x ∷ seats) ys d h e = elim (is_seat n x) as (λ b. is_seat n x ≡ b → Each Q (cond b seats (x ∷ without_first (is_seat n) seats))) [
    | true ↦ (λ t.
        let number : x.fd ≡ n = same_number x.fd n t in
        each_behind n seats ys h (subst (λ m. AllByRecursion (λ y. nat_eq m y ≡ false) (map seat_number seats ++ ys)) number d.0) e.1)
    | false ↦ (λ ne. (h x ne e.0, each_without n seats ys d.1 h e.1))
  ] refl

pub each_found : (P : Seat → Type 0) (test : Seat → Bool) (s : Seat) (seats : List Seat) → find test seats ≡ Some s → Each P seats → P s
each_found P test s [] found e = absurd (none_some s found)
each_found P test s (x ∷ seats) found e = elim (test x) as (λ b. cond b (Some x) (find test seats) ≡ Some s → P s) [
  | true ↦ (λ is. subst P (some_is x s is) e.0)
  | false ↦ (λ later. each_found P test s seats later e.1)
] found

pub touched_changed : (place offset m n : ℕ) (f : Seat → Seat) (seats : List Seat) → ((x : Seat) → (f x).fd ≡ x.fd) → ((x : Seat) → touches (f x) place offset ≡ touches x place offset)
    → touched_by place offset (find (is_seat m) (change_first (is_seat n) f seats)) ≡ touched_by place offset (find (is_seat m) seats)
touched_changed place offset m n f [] number same = refl
touched_changed place offset m n f (x ∷ seats) number same = elim (is_seat n x) as (λ b. touched_by place offset (find (is_seat m) (cond b (f x ∷ seats) (x ∷ change_first (is_seat n) f seats))) ≡ touched_by place offset (find (is_seat m) (x ∷ seats))) [
  | true ↦
      (ap (λ k. touched_by place offset (cond (k == m) (Some (f x)) (find (is_seat m) seats))) (number x)
      ∙ elim (is_seat m x) as (λ c. touched_by place offset (cond c (Some (f x)) (find (is_seat m) seats)) ≡ touched_by place offset (cond c (Some x) (find (is_seat m) seats))) [ true ↦ same x | false ↦ refl ])
  | false ↦ (elim (is_seat m x) as (λ c. touched_by place offset (cond c (Some x) (find (is_seat m) (change_first (is_seat n) f seats))) ≡ touched_by place offset (cond c (Some x) (find (is_seat m) seats))) [
    | true ↦ refl
    | false ↦ touched_changed place offset m n f seats number same
  ])
]

pub find_without : (m n : ℕ) (seats : List Seat) → nat_eq m n ≡ false → find (is_seat m) (without_first (is_seat n) seats) ≡ find (is_seat m) seats
find_without m n [] ne = refl
find_without m n (x ∷ seats) ne = elim (is_seat n x) as (λ b. is_seat n x ≡ b → find (is_seat m) (cond b seats (x ∷ without_first (is_seat n) seats)) ≡ find (is_seat m) (x ∷ seats)) [
  | true ↦ (λ t. let other : is_seat m x ≡ false = grind (arith, nat_tests) in sym (ap (λ c. cond c (Some x) (find (is_seat m) seats)) other))
  | false ↦ (λ _. elim (is_seat m x) as (λ c. cond c (Some x) (find (is_seat m) (without_first (is_seat n) seats)) ≡ cond c (Some x) (find (is_seat m) seats)) [ true ↦ refl | false ↦ find_without m n seats ne ])
] refl

pub touched_before : (place offset m : ℕ) (s : Seat) (seats : List Seat) → touched_by place offset (find (is_seat m) seats) ≡ true → touched_by place offset (find (is_seat m) (seats ++ s ∷ [])) ≡ true
touched_before place offset m s [] h = absurd (true≢false (sym h))
touched_before place offset m s (x ∷ seats) h = elim (is_seat m x) as (λ c. touched_by place offset (cond c (Some x) (find (is_seat m) seats)) ≡ true → touched_by place offset (cond c (Some x) (find (is_seat m) (seats ++ s ∷ []))) ≡ true) [
  | true ↦ (λ here. here)
  | false ↦ (λ later. touched_before place offset m s seats later)
] h

pub touched_last : (place offset : ℕ) (s : Seat) (seats : List Seat) (ys : List ℕ) → AllByRecursion (λ n. n < s.fd) (map seat_number seats ++ ys) → touched_by place offset (find (is_seat s.fd) (seats ++ s ∷ [])) ≡ touches s place offset
touched_last place offset s [] ys low = ap (λ b. touched_by place offset (cond b (Some s) None)) (equals_itself s.fd)
touched_last place offset s (x ∷ seats) ys low =
    let lt : x.fd < s.fd = low.0 in
    let other : is_seat s.fd x ≡ false = grind (arith, nat_tests) in
    ap (λ b. touched_by place offset (cond b (Some x) (find (is_seat s.fd) (seats ++ s ∷ [])))) other ∙ touched_last place offset s seats ys low.1

-- the tables

pub free_holds_not : (s : Seat) → is_free (seat_holder s) ≡ true → ⊥
free_holds_not s e = elim s.held as (λ b. is_free (cond b (Held s.fd) (Claimed s.fd)) ≡ true → ⊥) [ true ↦ λ h. true≢false (sym h) | false ↦ λ h. true≢false (sym h) ] e

pub seat_taken_by : (s : Seat) → taken_by (seat_holder s) ≡ Some s.fd
seat_taken_by s = elim s.held as (λ b. taken_by (cond b (Held s.fd) (Claimed s.fd)) ≡ Some s.fd) [ true ↦ refl | false ↦ refl ]

each_of_none : (f : Desc → Desc) (ns : List ℕ) → change_each first_desc ns f [] ≡ []
each_of_none f [] = refl
each_of_none f (n ∷ ns) = each_of_none f ns

read_changed : {X : Type 0} (d : X) (n : ℕ) (f : X → X) (xs : List X) → f d ≡ d → slice_index_or (change_at d n f xs) n d ≡ f (slice_index_or xs n d)
read_changed d n f [] e = sym e
read_changed d zero f (x ∷ xs) e = refl
read_changed d (suc n) f (x ∷ xs) e = read_changed d n f xs e

module _ (f : Desc → Desc) (g : Holder → Holder) (acts : (line : Desc) → (f line).holder ≡ g line.holder) (again : (h : Holder) → g (g h) ≡ g h) where
  read_here : (lines : List Desc) (n : ℕ) → (length lines ≤ n → g Free ≡ Free) → (desc_at (change_at first_desc n f lines) n).holder ≡ g (desc_at lines n).holder
  read_here [] n past = sym (past (omega arith))
  read_here (line ∷ lines) zero past = acts line
  read_here (line ∷ lines) (suc n) past = read_here lines n (λ le. past (omega arith))

  each_other : (ns : List ℕ) (lines : List Desc) (o : ℕ) → list_any (nat_eq o) ns ≡ false → desc_at (change_each first_desc ns f lines) o ≡ desc_at lines o
  each_other [] lines o e = refl
  each_other (n ∷ ns) lines o e =
      let no = or_false (nat_eq o n) (list_any (nat_eq o) ns) e in
      each_other ns (change_at first_desc n f lines) o no.1 ∙ get_or-change_at_other first_desc n o f lines first_desc (differs o n no.0)

  each_here : (ns : List ℕ) (lines : List Desc) (o : ℕ) → list_any (nat_eq o) ns ≡ true → (length lines ≤ o → g Free ≡ Free) → (desc_at (change_each first_desc ns f lines) o).holder ≡ g (desc_at lines o).holder
  each_here [] lines o e past = absurd (true≢false (sym e))
  each_here (n ∷ ns) lines o e past =
      let next : List Desc = change_at first_desc n f lines in
      let longer : (length next ≤ o → g Free ≡ Free) = (λ le. let same : length next ≡ length lines = length-change_at first_desc n f lines in past (omega arith)) in
      elim (nat_eq o n) as (λ b. nat_eq o n ≡ b → (b || list_any (nat_eq o) ns) ≡ true → (desc_at (change_each first_desc ns f (change_at first_desc n f lines)) o).holder ≡ g (desc_at lines o).holder) [
        | true ↦ (λ t _.
            let here : (desc_at next o).holder ≡ g (desc_at lines o).holder = subst (λ k. (desc_at (change_at first_desc k f lines) o).holder ≡ g (desc_at lines o).holder) (same_number o n t) (read_here lines o past) in
            elim (list_any (nat_eq o) ns) as (λ c. list_any (nat_eq o) ns ≡ c → (desc_at (change_each first_desc ns f (change_at first_desc n f lines)) o).holder ≡ g (desc_at lines o).holder) [
              | true ↦ (λ u. each_here ns next o u longer ∙ ap g here ∙ again (desc_at lines o).holder)
              | false ↦ (λ u. ap (λ (line : Desc). line.holder) (each_other ns next o u) ∙ here)
            ] refl)
        | false ↦ (λ ne rest. each_here ns next o rest longer ∙ ap (λ (line : Desc). g line.holder) (get_or-change_at_other first_desc n o f lines first_desc (differs o n ne)))
      ] refl e

  pub holder_touched : (tables : List (List Desc)) (s : Seat) (place offset : ℕ) → touches s place offset ≡ true → (length (slice_index_or tables place []) ≤ offset → g Free ≡ Free)
      → holder_in (change_at [] s.place (change_each first_desc s.offsets f) tables) place offset ≡ g (holder_in tables place offset)
  holder_touched tables s place offset e past = elim (s.place == place) as (λ b. (s.place == place) ≡ b → (b && list_any (nat_eq offset) s.offsets) ≡ true
      → holder_in (change_at [] s.place (change_each first_desc s.offsets f) tables) place offset ≡ g (holder_in tables place offset)) [
        | true ↦ (λ t any. subst (λ k. holder_in (change_at [] k (change_each first_desc s.offsets f) tables) place offset ≡ g (holder_in tables place offset)) (sym (same_number s.place place t))
            (ap (λ lines. (desc_at lines offset).holder) (read_changed [] place (change_each first_desc s.offsets f) tables (each_of_none f s.offsets))
            ∙ each_here s.offsets (slice_index_or tables place []) offset any past))
        | false ↦ (λ _ no. absurd (true≢false (sym no)))
      ] refl e

  pub holder_untouched : (tables : List (List Desc)) (s : Seat) (place offset : ℕ) → touches s place offset ≡ false
      → holder_in (change_at [] s.place (change_each first_desc s.offsets f) tables) place offset ≡ holder_in tables place offset
  holder_untouched tables s place offset e = elim (s.place == place) as (λ b. (s.place == place) ≡ b → (b && list_any (nat_eq offset) s.offsets) ≡ false
      → holder_in (change_at [] s.place (change_each first_desc s.offsets f) tables) place offset ≡ holder_in tables place offset) [
        | true ↦ (λ t none. subst (λ k. holder_in (change_at [] k (change_each first_desc s.offsets f) tables) place offset ≡ holder_in tables place offset) (sym (same_number s.place place t))
            (ap (λ lines. (desc_at lines offset).holder) (read_changed [] place (change_each first_desc s.offsets f) tables (each_of_none f s.offsets))
            ∙ ap (λ (line : Desc). line.holder) (each_other s.offsets (slice_index_or tables place []) offset none)))
        | false ↦ (λ ne _. ap (λ lines. (desc_at lines offset).holder) (get_or-change_at_other [] s.place place (change_each first_desc s.offsets f) tables [] (λ is. differs s.place place ne (sym is))))
      ] refl e

pub in_range : (lines : List Desc) (offset : ℕ) → (is_free (desc_at lines offset).holder ≡ true → ⊥) → offset < length lines
in_range [] offset taken = absurd (taken refl)
in_range (line ∷ lines) zero taken = omega arith
in_range (line ∷ lines) (suc offset) taken = let h : offset < length lines = in_range lines offset taken in omega arith

-- more tables, whose lines no request has

abbrev pub NobodyHas : List (List Desc) → Type 0
NobodyHas more = (place offset : ℕ) → taken_by (holder_in more place offset) ≡ None

-- the line is as it was, or stands after what there was
abbrev pub IsOldOrNew : List (List Desc) → List (List Desc) → ℕ → ℕ → Type 0
IsOldOrNew tables more place offset =
    (holder_in (tables ++ more) place offset ≡ holder_in tables place offset) ⊎ ((taken_by (holder_in (tables ++ more) place offset) ≡ None) × (holder_in tables place offset ≡ Free))

pub more_tables : (tables more : List (List Desc)) (place offset : ℕ) → NobodyHas more → IsOldOrNew tables more place offset
more_tables tables more place offset nobody = elim (split place (length tables)) as (λ _. IsOldOrNew tables more place offset) [
  | inl lt ↦ inl (ap (λ lines. (desc_at lines offset).holder) (read_before tables more place [] lt))
  | inr le ↦ inr (
    ap (λ lines. taken_by (desc_at lines offset).holder) (read_behind tables more place [] le) ∙ nobody (place - length tables) offset,
    ap (λ lines. (desc_at lines offset).holder) (read_past tables place [] le),
  )
]
