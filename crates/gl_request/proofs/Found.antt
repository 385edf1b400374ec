-- The row of a number, and what each row keeps.
use Rattle.std.proofs.Common.{ℕ, zero, suc, Bool, true, false, cond, ltb, ◌≡◌, ◌<◌, ◌≤◌, List, length, map, ◌∷◌, ◌++◌, [], get_or, set, Some, None, refl, ap, sym, ◌∙◌, arith, eq-eqb}
use Rattle.std.specs.Prelude.{◌+◌, ◌==◌, find, is_some, nat_eq, not, position}
use Rattle.std.specs.List.{AllByRecursion, IsDistinct, position_or_len}
use Rattle.std.specs.Option.{option_map}
use Rattle.std.proofs.lemmas.Bool.Decides.{nat_tests}
use Rattle.std.proofs.lemmas.List.Quantifiers.{position-Some}
use Rattle.std.proofs.lemmas.List.Sums.{position_or_len_is}
use Rattle.gl_base.specs.Lines.{IsLineCount}
use Rattle.gl_base.specs.declared.limits.TheConstants.{LINES_PER_REQUEST}
use Rattle.gl_base.specs.Rows.{Each, change_first, without_first}
use Rattle.gl_base.proofs.FirstRows.{at_position, change_first-no_position, change_first-position, find-no_position, find-position, length-change_first, length-without_first-le, without_first-no_position, without_first-position, Each-at, Each-change_first, Each-find, Each-push, Each-without_first}
use Rattle.gl_base.specs.declared.settings.Resolved.{Resolved}
use Rattle.gl_ring.specs.declared.ring.TheConstants.{RING_EVENTS_MAX}
use Rattle.gl_request.specs.declared.row.RequestRow.{RequestRow}
use Rattle.gl_request.specs.Request.{HasLines, HaveDifferentNumbers, configured, held, is_claim_of, is_monitored, is_number, noted, read_from, with_event, AreRising, IsBelow}
use Rattle.gl_request.proofs.Halving.{rising_changed, rising_pushed, rising_without_first}

-- the row that was read at the position of the first that passes
pub change_first-read : (test : RequestRow → Bool) (f : RequestRow → RequestRow) (rows : List RequestRow) (i : ℕ) (row : RequestRow) → position test rows ≡ Some i → row ≡ get_or rows i row
    → change_first test f rows ≡ set rows i (f row)
change_first-read test f rows i row at read = change_first-position test f rows i row at ∙ ap (λ (r : RequestRow). set rows i (f r)) (sym read)

-- there is a row at the position of the first that passes
pub found_some : (test : RequestRow → Bool) (rows : List RequestRow) (i : ℕ) → position test rows ≡ Some i → is_some (find test rows) ≡ true
found_some test [] i e = cc
found_some test (row ∷ rows) i e = ap is_some (find-position test (row ∷ rows) i row e)

pub ruleset found = (at_position, change_first-read, change_first-no_position, find-position, find-no_position, without_first-position, without_first-no_position)

pub lines_held : (test : RequestRow → Bool) (rows : List RequestRow) → Each HasLines rows → Each HasLines (change_first test held rows)
lines_held test rows each = Each-change_first HasLines test held rows (λ row some. some) each

pub lines_configured : (settings : Resolved) (test : RequestRow → Bool) (rows : List RequestRow) → Each HasLines rows → Each HasLines (change_first test (configured settings) rows)
lines_configured settings test rows each = Each-change_first HasLines test (configured settings) rows (λ row some. some) each

pub lines_read : (max : ℕ) (test : RequestRow → Bool) (rows : List RequestRow) → Each HasLines rows → Each HasLines (change_first test (read_from max) rows)
lines_read max test rows each = Each-change_first HasLines test (read_from max) rows (λ row some. some) each

pub lines_noted : (i : ℕ) (rising : Bool) (time : ℕ) (test : RequestRow → Bool) (rows : List RequestRow) → Each HasLines rows → Each HasLines (change_first test (noted i rising time) rows)
lines_noted i rising time test rows each =
    Each-change_first HasLines test (noted i rising time) rows
    (λ row some. elim (is_monitored i rising row) as (λ b. HasLines (cond b (with_event i rising time row) row)) [ true ↦ some | false ↦ some ]) each

pub lines_without : (test : RequestRow → Bool) (rows : List RequestRow) → Each HasLines rows → Each HasLines (without_first test rows)
lines_without test rows each = Each-without_first HasLines test rows each

pub lines_more : (rows : List RequestRow) (row : RequestRow) → Each HasLines rows → IsLineCount row.lines.count → length row.lines.offsets ≡ LINES_PER_REQUEST → 1 ≤ row.ring.capacity → row.ring.capacity ≤ RING_EVENTS_MAX → Each HasLines (rows ++ row ∷ [])
lines_more rows row each some slots room few = Each-push HasLines rows row each (some, slots, room, few)

pub rising_held : (test : RequestRow → Bool) (rows : List RequestRow) → AreRising rows → AreRising (change_first test held rows)
rising_held test rows rising = rising_changed test held rows (λ row. refl) rising

pub rising_configured : (settings : Resolved) (test : RequestRow → Bool) (rows : List RequestRow) → AreRising rows → AreRising (change_first test (configured settings) rows)
rising_configured settings test rows rising = rising_changed test (configured settings) rows (λ row. refl) rising

pub rising_read : (max : ℕ) (test : RequestRow → Bool) (rows : List RequestRow) → AreRising rows → AreRising (change_first test (read_from max) rows)
rising_read max test rows rising = rising_changed test (read_from max) rows (λ row. refl) rising

pub rising_noted : (i : ℕ) (up : Bool) (time : ℕ) (test : RequestRow → Bool) (rows : List RequestRow) → AreRising rows → AreRising (change_first test (noted i up time) rows)
rising_noted i up time test rows rising =
    rising_changed test (noted i up time) rows
    (λ row. elim (is_monitored i up row) as (λ b. (cond b (with_event i up time row) row).fd ≡ row.fd) [ true ↦ refl | false ↦ refl ]) rising

pub rising_without : (test : RequestRow → Bool) (rows : List RequestRow) → AreRising rows → AreRising (without_first test rows)
rising_without test rows rising = rising_without_first test rows rising

pub rising_more : (rows : List RequestRow) (row : RequestRow) → AreRising rows → Each (IsBelow row.fd) rows → AreRising (rows ++ row ∷ [])
rising_more rows row rising below = rising_pushed rows row rising below

pub ruleset kept = (
  length-change_first,
  length-without_first-le,
  lines_held,
  lines_configured,
  lines_read,
  lines_noted,
  lines_without,
  lines_more,
  rising_held,
  rising_configured,
  rising_read,
  rising_noted,
  rising_without,
  rising_more,
)

-- a row that was found has 1 to 64 lines
pub lines_found : (test : RequestRow → Bool) (rows : List RequestRow) (i : ℕ) (d : RequestRow) → position test rows ≡ Some i → Each HasLines rows → IsLineCount (get_or rows i d).lines.count
lines_found test rows i d at each = (Each-at HasLines rows i d each (at_position test rows i at)).0

pub slots_found : (test : RequestRow → Bool) (rows : List RequestRow) (i : ℕ) (d : RequestRow) → position test rows ≡ Some i → Each HasLines rows → length (get_or rows i d).lines.offsets ≡ LINES_PER_REQUEST
slots_found test rows i d at each = (Each-at HasLines rows i d each (at_position test rows i at)).1

pub lines_taken : (test : RequestRow → Bool) (rows : List RequestRow) (row : RequestRow) → find test rows ≡ Some row → Each HasLines rows → IsLineCount row.lines.count
lines_taken test rows row is each = (Each-find HasLines test rows row each is).0

-- a number that no other has

number_of : RequestRow → ℕ
number_of row = row.fd

first_only : (n : ℕ) (rows : List RequestRow) (i : ℕ) (d : RequestRow) → AllByRecursion (λ y. nat_eq n y ≡ false) (map (λ (row : RequestRow). row.fd) rows) → i < length rows → nat_eq n (get_or rows i d).fd ≡ false
first_only n [] i d all lt = absurd (omega arith)
first_only n (row ∷ rows) zero d all lt = all.0
first_only n (row ∷ rows) (suc i) d all lt = first_only n rows i d all.1 (omega arith)

others_differ : (rows : List RequestRow) (k i : ℕ) (d : RequestRow) → HaveDifferentNumbers rows → k < i → i < length rows → is_number (get_or rows i d).fd (get_or rows k d) ≡ false
unfolding IsDistinct
others_differ [] k i d differ before lt = absurd (omega arith)
others_differ (row ∷ rows) zero zero d differ before lt = absurd (omega arith)
others_differ (row ∷ rows) zero (suc i) d differ before lt = first_only row.fd rows i d differ.0 (omega arith)
others_differ (row ∷ rows) (suc k) zero d differ before lt = absurd (omega arith)
others_differ (row ∷ rows) (suc k) (suc i) d differ before lt = others_differ rows k i d differ.1 (omega arith) (omega arith)

-- the claim that was found is the request of its number
pub claim_found : (actor : ℕ) (rows : List RequestRow) (i : ℕ) (d : RequestRow) → position (is_claim_of actor) rows ≡ Some i → HaveDifferentNumbers rows
    → position (is_number (get_or rows i d).fd) rows ≡ Some i
claim_found actor rows i d at differ =
    let here = position-Some (is_claim_of actor) rows i d at in
    let test : RequestRow → Bool = is_number (get_or rows i d).fd in
    let first : position_or_len test rows ≡ i =
    position_or_len_is test rows i d (omega (arith, here.0)) (λ k before. others_differ rows k i d differ before here.0) (λ lt. eq-eqb (get_or rows i d).fd (get_or rows i d).fd refl) in
    let within : ltb i (length rows) ≡ true = grind (arith, nat_tests, here.0) in
    ap (λ (n : ℕ). cond (ltb n (length rows)) (Some n) None) first ∙ ap (λ b. cond b (Some i) None) within

-- it stands there still when it is held

positions_stay : (fd : ℕ) (rows : List RequestRow) → position_or_len (is_number fd) (change_first (is_number fd) held rows) ≡ position_or_len (is_number fd) rows
positions_stay fd [] = refl
positions_stay fd (row ∷ rows) =
    elim (row.fd == fd) as (λ b. position_or_len (is_number fd) (cond b (held row ∷ rows) (row ∷ change_first (is_number fd) held rows)) ≡ position_or_len (is_number fd) (row ∷ rows)) [
      | true ↦ refl
      | false ↦ ap (λ (n : ℕ). cond (not (row.fd == fd)) (1 + n) 0) (positions_stay fd rows)
    ]

pub stays : (fd at : ℕ) (rows : List RequestRow) → position (is_number fd) rows ≡ Some at → position (is_number fd) (change_first (is_number fd) held rows) ≡ Some at
stays fd at rows is = ap (λ (n : ℕ). cond (ltb n (length (change_first (is_number fd) held rows))) (Some n) None) (positions_stay fd rows) ∙ ap (λ (n : ℕ). cond (ltb (position_or_len (is_number fd) rows) n) (Some (position_or_len (is_number fd) rows)) None) (length-change_first (is_number fd) held rows) ∙ is

pub held_there : (fd : ℕ) (rows : List RequestRow) → find (is_number fd) (change_first (is_number fd) held rows) ≡ option_map held (find (is_number fd) rows)
held_there fd [] = refl
held_there fd (row ∷ rows) =
    elim (row.fd == fd) as (λ b. (row.fd == fd) ≡ b → find (is_number fd) (cond b (held row ∷ rows) (row ∷ change_first (is_number fd) held rows)) ≡ option_map held (cond b (Some row) (find (is_number fd) rows))) [
      | true ↦ (λ e. ap (λ b. cond b (Some (held row)) (find (is_number fd) rows)) e)
      | false ↦ (λ e. ap (λ b. cond b (Some row) (find (is_number fd) (change_first (is_number fd) held rows))) e ∙ held_there fd rows)
    ] refl
