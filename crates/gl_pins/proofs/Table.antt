-- What is kept true of the ranges and the held pins: the lines of held pins differ, so they are no more than a chip has lines.
use Rattle.std.proofs.Common.{◌≡◌, ◌≢◌, ℕ, ◌+◌, ◌<◌, ◌≤◌, Bool, true, false, cond, ltb, ◌||◌, List, [], ◌∷◌, ◌++◌, length, map, get_or, Option, Some, None, refl, ap, sym, ◌∙◌, arith}
use Rattle.std.specs.Prelude.{is_some, nat_eq}
use Rattle.std.specs.List.{find, list_any, IsDistinct, AllByRecursion}
use Rattle.std.proofs.lemmas.Bool.{eqb-false, lt-ltb, ne_eqb}
use Rattle.std.proofs.lemmas.Cmp.{nat_eq_equiv}
use Rattle.std.proofs.lemmas.List.{length_push, length-map}
use Rattle.std.proofs.lemmas.Map.Keys.{IsDistinct-push}
use Rattle.std.proofs.lemmas.Map.Steps.{length-le_from_distinct_below}
use Rattle.std.proofs.lemmas.Bool.Decides.{nat_tests}
use Rattle.gl_base.specs.Rows.{Each, without_first}
use Rattle.gl_base.specs.declared.limits.TheConstants.{LINES_MAX}
use Rattle.gl_base.proofs.FirstRows.{at_position, without_first-position, without_first-no_position, Each-at, Each-push, Each-without_first}
use Rattle.gl_pins.specs.PinRange.{has_pin, offset_in, overlap, stretches_overlap}
use Rattle.gl_pins.specs.Pins.{AreApart, IsMapped, IsWithin, IsPinTable, holds_pin}
use Rattle.gl_pins.specs.declared.range.PinRange.{PinRange}
use Rattle.gl_pins.specs.declared.pins.TheConstants.{RANGES_MAX}

pub ruleset removal = (at_position, without_first-position, without_first-no_position)

pub within_at : (ranges : List PinRange) (k : ℕ) (d : PinRange) → Each IsWithin ranges → k < length ranges → IsWithin (get_or ranges k d)
within_at ranges k d within lt = Each-at IsWithin ranges k d within lt

-- the line that a range maps to a pin; 0 where no range has it
abbrev line_in : ℕ → Option PinRange → ℕ
line_in pin None = 0
line_in pin (Some range) = offset_in pin range

abbrev line : List PinRange → ℕ → ℕ
line ranges pin = line_in pin (find (has_pin pin) ranges)

-- a pin of a range stands for one of the range's lines
in_range : (range : PinRange) (pin : ℕ) → has_pin pin range ≡ true → (range.pin ≤ pin) × (pin < range.pin + range.count)
in_range range pin has = grind (arith, nat_tests)

-- what is true of each range is true of the one that is found, and it has the pin
found_in : (P : PinRange → Type 0) (ranges : List PinRange) (pin : ℕ) → Each P ranges → IsMapped ranges pin
    → (range : PinRange) × (line ranges pin ≡ offset_in pin range) × (has_pin pin range ≡ true) × P range
found_in P [] pin each mapped = cc
found_in P (x ∷ xs) pin each mapped = by_test (has_pin pin x) refl (λ m. found_in P xs pin each.1 m) mapped
  where
    by_test : (t : Bool) → has_pin pin x ≡ t → (IsMapped xs pin → (range : PinRange) × (line xs pin ≡ offset_in pin range) × (has_pin pin range ≡ true) × P range)
        → is_some (cond t (Some x) (find (has_pin pin) xs)) ≡ true
        → (range : PinRange) × (line_in pin (cond t (Some x) (find (has_pin pin) xs)) ≡ offset_in pin range) × (has_pin pin range ≡ true) × P range
    by_test true has rest m = (x, refl, has, each.0)
    by_test false has rest m = rest m

-- ranges that don't overlap have different lines
lines_apart : (x y : PinRange) (pin other : ℕ) → overlap y x ≡ false → has_pin pin x ≡ true → has_pin other y ≡ true → offset_in pin x ≢ offset_in other y
lines_apart x y pin other apart has has_other same =
    let here : (x.pin ≤ pin) × (pin < x.pin + x.count) = in_range x pin has in
    let there : (y.pin ≤ other) × (other < y.pin + y.count) = in_range y other has_other in
    let y_first : ltb y.offset (x.offset + x.count) ≡ true = lt-ltb y.offset (x.offset + x.count) (omega (arith, here.0, here.1, there.0, there.1)) in
    let x_first : ltb x.offset (y.offset + y.count) ≡ true = lt-ltb x.offset (y.offset + y.count) (omega (arith, here.0, here.1, there.0, there.1)) in
    let both : stretches_overlap y.offset y.count x.offset x.count ≡ true = simp (y_first, x_first) in
    let whole : overlap y x ≡ true = simp both in
    cc

-- different pins are those of different lines
lines_differ : (ranges : List PinRange) (pin other : ℕ) → AreApart ranges → IsMapped ranges pin → IsMapped ranges other → pin ≢ other → line ranges pin ≢ line ranges other
lines_differ [] pin other apart mapped mapped_other ne same = cc
lines_differ (x ∷ xs) pin other apart mapped mapped_other ne same = by_test (has_pin pin x) (has_pin other x) refl refl (λ m mo s. lines_differ xs pin other apart.1 m mo ne s) mapped mapped_other same
  where
    by_test : (t u : Bool) → has_pin pin x ≡ t → has_pin other x ≡ u → (IsMapped xs pin → IsMapped xs other → line xs pin ≡ line xs other → ⊥)
        → is_some (cond t (Some x) (find (has_pin pin) xs)) ≡ true → is_some (cond u (Some x) (find (has_pin other) xs)) ≡ true
        → line_in pin (cond t (Some x) (find (has_pin pin) xs)) ≡ line_in other (cond u (Some x) (find (has_pin other) xs)) → ⊥
    by_test true true has has_other rest m mo s =
        let here : (x.pin ≤ pin) × (pin < x.pin + x.count) = in_range x pin has in
        let there : (x.pin ≤ other) × (other < x.pin + x.count) = in_range x other has_other in
        ne (omega (arith, here.0, there.0, s))
    by_test true false has has_other rest m mo s =
        let found = found_in (λ later. overlap later x ≡ false) xs other apart.0 mo in
        lines_apart x found.0 pin other found.3 has found.2 (s ∙ found.1)
    by_test false true has has_other rest m mo s =
        let found = found_in (λ later. overlap later x ≡ false) xs pin apart.0 m in
        lines_apart x found.0 other pin found.3 has_other found.2 (sym s ∙ found.1)
    by_test false false has has_other rest m mo s = rest m mo s

-- the lines of held pins
others_differ : (ranges : List PinRange) (pin : ℕ) (held : List ℕ) → AreApart ranges → IsMapped ranges pin → Each (IsMapped ranges) held
    → AllByRecursion (λ other. nat_eq pin other ≡ false) held → AllByRecursion (λ l. nat_eq (line ranges pin) l ≡ false) (map (line ranges) held)
others_differ ranges pin [] apart here mapped differ = tt
others_differ ranges pin (x ∷ xs) apart here mapped differ = (
  ne_eqb (line ranges pin) (line ranges x) (lines_differ ranges pin x apart here mapped.0 (eqb-false pin x differ.0)),
  others_differ ranges pin xs apart here mapped.1 differ.1,
)

lines_distinct : (ranges : List PinRange) (held : List ℕ) → AreApart ranges → Each (IsMapped ranges) held → IsDistinct nat_eq held → IsDistinct nat_eq (map (line ranges) held)
unfolding IsDistinct
lines_distinct ranges [] apart mapped distinct = tt
lines_distinct ranges (x ∷ xs) apart mapped distinct = (others_differ ranges x xs apart mapped.0 mapped.1 distinct.0, lines_distinct ranges xs apart mapped.1 distinct.1)

line_below : (ranges : List PinRange) (pin : ℕ) → Each IsWithin ranges → IsMapped ranges pin → line ranges pin < LINES_MAX
line_below ranges pin within mapped =
    let found = found_in IsWithin ranges pin within mapped in
    let here = in_range found.0 pin found.2 in
    omega (arith, found.1, found.3.0, here.0, here.1)

below_step : (same rest : Bool) (x l : ℕ) → nat_eq l x ≡ same → (same || rest) ≡ true → x < LINES_MAX → (rest ≡ true → l < LINES_MAX) → l < LINES_MAX
below_step true rest x l e h below later = grind (arith, nat_tests)
below_step false rest x l e h below later = later h

lines_below : (ranges : List PinRange) (held : List ℕ) → Each IsWithin ranges → Each (IsMapped ranges) held → (l : ℕ) → list_any (nat_eq l) (map (line ranges) held) ≡ true → l < LINES_MAX
lines_below ranges [] within mapped l e = cc
lines_below ranges (x ∷ xs) within mapped l e =
    below_step (nat_eq l (line ranges x)) (list_any (nat_eq l) (map (line ranges) xs)) (line ranges x) l refl e (line_below ranges x within mapped.0) (lines_below ranges xs within mapped.1 l)

-- so held pins are at most as many as lines
held_count : (ranges : List PinRange) (held : List ℕ) → Each IsWithin ranges → AreApart ranges → Each (IsMapped ranges) held → IsDistinct nat_eq held → length held ≤ LINES_MAX
held_count ranges held within apart mapped distinct =
    let few : length (map (line ranges) held) ≤ LINES_MAX = length-le_from_distinct_below (map (line ranges) held) LINES_MAX (lines_distinct ranges held apart mapped distinct) (lines_below ranges held within mapped) in
    omega (arith, few, length-map held (line ranges))

-- a range that was found has the pin
pub mapped_by : (ranges : List PinRange) (pin : ℕ) (range : PinRange) → Some range ≡ find (has_pin pin) ranges → IsMapped ranges pin
mapped_by ranges pin range is = ap is_some (sym is)

-- the pins with one more held
pub table_with_held : (ranges : List PinRange) (held : List ℕ) (range_room held_room more pin : ℕ) → IsPinTable ranges held range_room held_room → IsMapped ranges pin → holds_pin held pin ≡ false → more ≡ held_room → IsPinTable ranges (held ++ pin ∷ []) range_room more
table_with_held ranges held range_room held_room more pin table mapped new room = record {
  within = table.within;
  few_ranges = table.few_ranges;
  all_ranges = table.all_ranges;
  apart = table.apart;
  mapped = Each-push (IsMapped ranges) held pin table.mapped mapped;
  distinct = IsDistinct-push nat_eq_equiv held pin table.distinct new;
  all_lines = room ∙ table.all_lines;
}

-- there is room for it
pub held_room : (ranges : List PinRange) (held : List ℕ) (range_room held_room pin : ℕ) → IsPinTable ranges held range_room held_room → IsMapped ranges pin → holds_pin held pin ≡ false → length held < held_room
held_room ranges held range_room room pin table mapped new =
    let more = table_with_held ranges held range_room room room pin table mapped new refl in
    let count : length (held ++ pin ∷ []) ≤ LINES_MAX = held_count ranges (held ++ pin ∷ []) more.within more.apart more.mapped more.distinct in
    omega (arith, count, length_push held pin, table.all_lines)

-- the pins with one range more
apart_push : (ranges : List PinRange) (range : PinRange) → AreApart ranges → list_any (overlap range) ranges ≡ false → AreApart (ranges ++ range ∷ [])
apart_push [] range apart none = (tt, tt)
apart_push (x ∷ xs) range apart none = by_test (overlap range x) refl (λ e. apart_push xs range apart.1 e) none
  where
    by_test : (t : Bool) → overlap range x ≡ t → (list_any (overlap range) xs ≡ false → AreApart (xs ++ range ∷ [])) → (t || list_any (overlap range) xs) ≡ false
        → AreApart (x ∷ (xs ++ range ∷ []))
    by_test true is rest e = cc
    by_test false is rest e = (Each-push (λ later. overlap later x ≡ false) xs range apart.0 is, rest e)

mapped_push : (ranges : List PinRange) (range : PinRange) (pin : ℕ) → IsMapped ranges pin → IsMapped (ranges ++ range ∷ []) pin
mapped_push [] range pin mapped = cc
mapped_push (x ∷ xs) range pin mapped = by_test (has_pin pin x) (λ m. mapped_push xs range pin m) mapped
  where
    by_test : (t : Bool) → (IsMapped xs pin → IsMapped (xs ++ range ∷ []) pin) → is_some (cond t (Some x) (find (has_pin pin) xs)) ≡ true → is_some (cond t (Some x) (find (has_pin pin) (xs ++ range ∷ []))) ≡ true
    by_test true rest m = refl
    by_test false rest m = rest m

each_mapped_push : (ranges : List PinRange) (range : PinRange) (held : List ℕ) → Each (IsMapped ranges) held → Each (IsMapped (ranges ++ range ∷ [])) held
each_mapped_push ranges range [] mapped = tt
each_mapped_push ranges range (x ∷ xs) mapped = (mapped_push ranges range x mapped.0, each_mapped_push ranges range xs mapped.1)

pub table_with_range : (ranges : List PinRange) (held : List ℕ) (range_room held_room more : ℕ) (range : PinRange) → IsPinTable ranges held range_room held_room → IsWithin range → list_any (overlap range) ranges ≡ false
    → length ranges < RANGES_MAX → more ≡ range_room → IsPinTable (ranges ++ range ∷ []) held more held_room
table_with_range ranges held range_room pin_room more range table within apart room same = record {
  within = Each-push IsWithin ranges range table.within within;
  few_ranges = omega (arith, length_push ranges range, room);
  all_ranges = same ∙ table.all_ranges;
  apart = apart_push ranges range table.apart apart;
  mapped = each_mapped_push ranges range held table.mapped;
  distinct = table.distinct;
  all_lines = table.all_lines;
}

All-without_first : (P : ℕ → Type 0) (test : ℕ → Bool) (xs : List ℕ) → AllByRecursion P xs → AllByRecursion P (without_first test xs)
All-without_first P test [] s = s
All-without_first P test (x ∷ xs) s = elim (test x) as (λ b. AllByRecursion P (cond b xs (x ∷ without_first test xs))) [ true ↦ s.1 | false ↦ (s.0, All-without_first P test xs s.1) ]

IsDistinct-without_first : (test : ℕ → Bool) (xs : List ℕ) → IsDistinct nat_eq xs → IsDistinct nat_eq (without_first test xs)
unfolding IsDistinct
IsDistinct-without_first test [] s = s
IsDistinct-without_first test (x ∷ xs) s = elim (test x) as (λ b. IsDistinct nat_eq (cond b xs (x ∷ without_first test xs))) [ true ↦ s.1 | false ↦ (All-without_first (λ y. nat_eq x y ≡ false) test xs s.0, IsDistinct-without_first test xs s.1) ]

-- the pins with one held no more
pub table_without_held : (ranges : List PinRange) (held : List ℕ) (range_room held_room pin : ℕ) → IsPinTable ranges held range_room held_room → IsPinTable ranges (without_first (nat_eq pin) held) range_room held_room
table_without_held ranges held range_room pin_room pin table = record {
  within = table.within;
  few_ranges = table.few_ranges;
  all_ranges = table.all_ranges;
  apart = table.apart;
  mapped = Each-without_first (IsMapped ranges) (nat_eq pin) held table.mapped;
  distinct = IsDistinct-without_first (nat_eq pin) held table.distinct;
  all_lines = table.all_lines;
}

-- no range and no held pin
pub table_of_none : (range_room held_room : ℕ) → range_room ≡ RANGES_MAX → held_room ≡ LINES_MAX → IsPinTable [] [] range_room held_room
unfolding IsDistinct
table_of_none range_room held_room ranges held = record {
  within = tt;
  few_ranges = omega arith;
  all_ranges = ranges;
  apart = tt;
  mapped = tt;
  distinct = tt;
  all_lines = held;
}
