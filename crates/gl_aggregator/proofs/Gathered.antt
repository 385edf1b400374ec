-- The bits of what is gathered.
use Rattle.std.proofs.Common.{◌≡◌, ℕ, zero, suc, ◌+◌, ◌<◌, ◌^◌, max, Bool, true, false, List, [], ◌∷◌, ◌++◌, Option, Some, None, inl, inr, bit_or, refl, sym, ap, ◌∙◌, subst, arith}
use Rattle.std.specs.Prelude.{◌==◌, ◌&&◌, ◌||◌, if◌then◌else◌, slice_get}
use Rattle.std.specs.Int.{bit_at}
use Rattle.std.specs.List.{list_any}
use Rattle.std.proofs.lemmas.Bool.{cases_lt, eq-eqb, eqb-false, eqb-true, ne_eqb}
use Rattle.std.proofs.lemmas.Nat.Bits.{bit_at-lt, bit_at-pow_other, bit_at-pow_same, bit_at-zero, bit_at_or}
use Rattle.gl_base.specs.Bits.{has_bit}
use Rattle.gl_base.specs.Lines.{offsets_of}
use Rattle.gl_base.specs.declared.kind.Kind.{Kind}
use Rattle.gl_base.specs.declared.kind.Kind.TheVariants.{Remote}
use Rattle.gl_base.specs.declared.lines.Lines.{Lines}
use Rattle.gl_base.specs.declared.op.Op.TheVariants.{Apply, Get, Set}
use Rattle.gl_base.specs.declared.settings.Resolved.{Resolved}
use Rattle.gl_driver.specs.Maps.{targets_of}
use Rattle.gl_driver.specs.declared.map.Map.{Map}
use Rattle.gl_driver.specs.declared.map.Target.{Target}
use Rattle.gl_model.specs.Places.{kind_at}
use Rattle.gl_model.specs.Values.{bits_in, levels_of, value_of, value_on}
use Rattle.gl_model.specs.World.{World}
use Rattle.gl_aggregator.specs.Gather.{GatheredBits, GetGivesBits, bit_there, gather, gather_on, told_bit, told_bit_of}
use Rattle.gl_aggregator.specs.Routes.{LineAt, is_visited, line_at, lines_from, lines_on, position_in, route_to, routes, routes_from, with_bits_where}
use Rattle.gl_aggregator.specs.declared.routes.Route.{Route}
use Rattle.gl_aggregator.proofs.Joined.{position_before, position_behind}
use Rattle.gl_aggregator.proofs.BitsWhere.{has_bit_where}

-- line i of a Get is one of these lines of a target, and the target's word has its bit
abbrev has_line : ℕ → ℕ → List LineAt → Bool
has_line i word ls = list_any (λ l. has_bit word l.at && (l.line == i)) ls

-- at the tell of some target that has line i of a Get, the bit of that line was written
abbrev was_told : Lines → ℕ → List Route → List (List ℕ) → Bool
was_told lines i [] told = false
was_told lines i (route ∷ later) [] = false
was_told lines i (route ∷ later) (bytes ∷ told) = has_line i (bits_in bytes) (lines_on (Get lines) route) || was_told lines i later told

or_none : (a : Bool) → a ≡ (a || false)
or_none true = refl
or_none false = refl

or_on : (a b c : Bool) → ((a || b) || c) ≡ (a || (b || c))
or_on true b c = refl
or_on false b c = refl

either_one : (a c : ℕ) → a < 2 → c < 2 → (max a c == 1) ≡ ((a == 1) || (c == 1))
either_one zero zero few few' = refl
either_one zero (suc zero) few few' = refl
either_one (suc zero) zero few few' = refl
either_one (suc zero) (suc zero) few few' = refl
either_one (suc (suc a)) c few few' = absurd (omega arith)
either_one zero (suc (suc c)) few few' = absurd (omega arith)
either_one (suc zero) (suc (suc c)) few few' = absurd (omega arith)

pow_bit : (k i : ℕ) → has_bit (2 ^ k) i ≡ (k == i)
pow_bit k i = elim (k == i) as (λ b. (k == i) ≡ b → has_bit (2 ^ k) i ≡ b) [
  | true ↦ (λ e. ap (λ n. bit_at (2 ^ k) n == 1) (sym (eqb-true k i e)) ∙ ap (λ n. n == 1) (bit_at-pow_same k))
  | false ↦ (λ e. ap (λ n. n == 1) (bit_at-pow_other k i (λ at. eqb-false k i e (sym at))))
] refl

bit_if : (b : Bool) (k i : ℕ) → has_bit (if b then 2 ^ k else 0) i ≡ (b && (k == i))
bit_if true k i = pow_bit k i
bit_if false k i = ap (λ n. n == 1) (bit_at-zero i)

bit_besides : (word : ℕ) (b : Bool) (k i : ℕ) → has_bit (bit_or word (if b then 2 ^ k else 0)) i ≡ (has_bit word i || (b && (k == i)))
bit_besides word b k i =
    ap (λ n. n == 1) (bit_at_or word (if b then 2 ^ k else 0) i)
    ∙ (either_one (bit_at word i) (bit_at (if b then 2 ^ k else 0) i) (bit_at-lt word i) (bit_at-lt (if b then 2 ^ k else 0) i)
    ∙ ap (λ c. has_bit word i || c) (bit_if b k i))

bits_besides : (test : LineAt → Bool) (bit : LineAt → ℕ) (word i : ℕ) (ls : List LineAt) → has_bit (with_bits_where test bit word ls) i ≡ (has_bit word i || list_any (λ l. test l && (bit l == i)) ls)
bits_besides test bit word i [] = or_none (has_bit word i)
bits_besides test bit word i (l ∷ ls) =
    bits_besides test bit (bit_or word (if test l then 2 ^ bit l else 0)) i ls
    ∙ (ap (λ a. a || list_any (λ l. test l && (bit l == i)) ls) (bit_besides word (test l) (bit l) i)
    ∙ or_on (has_bit word i) (test l && (bit l == i)) (list_any (λ l. test l && (bit l == i)) ls))

gathered_from : (lines : Lines) (bits i : ℕ) (found : List Route) (told : List (List ℕ)) → has_bit (gather_on (Get lines) bits found told) i ≡ (has_bit bits i || was_told lines i found told)
gathered_from lines bits i [] told = or_none (has_bit bits i)
gathered_from lines bits i (route ∷ later) [] = or_none (has_bit bits i)
gathered_from lines bits i (route ∷ later) (bytes ∷ told) =
    gathered_from lines (with_bits_where (λ l. has_bit (bits_in bytes) l.at) (λ l. l.line) bits (lines_on (Get lines) route)) i later told
    ∙ (ap (λ a. a || was_told lines i later told) (bits_besides (λ l. has_bit (bits_in bytes) l.at) (λ l. l.line) bits i (lines_on (Get lines) route))
    ∙ or_on (has_bit bits i) (has_line i (bits_in bytes) (lines_on (Get lines) route)) (was_told lines i later told))

and_same : (b : Bool) → ((b && true) || false) ≡ b
and_same true = refl
and_same false = refl

and_other : (b c : Bool) → ((b && false) || c) ≡ c
and_other true c = refl
and_other false c = refl

-- the bit of a word at a position, if there is one
abbrev bit_in : ℕ → Option ℕ → Bool
bit_in word None = false
bit_in word (Some at) = has_bit word at

-- the position of the line at an offset, if there is one
abbrev position_of : ℕ → ℕ → Option ℕ → Option ℕ
position_of base count None = None
position_of base count (Some offset) = position_in base count offset

first_line : (i k word : ℕ) (at : Option ℕ) (rest : List LineAt) → has_line i word (line_at k at ++ rest) ≡ ((bit_in word at && (k == i)) || has_line i word rest)
first_line i k word None rest = refl
first_line i k word (Some at) rest = refl

-- the lines from position k on have no earlier position
no_earlier : (lines : Lines) (base count word i k : ℕ) (offsets : List ℕ) → i < k → has_line i word (lines_from (Get lines) base count k offsets) ≡ false
no_earlier lines base count word i k [] less = refl
no_earlier lines base count word i k (offset ∷ offsets) less =
    first_line i k word (position_in base count offset) (lines_from (Get lines) base count (k + 1) offsets)
    ∙ (ap (λ (b : Bool). (bit_in word (position_in base count offset) && b) || has_line i word (lines_from (Get lines) base count (k + 1) offsets)) (ne_eqb k i (λ e. absurd (omega (arith, e, less))))
    ∙ (and_other (bit_in word (position_in base count offset)) (has_line i word (lines_from (Get lines) base count (k + 1) offsets))
    ∙ no_earlier lines base count word i (k + 1) offsets (omega arith)))

-- the line at position k + j has the j-th of the offsets
line_is : (lines : Lines) (base count word k i : ℕ) (offsets : List ℕ) (j : ℕ) → k + j ≡ i → has_line i word (lines_from (Get lines) base count k offsets) ≡ bit_in word (position_of base count (slice_get offsets j))
line_is lines base count word k i [] j at = refl
line_is lines base count word k i (offset ∷ offsets) zero at =
    first_line i k word (position_in base count offset) (lines_from (Get lines) base count (k + 1) offsets)
    ∙ (ap (λ (b : Bool). (bit_in word (position_in base count offset) && b) || has_line i word (lines_from (Get lines) base count (k + 1) offsets)) (eq-eqb k i (omega (arith, at)))
    ∙ (ap (λ (b : Bool). (bit_in word (position_in base count offset) && true) || b) (no_earlier lines base count word i (k + 1) offsets (omega (arith, at)))
    ∙ and_same (bit_in word (position_in base count offset))))
line_is lines base count word k i (offset ∷ offsets) (suc j) at =
    first_line i k word (position_in base count offset) (lines_from (Get lines) base count (k + 1) offsets)
    ∙ (ap (λ (b : Bool). (bit_in word (position_in base count offset) && b) || has_line i word (lines_from (Get lines) base count (k + 1) offsets)) (ne_eqb k i (λ e. absurd (omega (arith, e, at))))
    ∙ (and_other (bit_in word (position_in base count offset)) (has_line i word (lines_from (Get lines) base count (k + 1) offsets))
    ∙ line_is lines base count word (k + 1) i offsets j (omega (arith, at))))

line_on : (lines : Lines) (route : Route) (word i : ℕ) → has_line i word (lines_on (Get lines) route) ≡ bit_in word (position_of route.base route.target.lines.count (slice_get (offsets_of lines) i))
line_on lines route word i = line_is lines route.base route.target.lines.count word 0 i (offsets_of lines) i (omega arith)

-- past the lines nothing was told
none_past : (lines : Lines) (i : ℕ) → slice_get (offsets_of lines) i ≡ None → (found : List Route) (told : List (List ℕ)) → was_told lines i found told ≡ false
none_past lines i none [] told = refl
none_past lines i none (route ∷ later) [] = refl
none_past lines i none (route ∷ later) (bytes ∷ told) =
    ap (λ (b : Bool). b || was_told lines i later told)
    (line_on lines route (bits_in bytes) i ∙ ap (λ (o : Option ℕ). bit_in (bits_in bytes) (position_of route.base route.target.lines.count o)) none)
    ∙ none_past lines i none later told

module _ (lines : Lines) (i offset : ℕ) (is : slice_get (offsets_of lines) i ≡ Some offset) where
  line_there : (route : Route) (word : ℕ) → has_line i word (lines_on (Get lines) route) ≡ bit_in word (position_in route.base route.target.lines.count offset)
  line_there route word = line_on lines route word i ∙ ap (λ (o : Option ℕ). bit_in word (position_of route.base route.target.lines.count o)) is

  -- no target has a line of those before it
  none_first : (route : Route) (later : List Route) → position_in route.base route.target.lines.count offset ≡ None → ((told : List (List ℕ)) → was_told lines i later told ≡ false)
      → (told : List (List ℕ)) → was_told lines i (route ∷ later) told ≡ false
  none_first route later none others [] = refl
  none_first route later none others (bytes ∷ told) =
      ap (λ (b : Bool). b || was_told lines i later told) (line_there route (bits_in bytes) ∙ ap (λ (o : Option ℕ). bit_in (bits_in bytes) o) none) ∙ others told

  none_told : (base : ℕ) (targets : List Target) → offset < base → (told : List (List ℕ)) → was_told lines i (routes_from (Get lines) base targets) told ≡ false
  none_told base [] less told = refl
  none_told base (target ∷ targets) less told =
      elim (is_visited (lines_on (Get lines) (route_to target base))) as (λ b. (told : List (List ℕ)) → was_told lines i ((if b then route_to target base ∷ [] else []) ++ routes_from (Get lines) (base + target.lines.count) targets) told ≡ false) [
        | true ↦ none_first (route_to target base) (routes_from (Get lines) (base + target.lines.count) targets) (position_before base target.lines.count offset less) (none_told (base + target.lines.count) targets (omega arith))
        | false ↦ none_told (base + target.lines.count) targets (omega arith)
      ] told

  -- the target that has the line is the only one
  only_one : (at : Option ℕ) (bytes : List ℕ) (later one : Bool) → later ≡ one → later ≡ false → (bit_in (bits_in bytes) at || later) ≡ bit_there at bytes one
  only_one None bytes later one same none = same
  only_one (Some at) bytes later one same none = ap (λ (b : Bool). has_bit (bits_in bytes) at || b) none ∙ sym (or_none (has_bit (bits_in bytes) at))

  not_this : (at : Option ℕ) (bytes : List ℕ) (later one : Bool) → at ≡ None → later ≡ one → (bit_in (bits_in bytes) at || later) ≡ bit_there at bytes one
  not_this at bytes later one none same = subst (λ (o : Option ℕ). (bit_in (bits_in bytes) o || later) ≡ bit_there o bytes one) (sym none) same

  first_told : (route : Route) (targets : List Target) → ((told : List (List ℕ)) → was_told lines i (routes_from (Get lines) (route.base + route.target.lines.count) targets) told ≡ told_bit offset (routes_from (Get lines) (route.base + route.target.lines.count) targets) told)
      → (told : List (List ℕ)) → was_told lines i (route ∷ routes_from (Get lines) (route.base + route.target.lines.count) targets) told ≡ told_bit offset (route ∷ routes_from (Get lines) (route.base + route.target.lines.count) targets) told
  first_told route targets same [] = refl
  first_told route targets same (bytes ∷ told) =
      ap (λ (b : Bool). b || was_told lines i (routes_from (Get lines) (route.base + route.target.lines.count) targets) told) (line_there route (bits_in bytes))
      ∙ (elim (cases_lt offset (route.base + route.target.lines.count)) as (λ _. (bit_in (bits_in bytes) (position_in route.base route.target.lines.count offset) || was_told lines i (routes_from (Get lines) (route.base + route.target.lines.count) targets) told) ≡ bit_there (position_in route.base route.target.lines.count offset) bytes (told_bit offset (routes_from (Get lines) (route.base + route.target.lines.count) targets) told)) [
        | inl less ↦ only_one (position_in route.base route.target.lines.count offset) bytes (was_told lines i (routes_from (Get lines) (route.base + route.target.lines.count) targets) told) (told_bit offset (routes_from (Get lines) (route.base + route.target.lines.count) targets) told) (same told) (none_told (route.base + route.target.lines.count) targets less told)
        | inr past ↦ not_this (position_in route.base route.target.lines.count offset) bytes (was_told lines i (routes_from (Get lines) (route.base + route.target.lines.count) targets) told) (told_bit offset (routes_from (Get lines) (route.base + route.target.lines.count) targets) told) (position_behind route.base route.target.lines.count offset past) (same told)
      ])

  same_told : (base : ℕ) (targets : List Target) → (told : List (List ℕ)) → was_told lines i (routes_from (Get lines) base targets) told ≡ told_bit offset (routes_from (Get lines) base targets) told
  same_told base [] told = refl
  same_told base (target ∷ targets) told =
      elim (is_visited (lines_on (Get lines) (route_to target base))) as (λ b. (told : List (List ℕ)) → was_told lines i ((if b then route_to target base ∷ [] else []) ++ routes_from (Get lines) (base + target.lines.count) targets) told
      ≡ told_bit offset ((if b then route_to target base ∷ [] else []) ++ routes_from (Get lines) (base + target.lines.count) targets) told) [
        | true ↦ first_told (route_to target base) targets (same_told (base + target.lines.count) targets)
        | false ↦ same_told (base + target.lines.count) targets
      ] told

told_once : (lines : Lines) (targets : List Target) (told : List (List ℕ)) (i : ℕ) (found : Option ℕ) → slice_get (offsets_of lines) i ≡ found
    → was_told lines i (routes_from (Get lines) 0 targets) told ≡ told_bit_of found (routes_from (Get lines) 0 targets) told
told_once lines targets told i None is = none_past lines i is (routes_from (Get lines) 0 targets) told
told_once lines targets told i (Some offset) is = same_told lines i offset is 0 targets told

nothing_set : (lines : Lines) (mask bits : ℕ) (found : List Route) (told : List (List ℕ)) → gather_on (Set lines mask bits) 0 found told ≡ 0
nothing_set lines mask bits [] told = refl
nothing_set lines mask bits (route ∷ later) [] = refl
nothing_set lines mask bits (route ∷ later) (bytes ∷ told) = nothing_set lines mask bits later told

nothing_applied : (lines : Lines) (settings : Resolved) (found : List Route) (told : List (List ℕ)) → gather_on (Apply lines settings) 0 found told ≡ 0
nothing_applied lines settings [] told = refl
nothing_applied lines settings (route ∷ later) [] = refl
nothing_applied lines settings (route ∷ later) (bytes ∷ told) = nothing_applied lines settings later told

pub gathered_bits : GatheredBits
gathered_bits = record {
  of_get = λ map lines told i. gathered_from lines 0 i (routes map (Get lines)) told
      ∙ (ap (λ a. (a == 1) || was_told lines i (routes map (Get lines)) told) (bit_at-zero i) ∙ told_once lines (targets_of map) told i (slice_get (offsets_of lines) i) refl);
  of_set = λ map lines mask bits told. nothing_set lines mask bits (routes map (Set lines mask bits)) told;
  of_apply = λ map lines settings told. nothing_applied lines settings (routes map (Apply lines settings)) told;
}

-- the first of two, where there is no period
without_period : {A : Type 0} (n : ℕ) (hard : Bool) (x y : A) → n ≡ 0 → (if n == 0 || hard then x else y) ≡ x
without_period n hard x y none = ap (λ m. if m == 0 || hard then x else y) none

of_line : (place : ℕ) (lines : Lines) (w : World) (map : Map) (told : List (List ℕ)) (i : ℕ) → kind_at w place ≡ Remote → (levels_of place lines w i).debounce_us ≡ 0
    → value_of place lines (gather map (Get lines) told) w i ≡ told_bit_of (slice_get (offsets_of lines) i) (routes map (Get lines)) told
of_line place lines w map told i remote none =
    without_period (levels_of place lines w i).debounce_us _ _ _ none
    ∙ (ap (λ (k : Kind). value_on k (levels_of place lines w i) (has_bit (gather map (Get lines) told) i)) remote ∙ gathered_bits.of_get map lines told i)

pub get_gives_bits : GetGivesBits
get_gives_bits = record {
  of_line = of_line;
  of_word = λ place lines mask w map told i less remote none. has_bit_where (λ j. has_bit mask j && value_of place lines (gather map (Get lines) told) w j) lines.count i less
      ∙ ap (λ (b : Bool). has_bit mask i && b) (of_line place lines w map told i remote none);
}
