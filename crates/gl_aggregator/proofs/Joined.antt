-- A line of an aggregated chip is in one target at most.
use Rattle.std.proofs.Common.{◌≡◌, ℕ, zero, suc, ◌+◌, ◌-◌, ◌<◌, ◌≤◌, Bool, List, [], ◌∷◌, ◌++◌, Option, Some, None, inl, inr, refl, sym, ap, ◌∙◌, arith}
use Rattle.std.specs.Prelude.{◌&&◌, nat_lt, if◌then◌else◌, slice_get}
use Rattle.std.proofs.lemmas.Bool.{cases_lt, le-leb, le-ltb, lt-leb, lt-ltb}
use Rattle.gl_driver.specs.declared.map.Target.{Target}
use Rattle.gl_aggregator.specs.Joined.{LinesAreInOneTarget, TargetLine, held_by, holders_from, joined_from, one_or_none, target_lines}
use Rattle.gl_aggregator.specs.Routes.{position_in}

-- the line is one of the targets before, of a later one, or of this one
pub position_before : (base count offset : ℕ) → offset < base → position_in base count offset ≡ None
position_before base count offset less = ap (λ (b : Bool). if b && nat_lt offset (base + count) then Some (offset - base) else None) (lt-leb base offset less)

pub position_behind : (base count offset : ℕ) → base + count ≤ offset → position_in base count offset ≡ None
position_behind base count offset past =
    ap (λ (b : Bool). if b && nat_lt offset (base + count) then Some (offset - base) else None) (le-leb base offset (omega arith))
    ∙ ap (λ (b : Bool). if b then Some (offset - base) else None) (le-ltb offset (base + count) past)

pub position_within : (base count offset : ℕ) → base ≤ offset → offset < base + count → position_in base count offset ≡ Some (offset - base)
position_within base count offset more less =
    ap (λ (b : Bool). if b && nat_lt offset (base + count) then Some (offset - base) else None) (le-leb base offset more)
    ∙ ap (λ (b : Bool). if b then Some (offset - base) else None) (lt-ltb offset (base + count) less)

abbrev line_of : ℕ → ℕ → TargetLine
line_of number at = record { target = number; at = at }

joined_within : (number at left : ℕ) (rest : List TargetLine) (offset : ℕ) → offset < left → slice_get (target_lines number at left ++ rest) offset ≡ Some (line_of number (at + offset))
joined_within number at zero rest offset less = absurd (omega arith)
joined_within number at (suc left) rest zero less = let e : at ≡ at + 0 = omega arith in ap (λ n. Some (line_of number n)) e
joined_within number at (suc left) rest (suc offset) less =
    let e : (at + 1) + offset ≡ at + suc offset = omega arith in joined_within number (at + 1) left rest offset (omega arith) ∙ ap (λ n. Some (line_of number n)) e

joined_behind : (number at left : ℕ) (rest : List TargetLine) (offset : ℕ) → left ≤ offset → slice_get (target_lines number at left ++ rest) offset ≡ slice_get rest (offset - left)
joined_behind number at zero rest offset past = let e : offset ≡ offset - 0 = omega arith in ap (λ n. slice_get rest n) e
joined_behind number at (suc left) rest zero past = absurd (omega arith)
joined_behind number at (suc left) rest (suc offset) past =
    let e : offset - left ≡ suc offset - suc left = omega arith in joined_behind number (at + 1) left rest offset (omega arith) ∙ ap (λ n. slice_get rest n) e

none_before : (offset number base : ℕ) (targets : List Target) → offset < base → holders_from offset number base targets ≡ []
none_before offset number base [] less = refl
none_before offset number base (target ∷ targets) less =
    ap (λ (o : Option ℕ). held_by number o ++ holders_from offset (number + 1) (base + target.lines.count) targets) (position_before base target.lines.count offset less)
    ∙ none_before offset (number + 1) (base + target.lines.count) targets (omega arith)

one_holder : (offset number base : ℕ) (targets : List Target) → base ≤ offset → holders_from offset number base targets ≡ one_or_none (slice_get (joined_from number targets) (offset - base))
one_holder offset number base [] more = refl
one_holder offset number base (target ∷ targets) more = elim (cases_lt offset (base + target.lines.count)) as (λ _. holders_from offset number base (target ∷ targets) ≡ one_or_none (slice_get (joined_from number (target ∷ targets)) (offset - base))) [
  | inl less ↦
      (let e : 0 + (offset - base) ≡ offset - base = omega arith in
      ap (λ (o : Option ℕ). held_by number o ++ holders_from offset (number + 1) (base + target.lines.count) targets) (position_within base target.lines.count offset more less)
      ∙ (ap (λ l. line_of number (offset - base) ∷ l) (none_before offset (number + 1) (base + target.lines.count) targets less)
      ∙ sym (ap one_or_none (joined_within number 0 target.lines.count (joined_from (number + 1) targets) (offset - base) (omega arith) ∙ ap (λ n. Some (line_of number n)) e))))
  | inr past ↦
      (let e : offset - (base + target.lines.count) ≡ (offset - base) - target.lines.count = omega arith in
      ap (λ (o : Option ℕ). held_by number o ++ holders_from offset (number + 1) (base + target.lines.count) targets) (position_behind base target.lines.count offset past)
      ∙ (one_holder offset (number + 1) (base + target.lines.count) targets past
      ∙ ap one_or_none (ap (λ n. slice_get (joined_from (number + 1) targets) n) e ∙ sym (joined_behind number 0 target.lines.count (joined_from (number + 1) targets) (offset - base) (omega arith)))))
]

pub lines_are_in_one_target : LinesAreInOneTarget
lines_are_in_one_target = record {
  holder = λ offset targets. let e : offset - 0 ≡ offset = omega arith in one_holder offset 0 0 targets (omega arith) ∙ ap (λ n. one_or_none (slice_get (joined_from 0 targets) n)) e;
}
