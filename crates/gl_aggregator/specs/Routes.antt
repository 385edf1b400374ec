-- Where the lines of an operation on an aggregated chip go: line o of the chip is the o-th of its targets' lines, joined in order. This is
-- what the kernel's gpio-aggregator makes of lines of several chips.
use Rattle.std.specs.Prelude.{ℕ, ◌+◌, ◌-◌, ◌^◌, ◌≤◌, Bool, true, false, ◌&&◌, nat_le, nat_lt, if◌then◌else◌, List, [], ◌∷◌, ◌++◌, Option, Some, None, bit_or}
use Rattle.gl_base.specs.Bits.{has_bit}
use Rattle.gl_base.specs.Lines.{IsLineCount, offsets_of}
use Rattle.gl_base.specs.declared.lines.Lines.{Lines}
use Rattle.gl_base.specs.declared.op.Op.{Op}
use Rattle.gl_base.specs.declared.op.Op.TheVariants.{Apply, Get, Set}
use Rattle.gl_driver.specs.Maps.{FitsTarget, targets_of}
use Rattle.gl_driver.specs.declared.map.Map.{Map}
use Rattle.gl_driver.specs.declared.map.Target.{Target}
use Rattle.gl_aggregator.specs.declared.routes.Route.{Route}

-- a line of an operation that is a target's: its position in the operation, and its position in the target's request
pub record LineAt : Type 0 where
  pub line : ℕ
  pub at : ℕ

-- the position in a target's request of the line at an offset of the chip, where the targets before it have `base` lines and it has `count`
abbrev pub position_in : ℕ → ℕ → ℕ → Option ℕ
position_in base count offset = if nat_le base offset && nat_lt offset (base + count) then Some (offset - base) else None

-- the lines of an operation
abbrev pub lines_of : Op → Lines
lines_of (Get lines) = lines
lines_of (Set lines mask bits) = lines
lines_of (Apply lines settings) = lines

-- the operation does something with its line at position i: of a Set the masked ones
abbrev pub is_meant : Op → ℕ → Bool
is_meant (Get lines) i = true
is_meant (Set lines mask bits) i = has_bit mask i
is_meant (Apply lines settings) i = true

abbrev pub line_at : ℕ → Option ℕ → List LineAt
line_at i None = []
line_at i (Some at) = record { line = i; at = at } ∷ []

-- the same for the line at position i of an operation, where the operation means it
abbrev pub position_at : Op → ℕ → ℕ → ℕ → ℕ → Option ℕ
position_at op base count i offset = if is_meant op i then position_in base count offset else None

-- the lines at these offsets, from position i of an operation on, that it means and that are a target's
abbrev pub lines_from : Op → ℕ → ℕ → ℕ → List ℕ → List LineAt
lines_from op base count i [] = []
lines_from op base count i (offset ∷ offsets) = line_at i (position_at op base count i offset) ++ lines_from op base count (i + 1) offsets

-- the lines of an operation that are a target's
abbrev pub lines_on : Op → Route → List LineAt
lines_on op route = lines_from op route.base route.target.lines.count 0 (offsets_of (lines_of op))

-- a word with besides the bit `bit l` of each of these lines that passes the test
abbrev pub with_bits_where : (LineAt → Bool) → (LineAt → ℕ) → ℕ → List LineAt → ℕ
with_bits_where test bit word [] = word
with_bits_where test bit word (l ∷ ls) = with_bits_where test bit (bit_or word (if test l then 2 ^ bit l else 0)) ls

-- the word of just these bits
abbrev pub word_where : (LineAt → Bool) → (LineAt → ℕ) → List LineAt → ℕ
word_where test bit lines = with_bits_where test bit 0 lines

-- a target is visited that has one of the lines
abbrev pub is_visited : List LineAt → Bool
is_visited [] = false
is_visited (l ∷ ls) = true

abbrev pub route_if_any : Route → List LineAt → List Route
route_if_any route lines = if is_visited lines then route ∷ [] else []

abbrev pub route_to : Target → ℕ → Route
route_to target base = record { target = target; base = base }

-- the targets that an operation visits, in order, where those before them have `base` lines
abbrev pub routes_from : Op → ℕ → List Target → List Route
routes_from op base [] = []
routes_from op base (target ∷ targets) =
    route_if_any (route_to target base) (lines_on op (route_to target base)) ++ routes_from op (base + target.lines.count) targets

abbrev pub routes : Map → Op → List Route
routes map op = routes_from op 0 (targets_of map)

-- a route leads to a request of 1 to 64 lines, behind those of three others at most
pub record IsRoute (route : Route) : Type 0 where
  pub base : route.base ≤ 192
  pub lines : IsLineCount route.target.lines.count

-- and its target is one that a map of this place may have
pub record FitsRoute (place : ℕ) (route : Route) : Type 0 where
  pub is_route : IsRoute route
  pub target : FitsTarget place route.target
