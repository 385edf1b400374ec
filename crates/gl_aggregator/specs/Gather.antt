-- Gather: what an operation on an aggregated chip is answered, of what was written at the tells of its targets.
use Rattle.std.specs.Prelude.{◌≡◌, ℕ, ◌<◌, Bool, false, ◌&&◌, List, [], ◌∷◌, Option, Some, None, slice_get}
use Rattle.gl_base.specs.Bits.{has_bit}
use Rattle.gl_base.specs.Lines.{offsets_of}
use Rattle.gl_base.specs.declared.kind.Kind.TheVariants.{Remote}
use Rattle.gl_base.specs.declared.lines.Lines.{Lines}
use Rattle.gl_base.specs.declared.op.Op.{Op}
use Rattle.gl_base.specs.declared.op.Op.TheVariants.{Apply, Get, Set}
use Rattle.gl_base.specs.declared.settings.Resolved.{Resolved}
use Rattle.gl_driver.specs.declared.map.Map.{Map}
use Rattle.gl_model.specs.Places.{kind_at}
use Rattle.gl_model.specs.Values.{bits_in, levels_of, value_of, values_of}
use Rattle.gl_model.specs.World.{World}
use Rattle.gl_aggregator.specs.Routes.{LineAt, lines_on, position_in, routes, with_bits_where}
use Rattle.gl_aggregator.specs.declared.routes.Route.{Route}

-- The bits of an operation with those besides that one target's word gives: for a Get the bits of the target's lines, for a Set and an Apply
-- none. A bit of the word is a line of the target's request.
abbrev pub with_bits_from : Op → ℕ → ℕ → List LineAt → ℕ
with_bits_from (Get lines) bits word ls = with_bits_where (λ l. has_bit word l.at) (λ l. l.line) bits ls
with_bits_from (Set lines mask values) bits word ls = bits
with_bits_from (Apply lines settings) bits word ls = bits

-- The same behind the visit of a target: by the word that the visit gave, and none where it gave none, as then the call fails.
abbrev pub gathered_behind : Op → ℕ → Option ℕ → List LineAt → Option ℕ
gathered_behind op bits None ls = None
gathered_behind op bits (Some word) ls = Some (with_bits_from op bits word ls)

-- the bits with those besides that are gathered of what was written at these targets' tells
abbrev pub gather_on : Op → ℕ → List Route → List (List ℕ) → ℕ
gather_on op bits [] told = bits
gather_on op bits (route ∷ later) [] = bits
gather_on op bits (route ∷ later) (bytes ∷ told) = gather_on op (with_bits_from op bits (bits_in bytes) (lines_on op route)) later told

-- For a Get bit i is the bit of its target's line in the bytes that were written at that target's tell, and 0 where no target has the line. For a
-- Set and an Apply it is 0.
abbrev pub gather : Map → Op → List (List ℕ) → ℕ
gather map op told = gather_on op 0 (routes map op) told

-- the bit at the line's position in what a target's tell wrote; where the target hasn't the line, what the later ones say
abbrev pub bit_there : Option ℕ → List ℕ → Bool → Bool
bit_there None bytes later = later
bit_there (Some at) bytes later = has_bit (bits_in bytes) at

-- The bit of the line at an offset of the chip, in what was written at the tell of the target that has the line. It is 0 where none has it.
abbrev pub told_bit : ℕ → List Route → List (List ℕ) → Bool
told_bit offset [] told = false
told_bit offset (route ∷ later) [] = false
told_bit offset (route ∷ later) (bytes ∷ told) = bit_there (position_in route.base route.target.lines.count offset) bytes (told_bit offset later told)

-- the same of the line at position i of an operation, whose offset this is, and 0 past the lines
abbrev pub told_bit_of : Option ℕ → List Route → List (List ℕ) → Bool
told_bit_of None found told = false
told_bit_of (Some offset) found told = told_bit offset found told

-- A Get is answered the bits that were written at the tells, each that of its line and of no other; a Set and an Apply are answered 0.
pub record GatheredBits : Type 0 where
  pub of_get : (map : Map) (lines : Lines) (told : List (List ℕ)) (i : ℕ)
      → has_bit (gather map (Get lines) told) i ≡ told_bit_of (slice_get (offsets_of lines) i) (routes map (Get lines)) told
  pub of_set : (map : Map) (lines : Lines) (mask bits : ℕ) (told : List (List ℕ)) → gather map (Set lines mask bits) told ≡ 0
  pub of_apply : (map : Map) (lines : Lines) (settings : Resolved) (told : List (List ℕ)) → gather map (Apply lines settings) told ≡ 0

-- So GET_VALUES on a remote chip whose driver answered what was gathered gives, in any world, for a line without a debounce period the bit that was
-- written for it at a tell; and the word that it writes has just these bits of the lines that are asked for.
pub record GetGivesBits : Type 0 where
  pub of_line : (place : ℕ) (lines : Lines) (w : World) (map : Map) (told : List (List ℕ)) (i : ℕ) → kind_at w place ≡ Remote → (levels_of place lines w i).debounce_us ≡ 0
      → value_of place lines (gather map (Get lines) told) w i ≡ told_bit_of (slice_get (offsets_of lines) i) (routes map (Get lines)) told
  pub of_word : (place : ℕ) (lines : Lines) (mask : ℕ) (w : World) (map : Map) (told : List (List ℕ)) (i : ℕ) → i < lines.count → kind_at w place ≡ Remote → (levels_of place lines w i).debounce_us ≡ 0
      → has_bit (values_of place lines mask (gather map (Get lines) told) w) i ≡ (has_bit mask i && told_bit_of (slice_get (offsets_of lines) i) (routes map (Get lines)) told)
