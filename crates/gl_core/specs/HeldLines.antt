-- Which lines a request has, as far as the tables tell it: what is to be known where an edge of a line comes to the request that
-- holds it.
use Rattle.std.specs.Prelude.{◌≡◌, ℕ, Bool, true, false, nat_eq, List, Option, Some, None, slice_index_or}
use Rattle.std.specs.List.{list_any}
use Rattle.gl_base.specs.Lines.{offsets_of}
use Rattle.gl_desc.specs.Desc.{desc_at}
use Rattle.gl_request.specs.Request.{noted, request_at}
use Rattle.gl_request.specs.declared.row.RequestRow.{RequestRow}
use Rattle.gl_model.specs.declared.place.Place.{Place}
use Rattle.gl_model.specs.Edges.{position_in, request_number}
use Rattle.gl_model.specs.Places.{no_place}

-- there is a request, and the line at an offset is one of its lines
abbrev pub is_line_of : ℕ → Option RequestRow → Bool
is_line_of offset None = false
is_line_of offset (Some row) = list_any (nat_eq offset) (offsets_of row.lines)

-- a line that the request of a number holds is one of the lines of that request
pub record HoldersHaveLines (places : List Place) (requests : List RequestRow) : Type 0 where
  pub have : (place offset fd : ℕ) → request_number (desc_at (slice_index_or places place no_place).descs offset).holder ≡ Some fd
      → is_line_of offset (request_at requests fd) ≡ true

-- a request after an edge of its line at an offset
abbrev pub noted_at : ℕ → Bool → ℕ → RequestRow → RequestRow
noted_at offset rising timestamp row = noted (position_in offset row.lines) rising timestamp row
