-- What a request keeps of its edges.
use Rattle.std.specs.Prelude.{ℕ, Bool, ◌≡◌, ◌%◌, ◌^◌, ◌<◌, ◌≤◌, List, length, slice_index}
use Rattle.circular_buffer.specs.Buffer.{buffer}
use Rattle.gl_base.specs.declared.limits.TheConstants.{LINES_PER_REQUEST}
use Rattle.gl_ring.specs.Edges.{Edge, events_of, line_count}
use Rattle.gl_ring.specs.Waiting.{waiting}
use Rattle.gl_request.specs.declared.row.RequestRow.{RequestRow}

-- The request keeps these edges, of which the first `next` no longer wait: of their numbers what is below
-- 2 ^ 32, and of their events those that wait. The counts past its lines are 0.
pub record KeepsEdges (row : RequestRow) (edges : List Edge) (next : ℕ) : Type 0 where
  pub count : row.count ≡ length edges % 2 ^ 32
  pub slots : length row.line_counts ≡ LINES_PER_REQUEST
  pub few : row.lines.count ≤ LINES_PER_REQUEST
  pub line_counts : (i : ℕ) → i < row.lines.count → slice_index row.line_counts i ≡ line_count (slice_index row.lines.offsets i) edges % 2 ^ 32
  pub other_counts : (i : ℕ) → row.lines.count ≤ i → slice_index row.line_counts i ≡ 0
  pub ring : row.ring ≡ buffer (waiting (record { all = events_of edges; next = next })) row.ring.capacity
  pub within : next ≤ length edges

-- the edge that comes to the line at position i of the request
abbrev pub edge_of : ℕ → Bool → ℕ → RequestRow → Edge
edge_of i rising timestamp row = record { timestamp = timestamp; rising = rising; offset = slice_index row.lines.offsets i }
