-- What a claim of lines needs, and what it takes of what a call brings.
use Rattle.std.specs.Prelude.{◌≡◌, ℕ, ◌+◌, ◌<◌, ◌^◌, if◌then◌else◌, List, length, take, slice_index_or, Option, Some, None}
use Rattle.gl_base.specs.declared.limits.TheConstants.{FILES_MAX}
use Rattle.gl_base.specs.Lines.{offsets_of}
use Rattle.gl_base.specs.Rows.{Each, change_first}
use Rattle.gl_desc.specs.Desc.{claim_fault, settled}
use Rattle.gl_request.specs.Request.{request_at as row_at, IsBelow}
use Rattle.gl_request.specs.declared.row.RequestAt.{RequestAt}
use Rattle.gl_request.specs.declared.row.RequestRow.{RequestRow}
use Rattle.gl_uapi.specs.declared.commands.Command.{Command}
use Rattle.gl_uapi.specs.declared.commands.Command.TheVariants.{GetLine}
use Rattle.gl_uapi.specs.declared.layout.TheConstants.{LINE_REQUEST_SIZE}
use Rattle.gl_model.specs.AskedLines.{AskedLines}
use Rattle.gl_model.specs.Claiming.{held, with_descs}
use Rattle.gl_model.specs.Entries.{is_get_line}
use Rattle.gl_model.specs.Fits.{HoldsRequest}
use Rattle.gl_model.specs.Places.{no_place, with_place}
use Rattle.gl_model.specs.World.{Request, World, has_number}
use Rattle.gl_model.specs.declared.call.Part.{Part}
use Rattle.gl_model.specs.declared.call.Part.TheVariants.{Whole, Ask, Tell}
use Rattle.gl_model.specs.declared.gift.Gift.{Gift}
use Rattle.gl_model.specs.declared.reply.Reply.{Reply}
use Rattle.gl_model.specs.declared.reply.Reply.TheVariants.{Go}
use Rattle.gl_core.specs.Kept.{Kept}

-- nobody has the lines that are asked for, and none of them stands twice
pub record AreFree (k : Kept) (place : ℕ) (asked : AskedLines) : Type 0 where
  pub place_within : place < length k.places
  pub faultless : claim_fault (slice_index_or k.places place no_place).descs asked.lines ≡ None

-- a request may be claimed: there is a number for one file more, and room for it, and the lines are free
pub record MayClaim (k : Kept) (place : ℕ) (asked : AskedLines) : Type 0 where
  pub next : k.next < 2 ^ 31
  pub room : length k.files + length k.requests < FILES_MAX
  pub free : AreFree k place asked

-- each request's number is below the next number of a file
pub record NumbersAreBelow (k : Kept) : Type 0 where
  pub each : Each (IsBelow k.next) k.requests

-- what is left of a ring that a request of lines brought: one that was answered Go took it
abbrev pub ring_left : {X : Type 0} → Reply → Option X → Option X
ring_left (Go number) ring = None
ring_left _ ring = ring

-- what is left of a gift after a request of lines: one that was answered Go took the ring
abbrev pub without_ring : Reply → Gift → Gift
without_ring (Go number) gift = record gift { ring = None }
without_ring _ gift = gift

-- the row of a request that a look-up found, if it found one
abbrev pub row_found : List RequestRow → Option RequestAt → Option RequestRow
row_found rows None = None
row_found rows (Some found) = row_at rows found.fd

-- the world in which the lines of a claim are held, not yet configured
abbrev pub settled_claim : Request → World → World
settled_claim request w =
    with_place request.place (with_descs (offsets_of request.lines) settled) (record w { requests = change_first (has_number request.fd) held w.requests })

-- what is left of a gift after a command in one of its parts: an ask of lines that was answered Go took the ring
abbrev pub left_by_part : Part → Reply → Gift → Gift
left_by_part Whole reply gift = gift
left_by_part Ask reply gift = without_ring reply gift
left_by_part (Tell answer) reply gift = gift

abbrev pub left_by : Command → Part → Reply → Gift → Gift
left_by command part reply gift = if is_get_line (Some command) then left_by_part part reply gift else gift

-- an ask of lines brings what it asks for
abbrev pub BringsItsRequest : Command → List ℕ → Part → Gift → Type 0
BringsItsRequest command bytes part gift = command ≡ GetLine → part ≡ Ask → HoldsRequest (take LINE_REQUEST_SIZE bytes) gift
