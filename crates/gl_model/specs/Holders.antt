-- Which request has which line: no line stands in two requests, and the lines of a request are claimed or held by just it.
-- From the kernel's document on the GPIO character device; how files are numbered is this project's choice.
use Rattle.std.specs.Prelude.{◌≡◌, ℕ, ◌<◌, Bool, true, false, nat_eq, ◌==◌, ◌&&◌, if◌then◌else◌, List, ◌++◌, length, map, Option, Some, None}
use Rattle.std.specs.List.{IsDistinct, list_any}
use Rattle.gl_base.specs.Lines.{offsets_of}
use Rattle.gl_base.specs.Rows.{Each}
use Rattle.gl_desc.specs.Desc.{desc_at}
use Rattle.gl_desc.specs.declared.desc.Holder.{Holder}
use Rattle.gl_desc.specs.declared.desc.Holder.TheVariants.{Free, Claimed, Held, Hog}
use Rattle.gl_watch.specs.declared.file.ChipFile.{ChipFile}
use Rattle.gl_world.specs.declared.history.Entry.{Entry}
use Rattle.gl_model.specs.declared.call.Call.{Call}
use Rattle.gl_model.specs.declared.gift.Gift.{Gift}
use Rattle.gl_model.specs.declared.reply.Reply.{Reply}
use Rattle.gl_model.specs.Machine.{IsLegal, world_of}
use Rattle.gl_model.specs.Places.{place_at}
use Rattle.gl_model.specs.Step.{step}
use Rattle.gl_model.specs.World.{World, Request, request_at}

-- the numbers of the requests and of the chip files
abbrev pub file_numbers : World → List ℕ
file_numbers w = map (λ (request : Request). request.fd) w.requests ++ map (λ (file : ChipFile). file.fd) w.files

-- the line at an offset is one of the request's
abbrev pub has_line : ℕ → Request → Bool
has_line offset request = list_any (nat_eq offset) (offsets_of request.lines)

-- who has the line at an offset of a place
abbrev pub holder_at : World → ℕ → ℕ → Holder
holder_at w place offset = (desc_at (place_at w place).descs offset).holder

-- who has the lines of a request: it holds them, or has claimed them and isn't finished
abbrev pub holder_of : Request → Holder
holder_of request = if request.held then Held request.fd else Claimed request.fd

-- each line of a request is a line of the chip at its place, and this request has it
abbrev pub HasItsLines : World → Request → Type 0
HasItsLines w request = (offset : ℕ) → has_line offset request ≡ true
    → (offset < length (place_at w request.place).descs) × (holder_at w request.place offset ≡ holder_of request)

-- the number of the request that has claimed a line or holds it
abbrev pub taken_by : Holder → Option ℕ
taken_by Free = None
taken_by (Claimed fd) = Some fd
taken_by (Held fd) = Some fd
taken_by Hog = None

-- there is a request, and the line at an offset of a place is one of its lines
abbrev pub has_line_at : ℕ → ℕ → Option Request → Bool
has_line_at place offset None = false
has_line_at place offset (Some request) = (request.place == place) && has_line offset request

-- Requests and lines agree on who has what.
pub record HoldersAgree (w : World) : Type 0 where
  -- the numbers of requests and of chip files are all different, and below the next number
  pub numbers_differ : IsDistinct nat_eq (file_numbers w)
  pub numbers_below : Each (λ fd. fd < w.next) (file_numbers w)
  -- each request has its lines
  pub requests_have : Each (HasItsLines w) w.requests
  -- a line that the request of a number has claimed or holds is one of the lines of that request
  pub requests_name : (place offset fd : ℕ) → taken_by (holder_at w place offset) ≡ Some fd
      → has_line_at place offset (request_at w.requests fd) ≡ true

-- each call keeps that true
abbrev pub HoldersStayAgreed : Type 0
HoldersStayAgreed = (w : World) (actor : ℕ) (call : Call) → HoldersAgree w → HoldersAgree (step w actor call).world

-- two requests have a line in common
abbrev pub share_line : Request → Request → Bool
share_line request other = (request.place == other.place) && list_any (λ offset. has_line offset other) (offsets_of request.lines)

module _ {K : Type 0} (stands_for : K → World → Type 0) where
  -- it is true of each world that a legal history leads to
  abbrev pub HoldersAlwaysAgree : Type 0
  HoldersAlwaysAgree = (history : List (Entry K Call Reply Gift)) → IsLegal stands_for history → HoldersAgree (world_of stands_for history)

  -- no two requests of a world that a legal history leads to have a line in common, be they claims or holds
  abbrev pub NoLineIsShared : Type 0
  NoLineIsShared = (history : List (Entry K Call Reply Gift)) → IsLegal stands_for history → IsDistinct share_line (world_of stands_for history).requests
