-- Who holds which line: a hold is a line of a request, which has claimed it or holds it, or a hog of the board. From the
-- kernel's documents on the GPIO character device and on gpio-sim.
use Rattle.std.specs.Prelude.{ℕ, ◌+◌, Bool, true, false, ◌==◌, ◌&&◌, if◌then◌else◌, List, [], ◌∷◌, ◌++◌, map, slice_index_or}
use Rattle.std.specs.List.{IsDistinct, flat_map}
use Rattle.gl_base.specs.Lines.{offsets_of}
use Rattle.gl_desc.specs.Desc.{desc_at}
use Rattle.gl_desc.specs.declared.desc.Desc.{Desc}
use Rattle.gl_desc.specs.declared.desc.Holder.{Holder}
use Rattle.gl_desc.specs.declared.desc.Holder.TheVariants.{Free, Claimed, Held, Hog}
use Rattle.gl_model.specs.declared.place.Place.{Place}
use Rattle.gl_model.specs.Holders.{holder_of}
use Rattle.gl_model.specs.Machine.{Always, world_of}
use Rattle.gl_model.specs.Places.{no_place}
use Rattle.gl_model.specs.World.{World, Request}

-- a hold of a line: the line, its consumer, and by whom it is held: claimed or held by a request of a number, or a hog
pub record Hold : Type 0 where
  pub place : ℕ
  pub offset : ℕ
  pub consumer : List ℕ
  pub holder : Holder

-- the hold of the line at an offset of a place, by this holder
abbrev pub hold_of : List Place → ℕ → Holder → ℕ → Hold
hold_of places place holder offset = record {
  place = place;
  offset = offset;
  consumer = (desc_at (slice_index_or places place no_place).descs offset).consumer;
  holder = holder;
}

-- the holds of a request: one for each line that it names
abbrev pub holds_of : List Place → Request → List Hold
holds_of places request = map (hold_of places request.place (holder_of request)) (offsets_of request.lines)

abbrev pub is_hog : Holder → Bool
is_hog Free = false
is_hog (Claimed fd) = false
is_hog (Held fd) = false
is_hog Hog = true

-- the hogs among some lines of a place, which stand from an offset on
abbrev pub hogs_from : ℕ → ℕ → List Desc → List Hold
hogs_from place offset [] = []
hogs_from place offset (line ∷ lines) =
    if is_hog line.holder then record { place = place; offset = offset; consumer = line.consumer; holder = Hog } ∷ hogs_from place (offset + 1) lines
    else hogs_from place (offset + 1) lines

-- the hogs among the lines of some places, from one on
abbrev pub hogs_at : ℕ → List Place → List Hold
hogs_at place [] = []
hogs_at place (tables ∷ places) = hogs_from place 0 tables.descs ++ hogs_at (place + 1) places

-- all holds of a world: the hogs, and what its requests have claimed or hold
abbrev pub holds : World → List Hold
holds w = hogs_at 0 w.places ++ flat_map (holds_of w.places) w.requests

-- two holds are of one line
abbrev pub is_same_line : Hold → Hold → Bool
is_same_line hold other = (hold.place == other.place) && (hold.offset == other.offset)

-- no two holds have the same place and offset, be they of one request, of two, or hogs
abbrev pub HasOneHolder : World → Type 0
HasOneHolder w = IsDistinct is_same_line (holds w)

-- so it is in each world that a legal history leads to, whatever happens
abbrev pub OneHolder : {K : Type 0} → (K → World → Type 0) → Type 0
OneHolder stands_for = Always stands_for (λ history. HasOneHolder (world_of stands_for history))
