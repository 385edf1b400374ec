-- How the levels of a chip's lines agree with their holders. The kernel's document on the GPIO character device has a line's flags
-- stand while it is held; hogs are those of the document on gpio-sim.
use Rattle.std.specs.Prelude.{◌≡◌, ℕ, Bool, true, false, length}
use Rattle.gl_bank.specs.Level.{levels_at}
use Rattle.gl_bank.specs.declared.levels.Levels.{Levels}
use Rattle.gl_desc.specs.Desc.{desc_at}
use Rattle.gl_desc.specs.declared.desc.Holder.{Holder}
use Rattle.gl_desc.specs.declared.desc.Holder.TheVariants.{Free, Claimed, Held, Hog}
use Rattle.gl_model.specs.declared.call.Call.{Call}
use Rattle.gl_model.specs.declared.place.Place.{Place}
use Rattle.gl_model.specs.Holders.{HoldersAgree}
use Rattle.gl_model.specs.Machine.{Always, world_of}
use Rattle.gl_model.specs.Places.{place_at}
use Rattle.gl_model.specs.Step.{step}
use Rattle.gl_model.specs.World.{World, opening}

-- a request holds the line, or the board itself does
abbrev pub is_held_by : Holder → Bool
is_held_by Free = false
is_held_by (Claimed fd) = false
is_held_by (Held fd) = true
is_held_by Hog = true

-- a line is held in the bank exactly where it is held or hogged; and one that nobody holds has no flags and no period
pub record LineAgrees (holder : Holder) (line : Levels) : Type 0 where
  pub held : line.held ≡ is_held_by holder
  pub no_flags : line.held ≡ false → line.flags ≡ 0
  pub no_period : line.held ≡ false → line.debounce_us ≡ 0

-- the levels of a place are as many as its lines, and each agrees with its line's holder
pub record PlaceAgrees (place : Place) : Type 0 where
  pub as_many : length place.descs ≡ length place.bank
  pub lines : (offset : ℕ) → LineAgrees (desc_at place.descs offset).holder (levels_at place.bank offset)

-- so it is at every place
abbrev pub BanksAgree : World → Type 0
BanksAgree w = (place : ℕ) → PlaceAgrees (place_at w place)

-- At first, and each call keeps it so, where requests and lines agree on who has what. So it is after every legal history.
pub record BanksStayAgreed : Type 0 where
  pub opens : BanksAgree opening
  pub stay : (w : World) (actor : ℕ) (call : Call) → HoldersAgree w → BanksAgree w → BanksAgree (step w actor call).world

abbrev pub BanksAlwaysAgree : {K : Type 0} → (K → World → Type 0) → Type 0
BanksAlwaysAgree stands_for = Always stands_for (λ history. BanksAgree (world_of stands_for history))
