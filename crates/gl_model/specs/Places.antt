-- The places of a world: each chip's kind, its number of lines and its lines' tables. That chips stand at places is this
-- project's choice, after the numbers of the kernel's GPIO chips.
use Rattle.std.specs.Prelude.{ℕ, [], None, slice_index_or}
use Rattle.gl_base.specs.Positions.{change_at}
use Rattle.gl_base.specs.declared.kind.Kind.{Kind}
use Rattle.gl_base.specs.declared.kind.Kind.TheVariants.{Simulated}
use Rattle.gl_pins.specs.Pins.{no_pins}
use Rattle.gl_registry.specs.Chips.{chip_at}
use Rattle.gl_model.specs.declared.place.Origin.{Origin}
use Rattle.gl_model.specs.declared.place.Place.{Place}
use Rattle.gl_model.specs.World.{World}

-- what stands for the tables of a place without a chip
abbrev pub no_place : Place
no_place = record { descs = []; bank = []; irqs = []; pins = no_pins }

-- what stands for the origin of a place without a chip
abbrev pub no_origin : Origin
no_origin = record { kind = Simulated; device = None; remover = None }

-- the tables of the lines of a place
abbrev pub place_at : World → ℕ → Place
place_at w place = slice_index_or w.places place no_place

-- where the chip of a place comes from, and who removes it
abbrev pub origin_at : World → ℕ → Origin
origin_at w place = slice_index_or w.origins place no_origin

-- whether the chip of a place is simulated or remote
abbrev pub kind_at : World → ℕ → Kind
kind_at w place = (origin_at w place).kind

-- how many lines the chip of a place has
abbrev pub lines_at : World → ℕ → ℕ
lines_at w place = (chip_at w.chips place).lines

-- the world with the tables of a place changed
abbrev pub with_place : ℕ → (Place → Place) → World → World
with_place place f w = record w { places = change_at no_place place f w.places }
