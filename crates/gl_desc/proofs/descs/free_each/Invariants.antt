use Rattle.std.proofs.Common.{◌≡◌, drop}
use Rattle.gl_base.specs.Positions.{change_each}
use Rattle.gl_desc.specs.Desc.{first_desc, freed}
use Rattle.gl_desc.proofs.descs.free_each.Given as goal

-- what is left to change makes of the lines what was to be made of them
abbrev pub invariant-loop-offset : goal.invariant-loop-offset
invariant-loop-offset l =
    change_each first_desc (drop l.offset-index l.offsets) freed l.descs ≡ change_each first_desc l.offsets freed l.initial.descs
