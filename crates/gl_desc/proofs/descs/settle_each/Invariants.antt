use Rattle.std.proofs.Common.{◌≡◌, drop}
use Rattle.gl_base.specs.Positions.{change_each}
use Rattle.gl_desc.specs.Desc.{first_desc, settled}
use Rattle.gl_desc.proofs.descs.settle_each.Given as goal

-- what is left to change makes of the lines what was to be made of them
abbrev pub invariant-loop-offset : goal.invariant-loop-offset
invariant-loop-offset l =
    change_each first_desc (drop l.offset-index l.offsets) settled l.descs ≡ change_each first_desc l.offsets settled l.initial.descs
