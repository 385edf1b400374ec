use Rattle.std.proofs.Common.{◌≡◌, drop}
use Rattle.gl_bank.specs.Level.{first_levels, released}
use Rattle.gl_base.specs.Positions.{change_each}
use Rattle.gl_core.proofs.places.release_each.Given as goal

-- what is left to release makes the whole
abbrev pub invariant-loop-offset : goal.invariant-loop-offset
invariant-loop-offset l = change_each first_levels (drop l.offset-index l.offsets) released l.bank ≡ change_each first_levels l.offsets released l.initial.bank
