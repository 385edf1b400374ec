use Rattle.std.proofs.Common.{◌≡◌, drop}
use Rattle.gl_v1.specs.Flags.{newer}
use Rattle.gl_v1.proofs.flags.newer.Given as goal

-- the flags so far, and those of what is left of the table, are all flags
abbrev pub invariant-loop-i : goal.invariant-loop-i
invariant-loop-i l = newer (drop l.i l.table) l.word l.flags ≡ newer l.table l.word 0
