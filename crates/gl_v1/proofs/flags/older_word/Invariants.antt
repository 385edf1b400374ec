use Rattle.std.proofs.Common.{◌≡◌, drop}
use Rattle.gl_v1.specs.Flags.{older}
use Rattle.gl_v1.proofs.flags.older_word.Given as goal

-- the flags so far, and those of what is left of the table, are all flags
abbrev pub invariant-loop-i : goal.invariant-loop-i
invariant-loop-i l = older (drop l.i l.table) l.word l.flags ≡ older l.table l.word 0
