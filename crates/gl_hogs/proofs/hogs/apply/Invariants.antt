use Rattle.std.proofs.Common.{◌≡◌, drop}
use Rattle.gl_hogs.specs.Hogs.{hogged_descs, hogged_bank}
use Rattle.gl_hogs.proofs.hogs.apply.Given as goal

-- the hogs that are left make of the lines what all of them make
abbrev pub invariant-loop-hog : goal.invariant-loop-hog
invariant-loop-hog l =
    (hogged_descs (drop l.hog-index l.hogs) l.descs ≡ hogged_descs l.hogs l.initial.descs) × (hogged_bank (drop l.hog-index l.hogs) l.bank ≡ hogged_bank l.hogs l.initial.bank)
