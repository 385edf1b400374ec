use Rattle.std.proofs.Common.{◌≡◌, length, vec_capacity}
use Rattle.gl_base.specs.declared.limits.TheConstants.{PLACES}
use Rattle.gl_core.specs.Shape.{AreNew}
use Rattle.gl_core.proofs.places.waiting_places.Given as goal

-- so many places so far, which are new, and room for all
abbrev pub invariant-loop-place : goal.invariant-loop-place
invariant-loop-place l = (length l.places.items ≡ l._place) × (vec_capacity l.places ≡ PLACES) × AreNew l.places.items
