-- the bits so far
use Rattle.std.proofs.Common.{◌≡◌, ◌<◌, ◌^◌}
use Rattle.std.specs.Prelude.{◌&&◌}
use Rattle.gl_base.specs.Bits.{has_bit}
use Rattle.gl_model.specs.Bits.{bits_where}
use Rattle.gl_model.specs.Values.{value_of}
use Rattle.gl_model.specs.World.{World}
use Rattle.gl_core.specs.Kept.{StandsFor}
use Rattle.gl_core.proofs.state.State.values_of.Given as goal

abbrev pub invariant-loop-i : goal.invariant-loop-i
invariant-loop-i l =
    (l.bits < 2 ^ l.i)
    × ((w : World) → StandsFor l.self w → l.bits ≡ bits_where (λ i. has_bit l.mask i && value_of l.place l.lines l.answered w i) l.i)
