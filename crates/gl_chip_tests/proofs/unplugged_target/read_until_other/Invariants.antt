use Rattle.gl_chip.specs.Values.{IsActorOf}
use Rattle.gl_chip_tests.specs.Same.{IsSame}
use Rattle.gl_chip_tests.proofs.unplugged_target.read_until_other.Given as goal

-- the reader is an actor of the device, and the same as at first
abbrev pub invariant-loop : goal.invariant-loop
invariant-loop g l = record { of : IsActorOf l.gpio l.actor; same : IsSame l.initial.actor.pass.view l.actor.pass.view }
