-- the actors so far are at their end
use Rattle.std.proofs.Common.{◌≡◌, true, ℕ, List}
use Rattle.gl_script.specs.Section.{SaidSection}
use Rattle.gl_check.specs.Judging.{AreSeats}
use Rattle.gl_check.specs.Misfit.{all_ended}
use Rattle.gl_check.specs.Seats.{Seat}
use Rattle.gl_check.proofs.judge.all_ended.Given as goal

abbrev pub invariant-loop-i : goal.invariant-loop-i
invariant-loop-i l = (sections : List SaidSection) (others : ℕ → Seat) → AreSeats sections l.seats others → all_ended l.i others ≡ true
