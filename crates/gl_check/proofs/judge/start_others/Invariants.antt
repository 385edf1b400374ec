-- the actors so far
use Rattle.std.proofs.Common.{◌≡◌, length}
use Rattle.gl_script.specs.Script.{sections_of}
use Rattle.gl_check.specs.Judging.{AreSeats}
use Rattle.gl_check.specs.Misfit.{beginning}
use Rattle.gl_check.proofs.judge.start_others.Given as goal

abbrev pub invariant-loop-i : goal.invariant-loop-i
invariant-loop-i l = record {
  seats : AreSeats (sections_of l.script) l.seats.items (beginning (sections_of l.script)).others;
  as_many : length l.seats.items ≡ l.i;
}
