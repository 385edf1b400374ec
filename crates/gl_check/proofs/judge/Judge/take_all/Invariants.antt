-- the entries so far fit
use Rattle.std.proofs.Common.{take}
use Rattle.gl_script.specs.Script.{sections_of}
use Rattle.gl_check.specs.Judging.{Judges}
use Rattle.gl_check.specs.Misfit.{AllFit, beginning}
use Rattle.gl_check.proofs.Replayed.{so_far}
use Rattle.gl_check.proofs.judge.Judge.take_all.Given as goal

abbrev pub invariant-loop-i : goal.invariant-loop-i
invariant-loop-i l = record {
  fit : AllFit (sections_of l.script) (beginning (sections_of l.script)) (take l.i l.history);
  judges : Judges (sections_of l.script) l.self (so_far (sections_of l.script) l.history l.i);
}
