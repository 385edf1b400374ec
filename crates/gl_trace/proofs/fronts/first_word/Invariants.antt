use Rattle.std.proofs.Common.{◌≡◌, take, drop}
use Rattle.gl_trace.specs.Fronts.{front_of}
use Rattle.gl_trace.proofs.Cutting.{onto_all}
use Rattle.gl_trace.proofs.fronts.first_word.Given as goal

abbrev pub invariant-loop-i : goal.invariant-loop-i
invariant-loop-i l = front_of l.text ≡ onto_all (take l.i l.text) (front_of (drop l.i l.text))
