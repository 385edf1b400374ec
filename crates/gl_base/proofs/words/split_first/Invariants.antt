use Rattle.std.proofs.Common.{◌≡◌, take, drop}
use Rattle.gl_base.specs.Words.{pieces}
use Rattle.gl_base.proofs.Cutting.{onto_piece}
use Rattle.gl_base.proofs.words.split_first.Given as goal

abbrev pub invariant-loop-i : goal.invariant-loop-i
invariant-loop-i l = pieces l.cut l.bytes ≡ onto_piece (take l.i l.bytes) (pieces l.cut (drop l.i l.bytes))
