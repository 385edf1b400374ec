use Rattle.std.proofs.Common.{arith}
use Rattle.gl_talk.proofs.Front.{front_all, front_long, front_short}
use Rattle.gl_talk.proofs.words.first.Goals as goal

pub returns-then-bytes-le592-clause-first : goal.returns-then-bytes-le592-clause-first
returns-then-bytes-le592-clause-first c = front_all 592 c.args.bytes.now (omega arith)

pub slice_bounds-result-end : goal.slice_bounds-result-end
slice_bounds-result-end c = front_long 592 c.args.bytes.now (omega arith)

pub returns-clause-short : goal.returns-clause-short
returns-clause-short c = front_short 592 c.args.bytes.now
