use Rattle.gl_asking.proofs.HandedBytes.{chunk_is_handed}
use Rattle.gl_asking.proofs.commanding.handed_in.Goals as goal

pub returns-in-Some : goal.returns-in-Some
returns-in-Some c = chunk_is_handed c.args.buffer.now c.in-Some.whole.now c.in-Some.ensures.cases.enough c.in-Some.ensures.cases.same
