use Rattle.gl_check.proofs.Moves.{decides_end}
use Rattle.gl_check.proofs.judge.Judge.is_at_end.Goals as goal

pub returns : goal.returns
returns c = λ sections m judges.
    decides_end sections c.args.self.now m judges c.deref.result.now c.all_ended-all.result c.is_ended-last.result c.ends.result c.deref.ensures.value (c.all_ended-all.ensures sections m.others) c.is_ended-last.ensures c.ends.ensures
