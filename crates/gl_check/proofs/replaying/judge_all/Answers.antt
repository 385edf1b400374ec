use Rattle.gl_script.specs.Script.{sections_of}
use Rattle.gl_check.proofs.Replayed.{stopped}
use Rattle.gl_check.proofs.replaying.judge_all.Goals as goal

pub conclude-requires-clause-fit : goal.conclude-requires-clause-fit
conclude-requires-clause-fit c = rw c.in-Ok-None.field-0-is at c.in-Ok-None.ensures.taken

pub returns-in-Ok-Some-clause-misfit : goal.returns-in-Ok-Some-clause-misfit
returns-in-Ok-Some-clause-misfit c =
    stopped (sections_of c.args.script.now) c.args.history.now c.take_all.new.self c.in-Ok-Some.index (rw c.in-Ok-Some.field-0-is at c.in-Ok-Some.ensures.taken)
