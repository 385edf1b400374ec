use Rattle.std.proofs.Common.{rules}
use Rattle.gl_words.proofs.Loads.{some_load}
use Rattle.gl_words.proofs.task.is_load.Goals as goal

pub returns-then-eq-clause-load : goal.returns-then-eq-clause-load
returns-then-eq-clause-load c = some_load _ _ _ (search rules) (search rules)
