use Rattle.gl_model.proofs.NamedChanges as named
use Rattle.gl_model.proofs.answers.changes_keep_names.Goals as goal

pub returns : goal.returns
returns c = named.changes_keep_names
