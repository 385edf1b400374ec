use Rattle.gl_trace.proofs.Entries.{unique}
use Rattle.gl_trace.proofs.laws.one_entry_a_line.Goals as goal

pub returns : goal.returns
returns c = unique
