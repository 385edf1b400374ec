use Rattle.gl_trace.proofs.Printed as printed
use Rattle.gl_trace.proofs.laws.entries_are_printable.Goals as goal

pub returns : goal.returns
returns c = printed.entries_are_printable
