use Rattle.std.proofs.Common.{◌≡◌, ◌∙◌, sym, None, Some}
use Rattle.gl_trace.proofs.Entries.{as_read, back, same_entry, same_line}
use Rattle.gl_trace.proofs.read.read_entry.Goals as goal

pub returns-in-Some-clause-sound : goal.returns-in-Some-clause-sound
returns-in-Some-clause-sound c = same_line c.args.line.now c.in-Some.got.0 c.in-Some.got.1 c.in-Some.ensures

pub returns-in-Some-clause-complete : goal.returns-in-Some-clause-complete
returns-in-Some-clause-complete c = λ index e t l. same_entry c.in-Some.got.0 index c.in-Some.got.1 e (sym c.in-Some.ensures ∙ back c.args.line.now index e t l)

pub returns-in-None-clause-complete : goal.returns-in-None-clause-complete
returns-in-None-clause-complete c = λ index e t l. absurd (let no : None ≡ Some (as_read index e) = sym c.in-None.ensures ∙ back c.args.line.now index e t l in cc)
