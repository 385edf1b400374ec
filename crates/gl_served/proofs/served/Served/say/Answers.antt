use Rattle.std.proofs.Common.{Ok, [], sym, refl, ap, ◌∙◌}
use Rattle.std.proofs.lemmas.List.{append-nil}
use Rattle.gl_script.specs.Served.{kind_in}
use Rattle.gl_served.specs.Served.{kind_after}
use Rattle.gl_served.proofs.Answering.{refuses, said_by}
use Rattle.gl_served.proofs.served.Served.say.Goals as goal

pub returns-in-Ok-clause-answered : goal.returns-in-Ok-clause-answered
returns-in-Ok-clause-answered c = λ said keeps.
    said_by c.take.result c.args.out.now.items c.take.new.out.items c.take.new.self said c.args.line.now (Ok (kind_in c.in-Ok.kind)) (kind_after said c.args.line.now) (c.in-Ok.ensures.kind said keeps)
    (c.take.ensures.answered said keeps)

pub returns-in-Ok-clause-kept : goal.returns-in-Ok-clause-kept
returns-in-Ok-clause-kept c = λ said keeps question. c.take.ensures.kept said keeps (λ is. (question, sym (c.in-Ok.ensures.kind said keeps) ∙ ap Ok is)) refl

pub returns-in-Err-clause-answered : goal.returns-in-Err-clause-answered
returns-in-Err-clause-answered c = λ said keeps.
    ([], said, sym (append-nil c.args.out.now.items), refuses said c.args.line.now (kind_after said c.args.line.now) c.in-Err.spot (c.in-Err.ensures.kind said keeps), keeps)
