use Rattle.std.proofs.Common.{[], ap, sym, ◌∙◌, Ok}
use Rattle.std.proofs.lemmas.List.{append-nil}
use Rattle.gl_base.specs.Words.{Span}
use Rattle.gl_script.specs.Served.{Statement, kind_in}
use Rattle.gl_served.specs.declared.answered.Answer.TheVariants.{Text}
use Rattle.gl_served.proofs.Answering.{kind_by, line_by, no_statement, taken_plainly}
use Rattle.gl_served.proofs.served.Served.take.Goals as goal

pub accept-requires : goal.accept-requires
accept-requires c = no_statement c.args.kind c.in_default.not-Statement

pub returns-in-Statement-clause-answered : goal.returns-in-Statement-clause-answered
returns-in-Statement-clause-answered c = λ said keeps.
    kind_by c.begin.result c.args.out.now.items c.begin.new.out.items c.begin.new.self said c.args.statement.now c.args.reads Statement (kind_in c.args.kind) (sym (ap kind_in c.in-Statement.is))
    (line_by c.begin.result c.args.out.now.items c.begin.new.out.items c.begin.new.self said c.of-statement.result.line.now c.args.statement.now c.args.reads (Ok Statement) (ap (λ (s : Span). s.text) c.of-statement.ensures) (c.begin.ensures.answered said keeps))

pub returns-in-Statement-clause-kept : goal.returns-in-Statement-clause-kept
returns-in-Statement-clause-kept c = λ said keeps asked is. c.begin.ensures.kept said keeps (asked (ap kind_in c.in-Statement.is)) (ap (λ (s : Span). s.text) c.of-statement.ensures ∙ is)

pub returns-in_default-clause-answered : goal.returns-in_default-clause-answered
returns-in_default-clause-answered c = λ said keeps.
    let went = c.accept.ensures said c.args.statement.now keeps in
    ([], went.0, sym (append-nil c.args.out.now.items), taken_plainly c.args.reads said c.args.statement.now (kind_in c.args.kind) Text [] went.0 (no_statement c.args.kind c.in_default.not-Statement) went.1, went.2)
