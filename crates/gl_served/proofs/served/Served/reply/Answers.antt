use Rattle.std.proofs.Common.{ap, sym, subst, ◌∙◌}
use Rattle.std.proofs.lemmas.Result.{on_err_weaker}
use Rattle.gl_served.specs.Questions.{question_of}
use Rattle.gl_served.specs.Served.{ServedValue}
use Rattle.gl_served.specs.UnderWay.{CanAnswer}
use Rattle.gl_served.specs.declared.question.Question.TheVariants.{Nothing, Due, Data}
use Rattle.gl_served.proofs.Answering.{asked, data_short, due_told, replied_by}
use Rattle.gl_served.proofs.Running.{keeps_can}
use Rattle.gl_served.proofs.served.Served.reply.Goals as goal

pub data-requires : goal.data-requires
data-requires c = data_short c.self.inside.stage c.args.line.now (sym c.question_of.ensures ∙ c.in-Data.is)

pub returns-in-Nothing-clause-answered : goal.returns-in-Nothing-clause-answered
returns-in-Nothing-clause-answered c = λ said keeps.
    replied_by c.say.result c.args.out.now.items c.say.new.out.items c.say.new.self said c.args.line.now Nothing
    (asked c.args.self.now said c.args.line.now c.question_of.result Nothing keeps (c.question_of.ensures ∙ ap (λ (v : ServedValue). question_of v.stage c.args.line.now) c.self.view_is) c.in-Nothing.is)
    (c.say.ensures.answered said keeps)

pub returns-in-Due-clause-answered : goal.returns-in-Due-clause-answered
returns-in-Due-clause-answered c = λ said keeps.
    replied_by c.due.result c.args.out.now.items c.due.new.out.items c.due.new.self said c.args.line.now Due
    (asked c.args.self.now said c.args.line.now c.question_of.result Due keeps (c.question_of.ensures ∙ ap (λ (v : ServedValue). question_of v.stage c.args.line.now) c.self.view_is) c.in-Due.is)
    (due_told c.due.result c.args.out.now.items c.due.new.out.items c.due.new.self said c.args.line.now (c.due.ensures.answered said keeps))

pub returns-in-Data-clause-answered : goal.returns-in-Data-clause-answered
returns-in-Data-clause-answered c = λ said keeps.
    replied_by c.data.result c.args.out.now.items c.data.new.out.items c.data.new.self said c.args.line.now Data
    (asked c.args.self.now said c.args.line.now c.question_of.result Data keeps (c.question_of.ensures ∙ ap (λ (v : ServedValue). question_of v.stage c.args.line.now) c.self.view_is) c.in-Data.is)
    (c.data.ensures.answered said keeps)

pub returns-in-Nothing-clause-kept : goal.returns-in-Nothing-clause-kept
returns-in-Nothing-clause-kept c = λ said keeps.
    c.say.ensures.kept said keeps
    (asked c.args.self.now said c.args.line.now c.question_of.result Nothing keeps (c.question_of.ensures ∙ ap (λ (v : ServedValue). question_of v.stage c.args.line.now) c.self.view_is) c.in-Nothing.is)

pub returns-in-Due-clause-kept : goal.returns-in-Due-clause-kept
returns-in-Due-clause-kept c = λ said keeps.
    on_err_weaker c.due.result (λ same. subst (λ (v : ServedValue). CanAnswer v said c.args.line.now) (sym same) (keeps_can c.args.self.now said c.args.line.now keeps)) c.due.ensures.kept

pub returns-in-Data-clause-kept : goal.returns-in-Data-clause-kept
returns-in-Data-clause-kept c = λ said keeps.
    c.data.ensures.kept said keeps
    (asked c.args.self.now said c.args.line.now c.question_of.result Data keeps (c.question_of.ensures ∙ ap (λ (v : ServedValue). question_of v.stage c.args.line.now) c.self.view_is) c.in-Data.is)
