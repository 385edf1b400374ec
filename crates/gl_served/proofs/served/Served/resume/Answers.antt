use Rattle.std.proofs.Common.{Some, sym, ap, refl, ◌∙◌}
use Rattle.std.proofs.lemmas.Result.{on_err_weaker}
use Rattle.std.proofs.lemmas.Slice.Eq.{bytes_eq-Decides}
use Rattle.gl_served.specs.Served.{ServedValue}
use Rattle.gl_served.specs.UnderWay.{statement_for}
use Rattle.gl_served.proofs.Running.{left_can, reply_by, under_way_as}
use Rattle.gl_served.proofs.served.Served.resume.Goals as goal

pub returns-then-is_line-clause-answered : goal.returns-then-is_line-clause-answered
returns-then-is_line-clause-answered c = λ said rests going.
    reply_by c.go_on.result c.args.out.now.items c.go_on.new.out.items c.go_on.new.self said c.args.under_way.reads c.args.line.now going.asked
    (c.go_on.ensures.answered said (statement_for c.args.under_way.reads said c.args.line.now) rests going.has)

pub returns-then-is_line-clause-kept : goal.returns-then-is_line-clause-kept
returns-then-is_line-clause-kept c = λ said going.
    on_err_weaker c.go_on.result
    (left_can c.go_on.new.self.under_way c.args.under_way.line.items c.args.line.now c.args.under_way.reads c.args.under_way.reads c.go_on.new.self said (statement_for c.args.under_way.reads said c.args.line.now)
    going.line_is refl refl going.asked)
    (c.go_on.ensures.left said (statement_for c.args.under_way.reads said c.args.line.now) going.has)

pub returns-then-is_line-clause-other : goal.returns-then-is_line-clause-other
returns-then-is_line-clause-other c = λ differs. absurd (differs ((bytes_eq-Decides c.args.under_way.line.items c.args.line.now).0 (sym c.is_line.ensures ∙ c.if-is_line.true)))

pub returns-clause-kept : goal.returns-clause-kept
returns-clause-kept c = λ said going.
    let now : ServedValue = record { stage = c.self.inside.stage; talk = c.self.inside.talk; count = c.self.inside.count; alone = c.self.inside.alone; under_way = Some c.args.under_way } in
    under_way_as c.args.under_way c.args.self.now now said c.args.line.now going (ap (λ (v : ServedValue). v.stage) c.self.view_is) (ap (λ (v : ServedValue). v.count) c.self.view_is)
    (ap (λ (v : ServedValue). v.talk) c.self.view_is) (ap (λ (v : ServedValue). v.alone) c.self.view_is)

pub returns-clause-other : goal.returns-clause-other
returns-clause-other c = λ differs. (refl, ap (λ (v : ServedValue). record v { under_way = Some c.args.under_way }) c.self.view_is)
