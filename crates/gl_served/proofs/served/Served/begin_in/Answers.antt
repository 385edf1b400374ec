use Rattle.std.proofs.Common.{None, Ok, ◌∙◌, ap, length}
use Rattle.std.proofs.lemmas.Result.{on_err_weaker}
use Rattle.gl_script.specs.Columns.{columns}
use Rattle.gl_script.specs.Served.{Statement}
use Rattle.gl_talk.specs.Talk.{does, names_in, slot_behind}
use Rattle.gl_served.specs.Served.{ServedValue}
use Rattle.gl_served.specs.UnderWay.{HasBegun, left_by}
use Rattle.gl_served.specs.declared.under_way.Step.TheVariants.{Told}
use Rattle.gl_served.proofs.Answering.{reads_by}
use Rattle.gl_served.proofs.Running.{begun_so, keeps_as, keeps_can, left_can, on_err_always, pair_kept}
use Rattle.gl_served.proofs.served.Served.begin_in.Goals as goal

pub returns-clause-answered : goal.returns-clause-answered
returns-clause-answered c = λ said keeps.
    let u = c.in_ok-under_way.under_way in
    let now : ServedValue = record { stage = c.self.inside.stage; talk = c.begin.new.self; count = c.counted-self-inside.result; alone = c.self.inside.alone; under_way = c.self.inside.under_way } in
    let begun : HasBegun u now said c.args.statement.now.line.now = begun_so c.args.self.now now said c.args.statement.now.line.now u c.args.pair keeps (ap (λ (v : ServedValue). v.stage) c.self.view_is)
    (c.counted-self-inside.ensures (length said.statements) (ap (λ (v : ServedValue). v.count) c.self.view_is ∙ keeps.count)) (ap (λ (v : ServedValue). v.alone) c.self.view_is) (c.requires.pair ∙ pair_kept c.args.self.now said keeps)
    (ap (λ l. left_by l (Told None)) c.in_ok-begin.ensures.begun
    ∙ ap (λ (v : ServedValue). does (names_in v.talk) (slot_behind c.args.pair) (columns c.args.statement.now.line.now)) c.self.view_is)
    c.in_ok-under_way.ensures.step c.in_ok-under_way.ensures.first c.in_ok-under_way.ensures.printed in
    reads_by c.go_on.result c.args.out.now.items c.go_on.new.out.items c.go_on.new.self said c.args.statement.now.line.now (Ok Statement) u.reads c.args.reads c.in_ok-under_way.ensures.reads
    (c.go_on.ensures.answered said c.args.statement.now.line.now (ap (λ (v : ServedValue). v.under_way) c.self.view_is ∙ keeps.rests) begun)

pub returns-clause-kept : goal.returns-clause-kept
returns-clause-kept c = λ said keeps asked is.
    let u = c.in_ok-under_way.under_way in
    let now : ServedValue = record { stage = c.self.inside.stage; talk = c.begin.new.self; count = c.counted-self-inside.result; alone = c.self.inside.alone; under_way = c.self.inside.under_way } in
    let begun : HasBegun u now said c.args.statement.now.line.now = begun_so c.args.self.now now said c.args.statement.now.line.now u c.args.pair keeps (ap (λ (v : ServedValue). v.stage) c.self.view_is)
    (c.counted-self-inside.ensures (length said.statements) (ap (λ (v : ServedValue). v.count) c.self.view_is ∙ keeps.count)) (ap (λ (v : ServedValue). v.alone) c.self.view_is) (c.requires.pair ∙ pair_kept c.args.self.now said keeps)
    (ap (λ l. left_by l (Told None)) c.in_ok-begin.ensures.begun
    ∙ ap (λ (v : ServedValue). does (names_in v.talk) (slot_behind c.args.pair) (columns c.args.statement.now.line.now)) c.self.view_is)
    c.in_ok-under_way.ensures.step c.in_ok-under_way.ensures.first c.in_ok-under_way.ensures.printed in
    on_err_weaker c.go_on.result
    (left_can c.go_on.new.self.under_way u.line.items c.args.line.now u.reads c.args.reads c.go_on.new.self said c.args.statement.now.line.now c.in_ok-under_way.ensures.line c.in_ok-under_way.ensures.reads is asked)
    (c.go_on.ensures.left said c.args.statement.now.line.now begun)

pub returns-in_err-under_way-clause-kept : goal.returns-in_err-under_way-clause-kept
returns-in_err-under_way-clause-kept c = λ said keeps asked is. on_err_always c.from_residual.result (keeps_can c.args.self.now said c.args.line.now keeps)

pub returns-in_err-begin-clause-kept : goal.returns-in_err-begin-clause-kept
returns-in_err-begin-clause-kept c = λ said keeps asked is.
    let now : ServedValue = record { stage = c.self.inside.stage; talk = c.begin.new.self; count = c.self.inside.count; alone = c.self.inside.alone; under_way = c.self.inside.under_way } in
    on_err_always c.from_residual-in_err-begin.result (
    keeps_can now said c.args.line.now
    (keeps_as c.args.self.now now said keeps (ap (λ (v : ServedValue). v.stage) c.self.view_is) (ap (λ (v : ServedValue). v.count) c.self.view_is)
    (ap names_in c.in_err-begin.ensures.kept ∙ ap (λ (v : ServedValue). names_in v.talk) c.self.view_is) (ap (λ (v : ServedValue). v.alone) c.self.view_is) (ap (λ (v : ServedValue). v.under_way) c.self.view_is)))
