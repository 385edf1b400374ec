use Rattle.std.proofs.Common.{[], ◌∙◌, arith, drop}
use Rattle.gl_client.specs.Program.{done}
use Rattle.gl_talk.specs.Talk.{left, names_in, talks}
use Rattle.gl_talk.proofs.TalkedSteps.{finishing, none_left}
use Rattle.gl_talk.proofs.over.talk_on.Goals as goal

pub returns-clause-ok : goal.returns-clause-ok
returns-clause-ok c =
    let l = c.loop-statement in
    finishing l.over c.finish-2.new.over (left c.quit.new.self) (talks l.current.begun [] (names_in l.current)) c.args.results.now l.at c.in_ok-finish.field-0 (names_in c.finish-2.new.talk) c.quit.ensures.whole
    (c.in_ok-finish.ensures.over (λ value. done value))
    ∙ none_left l.over l.current.begun l.statement-index c.args.statements.now (names_in l.current) (drop l.at c.args.results.now) (omega (arith, c.loop-statement-test.false))
    ∙ l.invariant.0
