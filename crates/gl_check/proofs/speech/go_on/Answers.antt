use Rattle.std.proofs.Common.{map, ap, arith, ◌≤◌, length}
use Rattle.gl_script.specs.declared.section.Statement.{Statement}
use Rattle.gl_talk.specs.Over.{columns_in}
use Rattle.gl_talk.specs.Talk.{names_in}
use Rattle.gl_check.proofs.Settling.{next_left, quit_left, words_line, words_past}
use Rattle.gl_check.proofs.speech.go_on.Goals as goal

pub returns-then-next-statements-clause-more : goal.returns-then-next-statements-clause-more
returns-then-next-statements-clause-more c = λ _.
    let statement = c.index-statements-next.result in
    next_left c.args.quit (map columns_in c.args.statements.now) c.begin.new.self c.args.closes.now c.args.talk.now.begun (names_in c.args.talk.now) (columns_in statement)
    c.if-closes.false c.in_ok-begin.ensures.counted
    (words_line c.args.statements.now c.args.talk.now.begun statement statement.line.now c.if-next-statements.true (ap (λ (s : Statement). s.line.now) c.index-statements-next.is))
    c.in_ok-begin.ensures.begun

pub returns-clause-more : goal.returns-clause-more
returns-clause-more c = λ yes.
    let more = c.end.ensures.more yes in
    let past : length c.args.statements.now ≤ c.args.talk.now.begun = (let not_less = c.if-next-statements.false in omega arith) in
    quit_left c.args.quit (map columns_in c.args.statements.now) c.end.new.talk c.end.new.closes c.args.closes.now c.args.talk.now.begun (names_in c.args.talk.now)
    more.0 more.1 c.if-closes.false (words_past c.args.statements.now c.args.talk.now.begun past) more.2
