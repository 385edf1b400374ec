use Rattle.std.proofs.Common.{Ok}
use Rattle.std.specs.Option.{option_copied}
use Rattle.gl_talk.specs.Talk.{left, names_in, talks}
use Rattle.gl_talk.proofs.Continuing.{whole_step}
use Rattle.gl_talk.proofs.talk.Talk.next.Goals as goal

pub returns-clause-whole : goal.returns-clause-whole
returns-clause-whole c = λ statements.
    let t = c.args.self.now in
    let after = c.put_next.new.self in
    whole_step (Ok c.put_next.new.step) (left t) (left after) (λ begun. talks begun statements) t.begun after.begun (option_copied c.args.got) (names_in after) c.in_ok-put_next.ensures.goes c.in_ok-put_next.ensures.rests c.in_ok-put_next.ensures.counted

pub returns-clause-in_front : goal.returns-clause-in_front
returns-clause-in_front c = λ behind.
    let t = c.args.self.now in
    let after = c.put_next.new.self in
    whole_step (Ok c.put_next.new.step) (left t) (left after) (λ begun. behind) t.begun after.begun (option_copied c.args.got) (names_in after) c.in_ok-put_next.ensures.goes c.in_ok-put_next.ensures.rests c.in_ok-put_next.ensures.counted
