use Rattle.std.proofs.Common.{IfOk, ap, rules}
use Rattle.gl_client.specs.Program.{Goes, given}
use Rattle.gl_talk.specs.Talk.{left, names_in}
use Rattle.gl_served.specs.Alone.{alone_in}
use Rattle.gl_served.specs.Served.{ServedValue}
use Rattle.gl_served.specs.declared.under_way.Step.TheVariants.{Told}
use Rattle.gl_served.proofs.Running.{advanced, gone_stays}
use Rattle.gl_served.proofs.served.Served.tell.Goals as goal

pub returns-clause-gone : goal.returns-clause-gone
returns-clause-gone c = λ p s gone.
    let stays = gone_stays p s (Told c.args.got) c.args.going.now.first c.args.going.now.printed.items (left c.args.self.now.talk) (left c.self.inside.talk) c.args.self.now.alone c.self.inside.alone gone
    (ap (λ (v : ServedValue). left v.talk) c.self.view_is) (ap (λ (v : ServedValue). alone_in v.alone) c.self.view_is) in
    let goes : IfOk c.next-next.result (λ next. Goes (given (left c.self.inside.talk) c.args.got) next (left c.next-next.new.self)) = search rules in
    c.told.ensures.gone p s (left c.self.inside.talk) (left c.next-next.new.self) (names_in c.next-next.new.self) c.self.inside.alone
    (advanced c.next-next.result (left c.self.inside.talk) c.args.got (left c.next-next.new.self) (names_in c.next-next.new.self) c.next-next.new.self.begun c.self.inside.talk.begun goes c.next-next.ensures.rests c.next-next.ensures.kept) stays

pub returns-clause-ended : goal.returns-clause-ended
returns-clause-ended c =
    let goes : IfOk c.next-next.result (λ next. Goes (given (left c.self.inside.talk) c.args.got) next (left c.next-next.new.self)) = search rules in
    c.told.ensures.ended (left c.self.inside.talk) (left c.next-next.new.self) (names_in c.next-next.new.self)
    (advanced c.next-next.result (left c.self.inside.talk) c.args.got (left c.next-next.new.self) (names_in c.next-next.new.self) c.next-next.new.self.begun c.self.inside.talk.begun goes c.next-next.ensures.rests c.next-next.ensures.kept)
