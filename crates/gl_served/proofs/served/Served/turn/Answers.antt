use Rattle.std.proofs.Common.{◌≡◌, subst, rules}
use Rattle.gl_talk.specs.Talk.{left}
use Rattle.gl_served.specs.UnderWay.{HasGone}
use Rattle.gl_served.specs.declared.under_way.Step.{Step}
use Rattle.gl_served.specs.declared.under_way.Step.TheVariants.{Told, Asks, Prints}
use Rattle.gl_served.proofs.Running.{never_ends}
use Rattle.gl_served.proofs.served.Served.turn.Goals as goal

pub returns-in-Told-clause-gone : goal.returns-in-Told-clause-gone
returns-in-Told-clause-gone c = λ p s gone.
    let is : c.args.going.now.step ≡ Told c.in-Told.got = search rules in
    c.tell.ensures.gone p s (subst (λ (t : Step). HasGone p s t c.args.going.now.first c.args.going.now.printed.items (left c.args.self.now.talk) c.args.self.now.alone) is gone)

pub returns-in-Asks-clause-gone : goal.returns-in-Asks-clause-gone
returns-in-Asks-clause-gone c = λ p s gone.
    let is : c.args.going.now.step ≡ Asks c.in-Asks.what = search rules in
    c.carry_out.ensures.gone p s (subst (λ (t : Step). HasGone p s t c.args.going.now.first c.args.going.now.printed.items (left c.args.self.now.talk) c.args.self.now.alone) is gone)

pub returns-in-Prints-clause-gone : goal.returns-in-Prints-clause-gone
returns-in-Prints-clause-gone c = λ p s gone.
    let is : c.args.going.now.step ≡ Prints c.in-Prints.text = search rules in
    c.print.ensures.gone p s (left c.args.self.now.talk) c.args.self.now.alone
    (subst (λ (t : Step). HasGone p s t c.args.going.now.first c.args.going.now.printed.items (left c.args.self.now.talk) c.args.self.now.alone) is gone)

pub returns-in-Asks-clause-ended : goal.returns-in-Asks-clause-ended
returns-in-Asks-clause-ended c = never_ends _ c.carry_out.result c.carry_out.ensures.more

pub returns-in-Asks-clause-told : goal.returns-in-Asks-clause-told
returns-in-Asks-clause-told c = never_ends _ c.carry_out.result c.carry_out.ensures.more

pub returns-in-Prints-clause-ended : goal.returns-in-Prints-clause-ended
returns-in-Prints-clause-ended c = never_ends _ c.print.result c.print.ensures.more

pub returns-in-Prints-clause-told : goal.returns-in-Prints-clause-told
returns-in-Prints-clause-told c = never_ends _ c.print.result c.print.ensures.more
