use Rattle.std.proofs.Common.{ap}
use Rattle.gl_talk.specs.Talk.{left}
use Rattle.gl_served.specs.Alone.{alone_in}
use Rattle.gl_served.specs.Served.{ServedValue}
use Rattle.gl_served.specs.declared.under_way.Step.TheVariants.{Asks}
use Rattle.gl_served.proofs.Running.{carried_out_so, gone_stays}
use Rattle.gl_served.proofs.served.Served.carry_out.Goals as goal

pub returns-clause-gone : goal.returns-clause-gone
returns-clause-gone c = λ p s gone.
    let stays = gone_stays p s (Asks c.args.what.now) c.args.going.now.first c.args.going.now.printed.items (left c.args.self.now.talk) (left c.self.inside.talk) c.args.self.now.alone c.self.inside.alone gone
    (ap (λ (v : ServedValue). left v.talk) c.self.view_is) (ap (λ (v : ServedValue). alone_in v.alone) c.self.view_is) in
    c.did.ensures.gone p s (left c.self.inside.talk) c.self.inside.alone c.perform-got.new.self (carried_out_so c.args.what.now c.perform-got.result c.self.inside.alone c.perform-got.new.self c.perform-got.ensures.ok c.perform-got.ensures.kept) stays
