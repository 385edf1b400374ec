use Rattle.std.proofs.Common.{Result, Ok, refl, subst}
use Rattle.gl_base.specs.declared.errno.Errno.{Errno}
use Rattle.gl_base.specs.declared.operation.Got.{Got}
use Rattle.gl_served.specs.UnderWay.{CarriedOut}
use Rattle.gl_served.specs.declared.under_way.Step.TheVariants.{Asks}
use Rattle.gl_served.proofs.Running.{gone_done, gone_stays}
use Rattle.gl_served.proofs.under_way.UnderWay.did.Goals as goal

pub returns-in-Ok-clause-gone : goal.returns-in-Ok-clause-gone
returns-in-Ok-clause-gone c = λ p s left a b carried gone.
    let performed : CarriedOut c.args.what.now (Ok c.in-Ok.got) a b = subst (λ (r : Result Got Errno). CarriedOut c.args.what.now r a b) c.in-Ok.is carried in
    let came = performed gone.standing gone.stands in
    gone_done p s c.args.what.now c.in-Ok.got c.args.self.now.first c.args.self.now.printed.items left a b gone came.0 came.1

pub returns-in-Err-clause-gone : goal.returns-in-Err-clause-gone
returns-in-Err-clause-gone c = λ p s left a b carried gone.
    gone_stays p s (Asks c.args.what.now) c.args.self.now.first c.args.self.now.printed.items left left a b gone refl (subst (λ (r : Result Got Errno). CarriedOut c.args.what.now r a b) c.in-Err.is carried)
