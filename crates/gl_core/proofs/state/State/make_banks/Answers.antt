use Rattle.std.proofs.Common.{◌<◌, subst}
use Rattle.gl_core.proofs.GoingLive.{bank_more}
use Rattle.gl_core.proofs.state.State.make_banks.Goals as goal

pub loop-bank-preserved : goal.loop-bank-preserved
loop-bank-preserved c =
    bank_more c.args.device.now c.args.self.now c.loop-bank.self c.make_bank.new.self c.loop-bank.bank (subst (λ n. c.loop-bank.bank < n) c.requires.all c.loop-bank-test.true)
    c.loop-bank.invariant c.make_bank.ensures
