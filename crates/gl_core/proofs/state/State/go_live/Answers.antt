use Rattle.gl_core.proofs.GoingLive.{live_done, live_refused}
use Rattle.gl_core.proofs.state.State.go_live.Goals as goal

pub returns-in-Err : goal.returns-in-Err
returns-in-Err c w s = live_refused c.args.self.now w c.args.device.now c.check_live.result c.in-Err.errno s c.in-Err.is (c.check_live.ensures.told w s)

pub returns-in-Ok : goal.returns-in-Ok
returns-in-Ok c w s =
    live_done c.make_live.new.self w c.args.device.now c.check_live.result c.in-Ok.banks (c.make_live.ensures w s) c.in-Ok.is (c.check_live.ensures.told w s)
