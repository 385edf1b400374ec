use Rattle.std.proofs.Common.{ap}
use Rattle.gl_aggregator.proofs.Halves.{tell_made}
use Rattle.gl_aggregator.proofs.visiting.end.Goals as goal

pub returns-clause-told : goal.returns-clause-told
returns-clause-told g c = tell_made g.M.Machine c.args.place c.args.tell.now c.args.pass.now.view c.act.new.pass.view c.leave.new.pass.view c.in-Ok.reply _ _ c.requires.tell (ap (λ x. x.view) c.leave.ensures) c.in-Ok.ensures.acts c.in-Ok.ensures.same c.in-Ok.ensures.no_turn
