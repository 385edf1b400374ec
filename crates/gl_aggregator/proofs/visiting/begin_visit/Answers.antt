use Rattle.std.proofs.Common.{refl, subst, sym, take}
use Rattle.gl_model.specs.Fits.{Fits}
use Rattle.gl_aggregator.proofs.Asks.{ask_fits}
use Rattle.gl_aggregator.proofs.visiting.begin_visit.Goals as goal

pub begin-requires-clause-ask_fits : goal.begin-requires-clause-ask_fits
begin-requires-clause-ask_fits g c κs within = subst (λ call. Fits call c.nothing-gift.result (take c.args.asking.now.command.len c.args.asking.now.command.bytes)) (sym c.in_part-ask.ensures.part) (ask_fits c.args.asking.now c.nothing-gift.result (take c.args.asking.now.command.len c.args.asking.now.command.bytes) c.requires.place c.requires.asking refl)
