use Rattle.std.proofs.Common.{take, sym, subst}
use Rattle.std.proofs.lemmas.Bool.Decides.{not_from_Decides}
use Rattle.gl_model.specs.Machine.{world_of}
use Rattle.gl_model.specs.World.{World}
use Rattle.gl_core.specs.Kept.{StandsFor}
use Rattle.gl_core.specs.Legal.{GoesOn}
use Rattle.gl_core.proofs.Replaying.{legal_with, stops_at, world_with}
use Rattle.gl_core.proofs.machine.Core.first_bad.Goals as goal

pub returns-then-not-branch-clause-first : goal.returns-then-not-branch-clause-first
returns-then-not-branch-clause-first c =
    let e = c.index-history-i.result in
    let w : World = world_of StandsFor (take c.loop-i.i c.args.history.now) in
    stops_at StandsFor c.args.history.now c.loop-i.i e c.loop-i-test.true c.index-history-i.is c.loop-i.invariant.0
    (not_from_Decides {P = GoesOn w e.actor e.call e.reply} c.in_ok-goes_on.field-0 (c.in_ok-goes_on.ensures.told w c.loop-i.invariant.1) c.if-not-branch.true)

pub loop-i-preserved : goal.loop-i-preserved
loop-i-preserved c =
    let e = c.index-history-i.result in
    let w : World = world_of StandsFor (take c.loop-i.i c.args.history.now) in
    let good = c.if-not-branch.false in (
      legal_with StandsFor c.args.history.now c.loop-i.i e c.loop-i-test.true c.index-history-i.is c.loop-i.invariant.0 ((c.in_ok-goes_on.ensures.told w c.loop-i.invariant.1).0 good),
      subst (StandsFor c.goes_on.new.self) (sym (world_with StandsFor c.args.history.now c.loop-i.i e c.loop-i-test.true c.index-history-i.is)) (c.in_ok-goes_on.ensures.world w c.loop-i.invariant.1 good),
    )
