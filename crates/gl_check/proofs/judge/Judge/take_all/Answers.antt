use Rattle.std.proofs.Common.{subst}
use Rattle.std.proofs.lemmas.Bool.Decides.{not_from_Decides}
use Rattle.gl_script.specs.Script.{sections_of}
use Rattle.gl_check.specs.Judging.{Judges}
use Rattle.gl_check.specs.Misfit.{Moment}
use Rattle.gl_check.proofs.Replayed.{behind_more, fit_more, fits_no_more, so_far}
use Rattle.gl_check.proofs.judge.Judge.take_all.Goals as goal

pub returns-in-Ok-false-clause-taken : goal.returns-in-Ok-false-clause-taken
returns-in-Ok-false-clause-taken c =
    let taken = c.in-Ok-false.ensures.taken (so_far (sections_of c.args.script.now) c.args.history.now c.loop-i.i) c.loop-i.invariant.judges in (
      c.loop-i-test.true,
      c.loop-i.invariant.fit,
      fits_no_more (sections_of c.args.script.now) c.args.history.now c.loop-i.i c.index-history-i.result c.loop-i-test.true c.index-history-i.is
          (not_from_Decides c.in-Ok-false.field-0 taken.fits c.in-Ok-false.field-0-test),
    )

pub loop-i-preserved : goal.loop-i-preserved
loop-i-preserved c =
    let taken = c.in-Ok-true.ensures.taken (so_far (sections_of c.args.script.now) c.args.history.now c.loop-i.i) c.loop-i.invariant.judges in
    record {
      fit = fit_more (sections_of c.args.script.now) c.args.history.now c.loop-i.i c.index-history-i.result c.loop-i-test.true c.index-history-i.is c.loop-i.invariant.fit (taken.fits.0 c.in-Ok-true.field-0-test);
      judges = subst (λ (m : Moment). Judges (sections_of c.args.script.now) c.take.new.self m)
          (behind_more (sections_of c.args.script.now) c.args.history.now c.loop-i.i c.index-history-i.result c.loop-i-test.true c.index-history-i.is) (taken.goes c.in-Ok-true.field-0-test);
    }
