use Rattle.std.proofs.Common.{sym, ◌∙◌}
use Rattle.gl_base.proofs.AtPositions.{first_fault_all, first_fault_here, first_fault_more}
use Rattle.gl_model.specs.Configuring.{directed_fault}
use Rattle.gl_model.specs.Places.{place_at}
use Rattle.gl_core.proofs.state.State.first_directed_fault.Goals as goal

pub loop-i-preserved : goal.loop-i-preserved
loop-i-preserved c w s =
    sym (first_fault_more (directed_fault (place_at w c.args.place) c.args.lines.now c.args.settings.now) c.loop-i.i c.args.lines.now.count c.loop-i-test.true (sym (c.in-None.ensures w s))) ∙ c.loop-i.invariant w s

pub returns-in-Some : goal.returns-in-Some
returns-in-Some c w s =
    sym (first_fault_here (directed_fault (place_at w c.args.place) c.args.lines.now c.args.settings.now) c.loop-i.i c.args.lines.now.count c.in-Some.errno c.loop-i-test.true (sym (c.in-Some.ensures w s))) ∙ c.loop-i.invariant w s

pub returns : goal.returns
returns c w s =
    sym (first_fault_all (directed_fault (place_at w c.args.place) c.args.lines.now c.args.settings.now) c.loop-i.i c.args.lines.now.count c.loop-i-test.false) ∙ c.loop-i.invariant w s
