use Rattle.std.proofs.Common.{◌≡◌, ◌<◌, ap, sym, ◌∙◌, arith}
use Rattle.gl_base.proofs.AtPositions.{first_fault_here}
use Rattle.gl_base.specs.declared.lines.Lines.{Lines}
use Rattle.gl_model.specs.Claiming.{line_refusal}
use Rattle.gl_core.proofs.claiming.first_refusal.Goals as goal

pub returns-in-Some : goal.returns-in-Some
returns-in-Some c =
    let count : c.lines.result.now.count ≡ c.args.asked.now.lines.count = ap (λ (l : Lines). l.count) c.lines.ensures.lines in
    let within : c.loop-i.i < c.args.asked.now.lines.count = omega (arith, count, c.loop-i-test.true) in
    sym (first_fault_here (line_refusal c.args.tables.now c.args.asked.now) c.loop-i.i c.args.asked.now.lines.count c.in-Some.errno within (sym c.in-Some.ensures)) ∙ c.loop-i.invariant
