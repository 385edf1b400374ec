use Rattle.std.proofs.Common.{arith, ◌∙◌}
use Rattle.gl_base.specs.Bits.{has_bit}
use Rattle.gl_aggregator.proofs.Lines.{bits_more}
use Rattle.gl_aggregator.proofs.words.with_lines_from.Goals as goal

pub loop-i-preserved : goal.loop-i-preserved
loop-i-preserved c =
    bits_more (λ p. has_bit c.args.word p.at) (λ p. p.line) c.loop-i.all c.with_line_from-all.result c.args.op.now c.args.route.now.base c.args.route.now.target.lines.count c.offsets_of-offsets.result.now c.loop-i.i 0 (omega arith) c.with_line_from-all.ensures
    ∙ c.loop-i.invariant
