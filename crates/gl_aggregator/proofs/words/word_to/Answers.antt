use Rattle.std.proofs.Common.{arith, ◌∙◌}
use Rattle.gl_aggregator.specs.Words.{is_chosen}
use Rattle.gl_aggregator.proofs.Lines.{bits_more}
use Rattle.gl_aggregator.proofs.words.word_to.Goals as goal

pub loop-i-preserved : goal.loop-i-preserved
loop-i-preserved c =
    bits_more (λ p. is_chosen c.args.op.now c.args.choice p.line) (λ p. p.at) c.loop-i.word c.with_line-word.result c.args.op.now c.args.route.now.base c.args.route.now.target.lines.count c.offsets_of-offsets.result.now c.loop-i.i 0 (omega arith) c.with_line-word.ensures
    ∙ c.loop-i.invariant
