use Rattle.std.proofs.Common.{◌^◌, Bool, bit_or, if◌then◌else◌, ap, sym, ◌∙◌}
use Rattle.std.specs.Int.Bits.{or_zero_r}
use Rattle.gl_aggregator.proofs.words.with_bit_if.Goals as goal

pub returns-else-holds : goal.returns-else-holds
returns-else-holds c = sym (ap (λ (b : Bool). bit_or c.args.word (if b then 2 ^ c.args.bit else 0)) c.if-holds.false ∙ or_zero_r c.args.word)
