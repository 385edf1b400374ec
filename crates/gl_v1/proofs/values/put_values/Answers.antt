use Rattle.std.proofs.Common.{ap, ◌∙◌, set, arith}
use Rattle.gl_v1.proofs.Bits.{byte_written}
use Rattle.gl_v1.proofs.values.put_values.Goals as goal

pub loop-i-preserved : goal.loop-i-preserved
loop-i-preserved c =
    ap (λ byte. set c.loop-i.buf c.loop-i.i byte) c.value_byte.ensures
    ∙ byte_written c.args.bits c.args.lines c.loop-i.i c.args.buf.now c.loop-i.buf c.loop-i.invariant (omega arith)
