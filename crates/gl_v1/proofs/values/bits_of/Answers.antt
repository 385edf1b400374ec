use Rattle.std.proofs.Common.{arith}
use Rattle.gl_v1.proofs.Bits.{bits_fit}
use Rattle.gl_v1.proofs.values.bits_of.Goals as goal

pub overflow_add-bits : goal.overflow_add-bits
overflow_add-bits c =
    let fit = bits_fit c.args.bytes.now c.loop-i.i c.loop-i.bits c.bit_of-bits.result c.requires (omega arith) c.loop-i.invariant c.bit_of-bits.ensures in
    omega arith
