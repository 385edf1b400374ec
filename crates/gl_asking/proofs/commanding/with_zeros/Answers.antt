use Rattle.gl_asking.proofs.HandedBytes.{copied_is}
use Rattle.gl_asking.proofs.commanding.with_zeros.Goals as goal

pub returns : goal.returns
returns c = copied_is _ c.args.buffer.now c.copy_from_slice.new.self c.min-count.ensures c.copy_from_slice.ensures.after
