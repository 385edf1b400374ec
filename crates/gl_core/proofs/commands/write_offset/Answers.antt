use Rattle.std.proofs.Common.{◌++◌, drop, sym, ap, ◌∙◌}
use Rattle.std.proofs.Math.Facts.{Fits-lt-pow}
use Rattle.gl_core.proofs.Buffers.{four_bytes}
use Rattle.gl_core.proofs.commands.write_offset.Goals as goal

pub returns-clause-out : goal.returns-clause-out
returns-clause-out c =
    ap (λ xs. xs ++ drop 4 c.args.out.now) (c.copy_from_slice.ensures.after ∙ sym (four_bytes c.args.bytes.now c.requires.bytes (λ k. Fits-lt-pow (c.type_inv.bytes k))))
