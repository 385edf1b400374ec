use Rattle.std.proofs.Math.Facts.{Fits-lt-pow}
use Rattle.gl_trace.proofs.Bytes.{are_bytes}
use Rattle.gl_trace.proofs.typed.fits_bytes.Goals as goal

pub returns : goal.returns
returns c = are_bytes c.args.bytes.now (λ k. Fits-lt-pow (c.type_inv.bytes k))
