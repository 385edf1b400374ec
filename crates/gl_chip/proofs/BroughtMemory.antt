-- Memory that a call brings.
use Rattle.std.proofs.Common.{◌≡◌, Result, Ok, Err}
use Rattle.std.specs.Prelude.{IfErr, IsOkUnless}
use Rattle.gl_base.specs.declared.errno.Errno.{Errno}
use Rattle.gl_base.specs.declared.errno.Errno.TheVariants.{NoMemory}
use Rattle.gl_model.specs.declared.gift.Gift.{Gift}

-- why none was brought
pub memory_of : (result : Result Gift Errno) (Takes : Type 0) → IsOkUnless result NoMemory → IfErr result (λ e. Takes) → IfErr result (λ e. (e ≡ NoMemory) × Takes)
memory_of (Ok gift) Takes alone takes = tt
memory_of (Err errno) Takes alone takes = (alone, takes)
