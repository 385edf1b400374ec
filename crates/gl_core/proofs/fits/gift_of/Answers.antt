use Rattle.std.proofs.Common.{◌≡◌, Result, Err, Some, sym, ap, ◌∙◌}
use Rattle.gl_base.specs.declared.errno.Errno.{Errno}
use Rattle.gl_model.specs.AskedLines.{AskedLines, asked_by, request_fault}
use Rattle.gl_model.proofs.AskedFor.{nothing_asked}
use Rattle.gl_core.proofs.fits.gift_of.Goals as goal

pub returns-in-Err-clause-ok : goal.returns-in-Err-clause-ok
returns-in-Err-clause-ok c bytes is =
    let refused : Some (Err c.in-Err.errno) ≡ Some (asked_by bytes) = ap (λ (asked : Result AskedLines Errno). Some asked) (sym c.in-Err.is ∙ is) in
    record { asked = refused; ring = λ faultless. absurd (nothing_asked (request_fault bytes) bytes c.in-Err.errno refused faultless) }
