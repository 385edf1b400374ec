use Rattle.std.proofs.Common.{subst, sym, ap, ◌≡◌, ◌∙◌}
use Rattle.gl_model.specs.Entries.{last_call}
use Rattle.gl_model.specs.Fits.{Fits, FitsCall}
use Rattle.gl_model.specs.Parts.{first_call}
use Rattle.gl_served.proofs.LastCalls.{last_call_fits}
use Rattle.gl_served.proofs.making.end_removal.Goals as goal

pub step-requires : goal.step-requires
step-requires c =
    let same : c.last_call.result ≡ last_call (first_call c.args.removal.now) = c.last_call.ensures.last ∙ ap last_call c.requires.first in
    subst (λ call. Fits call c.nothing.result c.new.result.items) (sym same)
    (last_call_fits c.args.removal.now c.nothing.result c.new.result.items (subst FitsCall same (c.last_call.ensures.fits c.requires.fits)))
