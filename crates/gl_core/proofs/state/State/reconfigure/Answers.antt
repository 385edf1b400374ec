use Rattle.std.proofs.Common.{◌≡◌, List, Some, sym, subst}
use Rattle.gl_request.specs.Request.{request_at}
use Rattle.gl_model.specs.declared.place.Place.{Place}
use Rattle.gl_core.specs.Kept.{Kept}
use Rattle.gl_core.specs.Shape.{HasEachLine}
use Rattle.gl_core.proofs.state.State.reconfigure.Goals as goal

pub reconfigure_each-requires-clause-lines : goal.reconfigure_each-requires-clause-lines
reconfigure_each-requires-clause-lines c =
    let found : request_at c.args.self.now.requests c.args.found.fd ≡ Some c.row-row.result.now =
    subst (λ (k : Kept). request_at k.requests c.args.found.fd ≡ Some c.row-row.result.now) c.self.view_is c.row-row.ensures.row in
    subst (λ (ps : List Place). HasEachLine ps c.args.place c.row-row.result.now.lines) (sym c.keep_settings.ensures.places) (c.requires.lines c.row-row.result.now found)
