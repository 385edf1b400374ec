use Rattle.std.proofs.Common.{◌≡◌, List, Some, sym, subst}
use Rattle.gl_base.specs.Lines.{offsets_of}
use Rattle.gl_desc.specs.Desc.{freed}
use Rattle.gl_request.specs.Request.{request_at as row_at}
use Rattle.gl_model.specs.declared.place.Place.{Place}
use Rattle.gl_core.specs.Kept.{Kept, StandsFor, kept_request}
use Rattle.gl_core.specs.Shape.{IsShaped}
use Rattle.gl_core.specs.View.{view_of}
use Rattle.gl_core.proofs.Shapes.{shape_with_descs}
use Rattle.gl_core.proofs.Telling.{dropped_stands}
use Rattle.gl_core.proofs.state.State.drop_claim.Goals as goal

pub invariant_of-self : goal.invariant_of-self
invariant_of-self c = (
  subst (λ (ps : List Place). IsShaped c.self.inside.chips c.self.inside.origins.items ps) (sym c.unclaim.ensures)
      (shape_with_descs c.self.inside.chips c.self.inside.origins.items c.self.inside.places c.take_at-row.result.place (offsets_of c.take_at-row.result.lines) freed c.self.invariant.0),
  c.self.invariant.1,
)

pub returns : goal.returns
returns c request is w s =
    rw (c.unclaim.ensures, c.take_at-row.ensures.rows)
    (dropped_stands (view_of c.self.inside) w request c.take_at-row.result c.args.found.fd (subst (λ k. StandsFor k w) (sym c.self.view_is) s) c.take_at-row.ensures.row
    (subst (λ (k : Kept). row_at k.requests c.args.found.fd ≡ Some (kept_request request)) (sym c.self.view_is) is))
