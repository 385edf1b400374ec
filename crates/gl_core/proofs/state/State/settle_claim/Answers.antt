use Rattle.std.proofs.Common.{◌≡◌, List, Some, sym, subst}
use Rattle.std.specs.Option.{option_map}
use Rattle.gl_base.specs.Lines.{offsets_of}
use Rattle.gl_desc.specs.Desc.{settled}
use Rattle.gl_request.specs.Request.{held, request_at as row_at}
use Rattle.gl_model.specs.Claiming.{with_descs}
use Rattle.gl_model.specs.declared.place.Place.{Place}
use Rattle.gl_core.specs.Kept.{Kept, StandsFor, kept_request}
use Rattle.gl_core.specs.Shape.{HasLine, IsShaped}
use Rattle.gl_core.specs.View.{view_of}
use Rattle.gl_core.proofs.Shapes.{line_stays, shape_with_descs, with_descs_keep}
use Rattle.gl_core.proofs.Telling.{settled_stands}
use Rattle.gl_core.proofs.state.State.settle_claim.Goals as goal

pub invariant_of-self : goal.invariant_of-self
invariant_of-self c = (
  subst (λ (ps : List Place). IsShaped c.self.inside.chips c.self.inside.origins.items ps) (sym c.settle.ensures)
      (shape_with_descs c.self.inside.chips c.self.inside.origins.items c.self.inside.places c.args.place (offsets_of c.args.lines.now) settled c.self.invariant.0),
  c.self.invariant.1,
)

pub returns-clause-follows : goal.returns-clause-follows
returns-clause-follows c request is at of w s =
    rw (c.settle.ensures, c.settle_at.ensures.rows)
    (settled_stands (view_of c.self.inside) w request c.args.found.fd c.args.place c.args.lines.now (subst (λ k. StandsFor k w) (sym c.self.view_is) s)
    (subst (λ (k : Kept). row_at k.requests c.args.found.fd ≡ Some (kept_request request)) (sym c.self.view_is) is) at of)

pub returns-clause-lines : goal.returns-clause-lines
returns-clause-lines c place offset line =
    let before : HasLine c.self.inside.places place offset = subst (λ (k : Kept). HasLine k.places place offset) (sym c.self.view_is) line in
    subst (λ (places : List Place). HasLine places place offset) (sym c.settle.ensures)
    (line_stays c.self.inside.places c.args.place place offset (with_descs (offsets_of c.args.lines.now) settled) (with_descs_keep (offsets_of c.args.lines.now) settled) before)

pub returns-clause-row : goal.returns-clause-row
returns-clause-row c = subst (λ (k : Kept). row_at c.settle_at.new.self c.args.found.fd ≡ option_map held (row_at k.requests c.args.found.fd)) c.self.view_is c.settle_at.ensures.row
