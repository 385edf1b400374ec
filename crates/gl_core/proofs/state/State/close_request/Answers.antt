use Rattle.std.proofs.Common.{◌≡◌, List, Some, ap, sym, subst, ◌∙◌}
use Rattle.std.specs.Option.{option_map}
use Rattle.gl_request.specs.Request.{claim_of, request_at as row_at}
use Rattle.gl_request.specs.declared.row.RequestRow.{RequestRow}
use Rattle.gl_base.specs.Lines.{offsets_of}
use Rattle.gl_base.specs.Rows.{Each}
use Rattle.gl_model.specs.declared.place.Place.{Place}
use Rattle.gl_model.specs.Opening.{with_timers_let_go}
use Rattle.gl_core.specs.Kept.{Kept, StandsFor}
use Rattle.gl_core.specs.Shape.{HasLine, IsInRange, IsShaped}
use Rattle.gl_core.specs.View.{view_of}
use Rattle.gl_core.proofs.Closing.{closed_stands, lines_freed, lines_in_range, shape_freed}
use Rattle.gl_core.proofs.state.State.close_request.Goals as goal

pub let_go_each-requires : goal.let_go_each-requires
let_go_each-requires c =
    let row : RequestRow = c.take_at-row.result in
    let found : row_at c.args.self.now.requests c.args.found.fd ≡ Some row = subst (λ (k : Kept). row_at k.requests c.args.found.fd ≡ Some row) c.self.view_is c.take_at-row.ensures.row in
    subst (Each (IsInRange row.place)) (sym c.offsets.ensures)
    (lines_in_range c.self.inside.places row.place (offsets_of row.lines) (subst (λ (k : Kept). Each (HasLine k.places row.place) (offsets_of row.lines)) (sym c.self.view_is) (c.requires.lines row found)))

pub invariant_of-self : goal.invariant_of-self
invariant_of-self c = (
  subst (λ (ps : List Place). IsShaped c.self.inside.chips c.self.inside.origins.items ps) (sym c.free.ensures)
      (shape_freed c.self.inside.chips c.self.inside.origins.items c.self.inside.places c.take_at-row.result.place (offsets_of c.take_at-row.result.lines) c.self.invariant.0),
  c.self.invariant.1,
)

pub notify_each-requires-clause-lines : goal.notify_each-requires-clause-lines
notify_each-requires-clause-lines c =
    let row : RequestRow = c.take_at-row.result in
    let found : row_at c.args.self.now.requests c.args.found.fd ≡ Some row = subst (λ (k : Kept). row_at k.requests c.args.found.fd ≡ Some row) c.self.view_is c.take_at-row.ensures.row in
    subst (λ (ps : List Place). Each (HasLine ps row.place) (offsets_of row.lines)) (sym c.free.ensures)
    (lines_freed c.self.inside.places row.place (offsets_of row.lines) (offsets_of row.lines) (subst (λ (k : Kept). Each (HasLine k.places row.place) (offsets_of row.lines)) (sym c.self.view_is) (c.requires.lines row found)))

pub returns : goal.returns
returns c w s =
    let row : RequestRow = c.take_at-row.result in
    closed_stands (view_of c.self.inside) w c.args.found.fd (claim_of row) c.take_at-row.new.self c.let_go_each.new.timers c.free.new.self c.notify_each.new.self (subst (λ k. StandsFor k w) (sym c.self.view_is) s)
    (ap (option_map claim_of) c.take_at-row.ensures.row) c.take_at-row.ensures.rows (c.let_go_each.ensures ∙ ap (λ offsets. with_timers_let_go row.place offsets c.self.inside.timers) c.offsets.ensures) c.free.ensures c.notify_each.ensures.follows
