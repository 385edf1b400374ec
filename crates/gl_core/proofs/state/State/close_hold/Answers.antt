use Rattle.std.proofs.Common.{◌≡◌, Some, ap, subst}
use Rattle.std.specs.Option.{option_map}
use Rattle.gl_request.specs.Request.{claim_of, request_at as row_at}
use Rattle.gl_request.specs.declared.row.RequestRow.{RequestRow}
use Rattle.gl_core.specs.Kept.{Kept}
use Rattle.gl_core.specs.Shape.{IsShaped}
use Rattle.gl_core.proofs.Closing.{claim_refused, hold_closed}
use Rattle.gl_core.proofs.RequestLines.{lines_reached}
use Rattle.gl_core.proofs.state.State.close_hold.Goals as goal

pub returns-then-not-row : goal.returns-then-not-row
returns-then-not-row c w s =
    let k : Kept = c.args.self.now in
    let row : RequestRow = c.row.result.now in
    let found : row_at k.requests c.args.found.fd ≡ Some row = subst (λ (k : Kept). row_at k.requests c.args.found.fd ≡ Some row) c.self.view_is c.row.ensures.row in
    claim_refused k w c.args.found.fd row s c.requires.reached found c.if-not-row.true

pub close_request-requires-clause-lines : goal.close_request-requires-clause-lines
close_request-requires-clause-lines c row is =
    let k : Kept = c.args.self.now in
    let shape : IsShaped k.chips k.origins k.places = subst (λ (k : Kept). IsShaped k.chips k.origins k.places) c.self.view_is c.self.invariant.0 in
    lines_reached k c.args.found.fd (claim_of row) shape c.requires.reached (ap (option_map claim_of) is)

pub returns : goal.returns
returns c w s =
    let k : Kept = c.args.self.now in
    let row : RequestRow = c.row.result.now in
    let found : row_at k.requests c.args.found.fd ≡ Some row = subst (λ (k : Kept). row_at k.requests c.args.found.fd ≡ Some row) c.self.view_is c.row.ensures.row in
    hold_closed k w c.args.found.fd row c.close_request.new.self s c.requires.reached found c.if-not-row.false c.close_request.ensures
