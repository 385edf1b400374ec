use Rattle.std.proofs.Common.{◌≡◌, ◌++◌, take, drop, length, Some, subst}
use Rattle.gl_request.specs.Request.{request_at}
use Rattle.gl_request.specs.declared.row.RequestRow.{RequestRow}
use Rattle.gl_uapi.specs.declared.layout.TheConstants.{LINE_VALUES_SIZE}
use Rattle.gl_model.specs.Values.{get_values}
use Rattle.gl_core.specs.Commanded.{part_of}
use Rattle.gl_core.specs.Kept.{Kept, StandsFor}
use Rattle.gl_core.specs.Shape.{IsShaped}
use Rattle.gl_core.proofs.OpenRequests.{each_row_line, on_row}
use Rattle.gl_core.proofs.state.State.get_values.Goals as goal

pub get_values_of-requires-clause-lines : goal.get_values_of-requires-clause-lines
get_values_of-requires-clause-lines c =
    let k : Kept = c.args.self.now in
    let row : RequestRow = c.row-row.result.now in
    let shape : IsShaped k.chips k.origins k.places = subst (λ (k : Kept). IsShaped k.chips k.origins k.places) c.self.view_is c.self.invariant.0 in
    let found : request_at k.requests c.args.found.fd ≡ Some row = subst (λ (k : Kept). request_at k.requests c.args.found.fd ≡ Some row) c.self.view_is c.row-row.ensures.row in
    each_row_line k c.args.place c.args.found.fd row shape c.requires.reached c.requires.opened.opened found c.row-row.ensures.slots c.row-row.ensures.lines.1

pub returns : goal.returns
returns c w s =
    let k : Kept = c.args.self.now in
    let row : RequestRow = c.row-row.result.now in
    let found : request_at k.requests c.args.found.fd ≡ Some row = subst (λ (k : Kept). request_at k.requests c.args.found.fd ≡ Some row) c.self.view_is c.row-row.ensures.row in
    on_row (λ out. StandsFor k out.world × (c.get_values_of.result ≡ out.reply) × (c.get_values_of.new.out ≡ out.bytes ++ drop (length out.bytes) c.args.out.now))
    (get_values c.args.place (take LINE_VALUES_SIZE c.args.bytes.now) (part_of c.args.part)) k w c.args.found.fd row s found (c.get_values_of.ensures row.settings w s)
