use Rattle.std.proofs.Common.{◌≡◌, length, Option, Some, ap, sym, ◌∙◌, subst}
use Rattle.std.specs.Option.{option_map_or}
use Rattle.gl_request.specs.Request.{request_at}
use Rattle.gl_request.specs.declared.row.RequestRow.{RequestRow}
use Rattle.gl_core.specs.Kept.{Kept}
use Rattle.gl_core.proofs.ReadEvents.{waiting_told}
use Rattle.gl_core.proofs.state.State.events_waiting.Goals as goal

pub returns : goal.returns
returns c w s =
    let k : Kept = c.args.self.now in
    let row : RequestRow = c.row.result.now in
    let found : request_at k.requests c.args.found.fd ≡ Some row = subst (λ (k : Kept). request_at k.requests c.args.found.fd ≡ Some row) c.self.view_is c.row.ensures.row in
    c.len.ensures.len ∙ ap (λ (o : Option RequestRow). option_map_or (λ (row : RequestRow). length row.ring.items) o 0) (sym found) ∙ waiting_told k w c.args.found.fd s
