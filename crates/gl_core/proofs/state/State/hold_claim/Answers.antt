use Rattle.std.proofs.Common.{◌≡◌, Some, sym, ap, ◌∙◌, subst}
use Rattle.std.specs.Option.{option_map}
use Rattle.gl_base.specs.Lines.{offsets_of}
use Rattle.gl_request.specs.Request.{held, request_at as row_at}
use Rattle.gl_request.specs.declared.row.RequestRow.{RequestRow}
use Rattle.gl_uapi.specs.declared.layout.TheConstants.{CHANGED_REQUESTED}
use Rattle.gl_model.specs.Configuring.{configure_each}
use Rattle.gl_model.specs.Notify.{notify_each}
use Rattle.gl_core.specs.Claims.{settled_claim}
use Rattle.gl_core.specs.Kept.{Kept, StandsFor, kept_request}
use Rattle.gl_core.proofs.Telling.{each_claimed, each_offset, row_same}
use Rattle.gl_core.proofs.state.State.hold_claim.Goals as goal

pub configure_each-requires-clause-lines : goal.configure_each-requires-clause-lines
configure_each-requires-clause-lines c i lt =
    let k : Kept = c.args.self.now in
    let row : RequestRow = c.row-row.result.now in
    let found : row_at k.requests c.args.found.fd ≡ Some row = subst (λ (k : Kept). row_at k.requests c.args.found.fd ≡ Some row) c.self.view_is c.row-row.ensures.row in
    c.settle_claim.ensures.lines _ _ (each_claimed k.places row.place row.lines c.row-row.ensures.slots c.row-row.ensures.lines.1 (c.requires.lines row found) i lt)

pub notify_each-requires-clause-lines : goal.notify_each-requires-clause-lines
notify_each-requires-clause-lines c =
    let k : Kept = c.args.self.now in
    let row : RequestRow = c.row-row.result.now in
    let found : row_at k.requests c.args.found.fd ≡ Some row = subst (λ (k : Kept). row_at k.requests c.args.found.fd ≡ Some row) c.self.view_is c.row-row.ensures.row in
    each_offset c.configure_each.new.self.places row.place row.lines
    (λ i lt. c.configure_each.ensures.lines _ _ (c.settle_claim.ensures.lines _ _ (each_claimed k.places row.place row.lines c.row-row.ensures.slots c.row-row.ensures.lines.1 (c.requires.lines row found) i lt)))

pub returns : goal.returns
returns c request is w s =
    let k : Kept = c.args.self.now in
    let row : RequestRow = c.row-row.result.now in
    let found : row_at k.requests c.args.found.fd ≡ Some row = subst (λ (k : Kept). row_at k.requests c.args.found.fd ≡ Some row) c.self.view_is c.row-row.ensures.row in
    let same : row ≡ kept_request request = row_same k.requests c.args.found.fd row (kept_request request) found is in
    let settled : StandsFor c.settle_claim.new.self (settled_claim request w) =
    c.settle_claim.ensures.follows request is (ap (λ (r : RequestRow). r.place) (sym same)) (ap (λ (r : RequestRow). r.lines) (sym same)) w s in
    let there : row_at c.settle_claim.new.self.requests c.args.found.fd ≡ Some (held row) = c.settle_claim.ensures.row ∙ ap (option_map held) found in
    subst (λ (r : RequestRow). StandsFor c.notify_each.new.self (notify_each r.place (offsets_of r.lines) CHANGED_REQUESTED (configure_each r.place r.lines r.settings c.args.bits (settled_claim request w)))) same
    (c.notify_each.ensures.follows _ (c.configure_each.ensures.follows (held row) there (settled_claim request w) settled))
