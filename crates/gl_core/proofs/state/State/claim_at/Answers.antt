use Rattle.std.proofs.Common.{◌≡◌, ℕ, Option, Some, None, sym, ap, ◌∙◌, subst}
use Rattle.std.specs.Option.{option_and_then, option_map}
use Rattle.gl_request.specs.Request.{HaveDifferentNumbers, claim_of, request_at as row_at}
use Rattle.gl_request.specs.declared.row.RequestRow.{RequestRow}
use Rattle.gl_model.specs.Claiming.{claim_at, claim_number}
use Rattle.gl_model.specs.World.{request_at}
use Rattle.gl_core.specs.Kept.{Kept, StandsFor, kept_request}
use Rattle.gl_core.specs.Shape.{IsShaped}
use Rattle.gl_core.specs.View.{view_of}
use Rattle.gl_core.proofs.Claims.{claim_kept}
use Rattle.gl_core.proofs.KeptRequests.{kept_at, numbers_differ}
use Rattle.gl_core.proofs.RequestLines.{lines_reached}
use Rattle.gl_core.proofs.Telling.{none_at, other_at, some_at}
use Rattle.gl_core.proofs.state.State.claim_at.Goals as goal

pub find_pending-requires : goal.find_pending-requires
find_pending-requires c = subst (λ (k : Kept). HaveDifferentNumbers k.requests) (sym c.self.view_is) (numbers_differ c.args.self.now c.requires)

pub returns-in-None-clause-told : goal.returns-in-None-clause-told
returns-in-None-clause-told c w s =
    none_at c.args.place (claim_number w.requests c.args.actor) w.requests
    (c.in-None.ensures.number ∙ claim_kept (view_of c.self.inside) w c.args.actor (subst (λ (k : Kept). StandsFor k w) (sym c.self.view_is) s))

pub returns-then-row-place-clause-told : goal.returns-then-row-place-clause-told
returns-then-row-place-clause-told c w s =
    let k : Kept = c.args.self.now in
    let fd : ℕ = c.in-Some.found.fd in
    let row : RequestRow = c.row.result.now in
    let number : Some fd ≡ claim_number w.requests c.args.actor =
    c.in-Some.ensures.number ∙ claim_kept (view_of c.self.inside) w c.args.actor (subst (λ (k : Kept). StandsFor k w) (sym c.self.view_is) s) in
    let found : row_at k.requests fd ≡ Some row = subst (λ (k : Kept). row_at k.requests fd ≡ Some row) c.self.view_is c.row.ensures.row in
    let kept : row_at k.requests fd ≡ option_map kept_request (request_at w.requests fd) = kept_at k w fd s in
    subst (λ (n : Option ℕ). row_at k.requests fd ≡ option_map kept_request (claim_at c.args.place (option_and_then (request_at w.requests) n))) number
    (kept ∙ some_at c.args.place row (request_at w.requests fd) (sym found ∙ kept) c.if-row-place.true)

pub returns-else-row-place-clause-told : goal.returns-else-row-place-clause-told
returns-else-row-place-clause-told c w s =
    let k : Kept = c.args.self.now in
    let fd : ℕ = c.in-Some.found.fd in
    let row : RequestRow = c.row.result.now in
    let number : Some fd ≡ claim_number w.requests c.args.actor =
    c.in-Some.ensures.number ∙ claim_kept (view_of c.self.inside) w c.args.actor (subst (λ (k : Kept). StandsFor k w) (sym c.self.view_is) s) in
    let found : row_at k.requests fd ≡ Some row = subst (λ (k : Kept). row_at k.requests fd ≡ Some row) c.self.view_is c.row.ensures.row in
    let kept : row_at k.requests fd ≡ option_map kept_request (request_at w.requests fd) = kept_at k w fd s in
    subst (λ (n : Option ℕ). None ≡ option_map kept_request (claim_at c.args.place (option_and_then (request_at w.requests) n))) number
    (other_at c.args.place row (request_at w.requests fd) (sym found ∙ kept) c.if-row-place.false)

pub returns-then-row-place-clause-lines : goal.returns-then-row-place-clause-lines
returns-then-row-place-clause-lines c row is =
    let k : Kept = c.args.self.now in
    let shape : IsShaped k.chips k.origins k.places = subst (λ (k : Kept). IsShaped k.chips k.origins k.places) c.self.view_is c.self.invariant.0 in
    lines_reached k c.in-Some.found.fd (claim_of row) shape c.requires (ap (option_map claim_of) is)
