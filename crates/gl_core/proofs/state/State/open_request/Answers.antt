use Rattle.std.proofs.Common.{◌≡◌, ℕ, true, sym, ap, ◌∙◌, subst}
use Rattle.gl_request.specs.Request.{StandsAt, is_open_at, request_at}
use Rattle.gl_model.specs.OpenFiles.{is_request_file}
use Rattle.gl_core.specs.Kept.{Kept}
use Rattle.gl_core.specs.Steps.{Tells}
use Rattle.gl_core.proofs.OpenRequests.{request_passed, request_refused, request_told}
use Rattle.gl_core.proofs.state.State.open_request.Goals as goal

pub returns-in-Some-clause-opened : goal.returns-in-Some-clause-opened
returns-in-Some-clause-opened c =
    let k : Kept = c.args.self.now in
    let there : true ≡ is_open_at c.args.place (request_at k.requests c.args.fd) =
    c.in-Some.ensures.open ∙ ap (λ (k : Kept). is_open_at c.args.place (request_at k.requests c.args.fd)) c.self.view_is in
    record {
      stands = subst (λ (k : Kept). StandsAt c.in-Some.found k.requests) c.self.view_is c.in-Some.ensures.stands;
      opened = subst (λ (n : ℕ). Tells (is_request_file c.args.place n) k true) (sym c.in-Some.ensures.number) (request_told k c.args.place c.args.fd true there);
    }

pub returns-in-Some-clause-passed : goal.returns-in-Some-clause-passed
returns-in-Some-clause-passed c =
    request_passed c.args.self.now c.args.place c.args.fd
    (c.in-Some.ensures.open ∙ ap (λ (k : Kept). is_open_at c.args.place (request_at k.requests c.args.fd)) c.self.view_is)

pub returns-in-None-clause-refused : goal.returns-in-None-clause-refused
returns-in-None-clause-refused c =
    request_refused c.args.self.now c.args.place c.args.fd c.no_request.result
    (c.in-None.ensures.open ∙ ap (λ (k : Kept). is_open_at c.args.place (request_at k.requests c.args.fd)) c.self.view_is)
    c.no_request.ensures
