use Rattle.std.proofs.Common.{ap, ◌∙◌}
use Rattle.gl_request.specs.Request.{is_open_at, request_at}
use Rattle.gl_core.specs.Kept.{Kept}
use Rattle.gl_core.proofs.OpenRequests.{request_told}
use Rattle.gl_core.proofs.state.State.is_request_file.Goals as goal

pub returns : goal.returns
returns c =
    request_told c.args.self.now c.args.place c.args.fd c.is_some.result
    (c.is_some.ensures ∙ c.find_open.ensures.open ∙ ap (λ (k : Kept). is_open_at c.args.place (request_at k.requests c.args.fd)) c.self.view_is)
