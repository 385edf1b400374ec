use Rattle.std.proofs.Common.{◌≡◌, ℕ, None, subst}
use Rattle.gl_request.specs.Request.{request_at as row_at}
use Rattle.gl_model.specs.Opening.{close}
use Rattle.gl_model.specs.World.{World}
use Rattle.gl_core.specs.Kept.{Kept, StandsFor}
use Rattle.gl_core.proofs.OpenRequests.{none_there}
use Rattle.gl_core.proofs.state.State.close.Goals as goal

pub close_file-requires : goal.close_file-requires
close_file-requires c =
    subst (λ (k : Kept). row_at k.requests c.args.fd ≡ None) c.self.view_is (none_there (row_at c.self.inside.requests c.args.fd) c.in-None.ensures.there)

pub returns-in-Some : goal.returns-in-Some
returns-in-Some c =
    subst (λ (n : ℕ). (w : World) → StandsFor c.args.self.now w → StandsFor c.close_hold.new.self (close n w).world × (c.close_hold.result ≡ (close n w).reply)) c.in-Some.ensures.number c.close_hold.ensures
