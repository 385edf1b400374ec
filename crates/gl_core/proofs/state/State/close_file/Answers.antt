use Rattle.std.proofs.Common.{◌≡◌, true, false, None, sym, ap, ◌∙◌, subst}
use Rattle.std.specs.Prelude.{is_some}
use Rattle.gl_request.specs.Request.{request_at as row_at}
use Rattle.gl_watch.specs.Answers.{changes_of}
use Rattle.gl_watch.specs.Files.{file_at}
use Rattle.gl_core.specs.Kept.{Kept, StandsFor}
use Rattle.gl_core.specs.View.{view_of}
use Rattle.gl_core.proofs.Closing.{file_done, file_refused}
use Rattle.gl_core.proofs.state.State.close_file.Goals as goal

pub returns-then-not-there : goal.returns-then-not-there
returns-then-not-there c w s =
    let none : is_some (changes_of (file_at c.args.fd c.self.inside.files)) ≡ false = ap is_some (sym c.remove.ensures.queue) ∙ sym c.is_some-there.ensures ∙ c.if-not-there.true in
    file_refused (view_of c.self.inside) w c.args.fd c.remove.new.self (subst (λ k. StandsFor k w) (sym c.self.view_is) s)
    (subst (λ (k : Kept). row_at k.requests c.args.fd ≡ None) (sym c.self.view_is) c.requires) none c.remove.ensures.files

pub returns : goal.returns
returns c w s =
    let there : is_some (changes_of (file_at c.args.fd c.self.inside.files)) ≡ true = ap is_some (sym c.remove.ensures.queue) ∙ sym c.is_some-there.ensures ∙ c.if-not-there.false in
    file_done (view_of c.self.inside) w c.args.fd c.remove.new.self (subst (λ k. StandsFor k w) (sym c.self.view_is) s)
    (subst (λ (k : Kept). row_at k.requests c.args.fd ≡ None) (sym c.self.view_is) c.requires) there c.remove.ensures.files
