use Rattle.std.proofs.Common.{List, ◌≡◌, ◌∙◌, ap, subst}
use Rattle.std.specs.Prelude.{OnOk, map}
use Rattle.gl_asking.specs.Changes.{changed}
use Rattle.gl_asking.specs.Files.{OpenFile}
use Rattle.gl_session.specs.Player.{boxed_file}
use Rattle.gl_session.proofs.Mapped.{on_err_weaker}
use Rattle.gl_session.proofs.rows.Rows.change.Goals as goal

pub returns-clause-changed : goal.returns-clause-changed
returns-clause-changed c =
    subst (λ (files : List OpenFile). OnOk c.make.result (map boxed_file c.make.new.rows.items ≡ changed c.args.change files)) c.self.view_is c.make.ensures.changed

pub returns-clause-unchanged : goal.returns-clause-unchanged
returns-clause-unchanged c = on_err_weaker c.make.result (λ same. ap (λ rows. map boxed_file rows) same ∙ c.self.view_is) c.make.ensures.unchanged
