use Rattle.std.proofs.Common.{List, map, ◌∙◌, ap, sym}
use Rattle.gl_asking.specs.Asking.{file_for}
use Rattle.gl_asking.specs.Files.{OpenFile}
use Rattle.gl_session.specs.Player.{boxed_file}
use Rattle.gl_session.proofs.rows.Rows.lent.Goals as goal

pub returns-clause-found : goal.returns-clause-found
returns-clause-found c =
    ap (λ (files : List OpenFile). file_for c.args.what.now files) (sym c.self.view_is)
    ∙ ap (λ rows. file_for c.args.what.now (map boxed_file rows)) (sym c.deref.ensures.value) ∙ c.row_for.ensures.found
