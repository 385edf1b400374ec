use Rattle.std.proofs.Common.{Some, ap, sym, ◌∙◌}
use Rattle.std.specs.Prelude.{box_value}
use Rattle.gl_asking.specs.Files.{is_in}
use Rattle.gl_asking.specs.Rows.{row_file}
use Rattle.gl_asking.specs.declared.kinds.FileRow.{FileRow}
use Rattle.gl_talk.proofs.NamedRows.{row_found, no_row_found}
use Rattle.gl_session.specs.Player.{boxed_file}
use Rattle.gl_session.proofs.rows.row_in.Goals as goal

pub returns-in-Some-clause-found : goal.returns-in-Some-clause-found
returns-in-Some-clause-found c =
    ap (λ (row : FileRow). Some (row_file row)) (c.deref.ensures ∙ ap box_value c.index-rows-at.is)
    ∙ sym (row_found boxed_file (is_in c.args.slot) c.args.rows.now c.in-Some.at c.index-rows-at.result (sym c.in-Some.ensures))

pub returns-in-None-clause-found : goal.returns-in-None-clause-found
returns-in-None-clause-found c = sym (no_row_found boxed_file (is_in c.args.slot) c.args.rows.now (sym c.in-None.ensures))
