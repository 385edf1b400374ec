use Rattle.std.proofs.Common.{Some, sym, ◌∙◌, ap}
use Rattle.std.specs.Prelude.{box_value}
use Rattle.std.specs.List.{position}
use Rattle.gl_asking.specs.Files.{is_in}
use Rattle.gl_asking.specs.Rows.{row_file}
use Rattle.gl_asking.specs.declared.kinds.FileRow.{FileRow}
use Rattle.gl_talk.proofs.NamedRows.{no_row_found, no_row_removed, row_found, row_removed}
use Rattle.gl_session.specs.Player.{boxed_file, is_boxed_row}
use Rattle.gl_session.proofs.rows.take.Goals as goal

pub returns-in-Some-clause-changed : goal.returns-in-Some-clause-changed
returns-in-Some-clause-changed c =
    row_removed boxed_file (is_in c.args.slot) c.args.rows.now.items _ c.in-Some.at c.remove.result (sym (c.in-Some.ensures ∙ ap (position (is_boxed_row c.args.slot)) c.deref.ensures.value))
    c.remove.ensures.items

pub returns-in-None-clause-changed : goal.returns-in-None-clause-changed
returns-in-None-clause-changed c = no_row_removed boxed_file (is_in c.args.slot) c.args.rows.now.items (sym (c.in-None.ensures ∙ ap (position (is_boxed_row c.args.slot)) c.deref.ensures.value))

pub returns-in-None-clause-taken : goal.returns-in-None-clause-taken
returns-in-None-clause-taken c = sym (no_row_found boxed_file (is_in c.args.slot) c.args.rows.now.items (sym (c.in-None.ensures ∙ ap (position (is_boxed_row c.args.slot)) c.deref.ensures.value)))

pub returns-in-Some-clause-taken : goal.returns-in-Some-clause-taken
returns-in-Some-clause-taken c =
    ap (λ (row : FileRow). Some (row_file row)) (c.into_inner.ensures ∙ ap box_value c.remove.ensures.value)
    ∙ sym (row_found boxed_file (is_in c.args.slot) c.args.rows.now.items c.in-Some.at c.remove.result (sym (c.in-Some.ensures ∙ ap (position (is_boxed_row c.args.slot)) c.deref.ensures.value)))
