use Rattle.std.proofs.Common.{sym, ◌∙◌, ap}
use Rattle.std.specs.List.{position}
use Rattle.gl_talk.specs.Open.{file_in, is_file, is_row}
use Rattle.gl_talk.proofs.NamedRows.{row_removed, no_row_removed}
use Rattle.gl_talk.proofs.files.remove_file.Goals as goal

pub returns-in-Some : goal.returns-in-Some
returns-in-Some c =
    row_removed file_in (is_file c.args.name.now) c.args.files.now.items _ c.in-Some.at c.remove.result (sym (c.in-Some.ensures ∙ ap (position (is_row c.args.name.now)) c.deref.ensures.value))
    c.remove.ensures.items

pub returns-in-None : goal.returns-in-None
returns-in-None c = no_row_removed file_in (is_file c.args.name.now) c.args.files.now.items (sym (c.in-None.ensures ∙ ap (position (is_row c.args.name.now)) c.deref.ensures.value))
