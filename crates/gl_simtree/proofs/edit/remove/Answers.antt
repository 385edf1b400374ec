use Rattle.std.proofs.Common.{sym, ◌∙◌, ap}
use Rattle.std.specs.List.{position}
use Rattle.gl_base.proofs.FirstRows.{without_first-position}
use Rattle.gl_simtree.specs.Rows.{is_row_of}
use Rattle.gl_simtree.proofs.edit.remove.Goals as goal

pub returns-in-Some-clause-rows : goal.returns-in-Some-clause-rows
returns-in-Some-clause-rows c =
    let test = is_row_of c.args.directory.now in
    c.remove.ensures.items ∙ sym (without_first-position test c.args.rows.now.items c.in-Some.at c.remove.result (sym (c.in-Some.ensures ∙ ap (position test) c.deref.ensures.value)))
