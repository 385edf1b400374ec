use Rattle.std.proofs.Common.{sym, ◌∙◌, ap}
use Rattle.std.specs.List.{position}
use Rattle.gl_base.proofs.FirstRows.{change_first-position}
use Rattle.gl_simtree.specs.Rows.{is_row_of}
use Rattle.gl_simtree.proofs.edit.replace.Goals as goal

pub returns-in-Some-clause-rows : goal.returns-in-Some-clause-rows
returns-in-Some-clause-rows c =
    let test = is_row_of c.args.directory.now in
    sym (change_first-position test (λ _. c.args.row) c.args.rows.now.items c.in-Some.at c.args.row (sym (c.in-Some.ensures ∙ ap (position test) c.deref.ensures.value)))
