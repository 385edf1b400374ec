use Rattle.std.proofs.Common.{sym, ◌∙◌, ap, set}
use Rattle.std.specs.List.{position}
use Rattle.gl_base.proofs.FirstRows.{change_first-position}
use Rattle.gl_simtree.specs.declared.row.TreeRow.{TreeRow}
use Rattle.gl_simtree.specs.declared.node.Directory.TheVariants.{Device}
use Rattle.gl_simtree.specs.Rows.{is_row_of, row_with_state}
use Rattle.gl_simtree.proofs.edit.set_state.Goals as goal

pub returns-in-Some-clause-rows : goal.returns-in-Some-clause-rows
returns-in-Some-clause-rows c =
    let test = is_row_of (Device c.args.device.now) in
    let change = row_with_state c.args.state in
    ap (λ (row : TreeRow). set c.args.rows.now.items c.in-Some.at row) (c.set_state.ensures.row ∙ ap change c.index_mut.ensures.value)
    ∙ sym (change_first-position test change c.args.rows.now.items c.in-Some.at c.index_mut.result.now (sym (c.in-Some.ensures ∙ ap (position test) c.deref.ensures.value)))
