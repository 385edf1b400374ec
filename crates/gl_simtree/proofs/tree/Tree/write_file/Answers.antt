use Rattle.std.proofs.Common.{◌≡◌, sym, ◌∙◌, ap, Some, None, unwrap_or, arith}
use Rattle.std.proofs.lemmas.Grind.{common_steps}
use Rattle.std.specs.List.{find}
use Rattle.gl_base.specs.Rows.{Each, change_first}
use Rattle.gl_base.proofs.FirstRows.{Each-find}
use Rattle.gl_simtree.specs.declared.row.TreeRow.{TreeRow}
use Rattle.gl_simtree.specs.Formed.{IsFormedRow}
use Rattle.gl_simtree.specs.Rows.{is_row_of, row_at}
use Rattle.gl_simtree.specs.Values.{row_written}
use Rattle.gl_base.specs.Refusals.{unless}
use Rattle.gl_simtree.specs.Calls.{write_to}
use Rattle.gl_simtree.proofs.Found.{change_first-found}
use Rattle.gl_simtree.proofs.tree.Tree.write_file.Goals as goal

pub returns-in-Some-written-clause-tree : goal.returns-in-Some-written-clause-tree
returns-in-Some-written-clause-tree c =
    let test = is_row_of c.args.directory.now in
    let rows = c.args.self.now in
    let change : TreeRow → TreeRow = λ row. unwrap_or (row_written c.args.file c.args.value.now row) row in
    let found : find test rows ≡ Some c.in-Some.row.now = grind (arith, common_steps, c.in-Some.ensures, c.self.view_is, c.deref.ensures.value) in
    let passes : write_to c.args.directory.now c.args.file c.args.value.now (row_at c.args.directory.now rows) rows ≡ None = grind (arith, common_steps, found, c.is_busy.ensures, c.eq.ensures, c.written.ensures) in
    let put : change c.in-Some.row.now ≡ c.in-Some-written.row = grind (arith, common_steps, c.in-Some-written.ensures) in
    let after : c.replace.new.rows.items ≡ change_first test change rows = c.replace.ensures.rows ∙ ap (change_first test (λ _. c.in-Some-written.row)) c.self.view_is ∙ ap (λ row. change_first test (λ _. row) rows) (sym put) ∙ sym (change_first-found test change rows c.in-Some.row.now found) in
    after ∙ sym (ap (λ refusal. unless refusal (change_first test change rows) rows) passes)

pub invariant_of-self : goal.invariant_of-self
invariant_of-self c =
    let rows = c.self.inside.rows.items in
    let found : find (is_row_of c.args.directory.now) rows ≡ Some c.in-Some.row.now = grind (arith, common_steps, c.in-Some.ensures, c.deref.ensures.value) in
    let formed : Each IsFormedRow rows = c.self.invariant.2 in
    let row : IsFormedRow c.in-Some.row.now = Each-find IsFormedRow (is_row_of c.args.directory.now) rows c.in-Some.row.now formed found in
    (omega (arith, c.self.invariant.0, c.replace.ensures.capacity), omega (arith, c.self.invariant.1, c.replace.ensures.length), c.replace.ensures.formed (c.in-Some-written.ensures.formed row) formed)
