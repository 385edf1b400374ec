use Rattle.std.proofs.Common.{Bool, ◌≡◌, List, Some, sym}
use Rattle.std.specs.Prelude.{position}
use Rattle.gl_request.specs.declared.row.RequestRow.{RequestRow}
use Rattle.gl_request.specs.Request.{held, is_number}
use Rattle.gl_request.proofs.Found.{change_first-read}
use Rattle.gl_request.proofs.table.settle_row_at.Goals as goal

pub returns-clause-rows : goal.returns-clause-rows
returns-clause-rows c =
    let rows : List RequestRow = c.args.rows.now.items in
    let row : RequestRow = c.index_mut.result.now in
    let test : RequestRow → Bool = is_number c.args.found.fd in
    let at : position test rows ≡ Some c.args.found.at = c.requires in
    sym (change_first-read test held rows c.args.found.at row at c.index_mut.ensures.value)
