use Rattle.std.proofs.Common.{Bool, ◌≡◌, List, Some, ap, set, sym, ◌∙◌}
use Rattle.std.specs.Prelude.{position}
use Rattle.circular_buffer.specs.Buffer.{Buffer}
use Rattle.gl_uapi.specs.declared.line_events.Event.{Event}
use Rattle.gl_request.specs.declared.row.RequestRow.{RequestRow}
use Rattle.gl_request.specs.Request.{read_from, is_number}
use Rattle.gl_request.proofs.Found.{change_first-read}
use Rattle.gl_request.proofs.table.read_row_at.Goals as goal

pub returns-clause-rows : goal.returns-clause-rows
returns-clause-rows c =
    let rows : List RequestRow = c.args.rows.now.items in
    let row : RequestRow = c.index_mut.result.now in
    let test : RequestRow → Bool = is_number c.args.found.fd in
    let at : position test rows ≡ Some c.args.found.at = c.requires.stands in
    ap (λ (ring : Buffer Event). set rows c.args.found.at (record row { ring = ring })) c.read.ensures.ring
    ∙ sym (change_first-read test (read_from c.args.max) rows c.args.found.at row at c.index_mut.ensures.value)
