use Rattle.std.proofs.Common.{◌≡◌, Some, ap, ◌∙◌}
use Rattle.std.specs.Prelude.{position}
use Rattle.gl_request.specs.Request.{is_number}
use Rattle.gl_request.proofs.Found.{stays}
use Rattle.gl_request.proofs.table.Requests.settle_at.Goals as goal

pub returns-clause-stands : goal.returns-clause-stands
returns-clause-stands c =
    let test = is_number c.args.found.fd in
    let stood : position test c.self.inside.rows.items ≡ Some c.args.found.at = ap (position test) c.self.view_is ∙ c.requires in
    ap (position test) c.settle_row_at.ensures.rows ∙ stays c.args.found.fd c.args.found.at c.self.inside.rows.items stood
