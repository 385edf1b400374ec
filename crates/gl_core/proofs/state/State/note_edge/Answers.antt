use Rattle.std.proofs.Common.{◌≡◌, ℕ, List, Option, Some, ap, ◌∙◌, subst}
use Rattle.std.specs.Prelude.{IfSome}
use Rattle.std.specs.Option.{option_map}
use Rattle.gl_request.specs.declared.row.RequestAt.{RequestAt}
use Rattle.gl_request.specs.declared.row.RequestRow.{RequestRow}
use Rattle.gl_base.specs.Rows.{change_first}
use Rattle.gl_request.specs.Request.{is_number, noted, request_at}
use Rattle.gl_core.specs.HeldLines.{noted_at}
use Rattle.gl_core.specs.Kept.{Kept}
use Rattle.gl_core.specs.View.{view_of}
use Rattle.gl_core.proofs.HeldLines.{noted_by_position}
use Rattle.gl_core.proofs.state.State.note_edge.Goals as goal

pub returns : goal.returns
returns c =
    let rows : List RequestRow = c.self.inside.requests in
    let found : RequestAt = c.unwrap-found.result in
    let number : found.fd ≡ c.args.fd = subst (λ (o : Option RequestAt). IfSome o (λ f. f.fd ≡ c.args.fd)) c.unwrap-found.ensures c.find.ensures.number in
    ap (λ (rows : List RequestRow). record (view_of c.self.inside) { requests = rows })
    (c.edge_at.ensures.rows
    ∙ ap (λ (n : ℕ). change_first (is_number n) (noted c.position_in-position.result c.args.rising c.args.timestamp) rows) number
    ∙ noted_by_position rows c.args.fd c.args.offset c.position_in-position.result c.row.result.now.lines c.args.rising c.args.timestamp
    (ap (option_map (λ (row : RequestRow). row.lines)) (subst (λ (n : ℕ). request_at rows n ≡ Some c.row.result.now) number c.row.ensures.row)) c.position_in-position.ensures.position)
    ∙ ap (λ (k : Kept). record k { requests = change_first (is_number c.args.fd) (noted_at c.args.offset c.args.rising c.args.timestamp) k.requests }) c.self.view_is
