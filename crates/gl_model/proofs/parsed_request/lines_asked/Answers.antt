use Rattle.std.proofs.Common.{ap, ◌∙◌, arith}
use Rattle.gl_base.proofs.AtPositions.{table_from-filled}
use Rattle.gl_model.specs.AskedLines.{lines_asked, offset_asked}
use Rattle.gl_model.proofs.parsed_request.lines_asked.Goals as goal

pub returns : goal.returns
returns c =
    ap (λ n. record (lines_asked c.args.request.now) { count = n; offsets = c.loop-i.offsets }) c.num_lines.ensures
    ∙ ap (λ os. record (lines_asked c.args.request.now) { offsets = os })
    (table_from-filled c.loop-i.offsets (offset_asked c.args.request.now) 64 c.loop-i.invariant.0 (λ k d lt. c.loop-i.invariant.1 k d (omega arith)))
