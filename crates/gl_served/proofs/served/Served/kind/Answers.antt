use Rattle.std.proofs.Common.{◌≤◌, length, ap, sym, arith, ◌∙◌, Result}
use Rattle.gl_script.specs.Served.{Kind}
use Rattle.gl_script.specs.Columns.{columns}
use Rattle.gl_script.specs.declared.refusal.Spot.{Spot}
use Rattle.gl_served.specs.Served.{ServedValue, limited}
use Rattle.gl_served.specs.declared.limits.TheConstants.{LINE_MAX}
use Rattle.gl_served.proofs.Answering.{same_said, short_kind}
use Rattle.gl_served.proofs.CutLines.{long_kind}
use Rattle.gl_served.proofs.Running.{pair_kept}
use Rattle.gl_served.proofs.served.Served.kind.Goals as goal

pub returns-then-line-gt-LINE_MAX-clause-kind : goal.returns-then-line-gt-LINE_MAX-clause-kind
returns-then-line-gt-LINE_MAX-clause-kind c = λ said keeps. sym (long_kind said c.args.line.now (omega arith))

pub returns-clause-kind : goal.returns-clause-kind
returns-clause-kind c = λ said keeps.
    let short : length c.args.line.now ≤ LINE_MAX = omega arith in
    c.limited.ensures.limited ∙ ap (λ (k : Result Kind Spot). limited c.pair.result k) c.line_kind.ensures.kind
    ∙ short_kind said c.args.line.now c.pair.result c.self.inside.stage (c.pair.ensures.pair ∙ pair_kept c.args.self.now said keeps) (ap (λ (v : ServedValue). v.stage) c.self.view_is ∙ keeps.stage) short

pub returns-clause-read : goal.returns-clause-read
returns-clause-read c = same_said (columns c.args.line.now) c.line_kind.result c.limited.result c.limited.ensures.same c.line_kind.ensures.said
