use Rattle.std.proofs.Common.{◌++◌}
use Rattle.std.specs.Prelude.{codes}
use Rattle.gl_base.specs.BytesText.{blank_before}
use Rattle.gl_base.specs.Decimal.{decimal}
use Rattle.gl_trace.proofs.Stripping.{strip_more}
use Rattle.gl_trace.proofs.buffer_read.behind_run.Goals as goal

pub returns-in-Some : goal.returns-in-Some
returns-in-Some c =
    rw (strip_more (codes "00*") (decimal c.args.count ++ blank_before c.args.rest.now) c.args.text.now c.in-Some.text.now c.in-Some.ensures) c.behind_count.ensures
