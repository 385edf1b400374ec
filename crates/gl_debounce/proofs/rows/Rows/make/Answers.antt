use Rattle.std.proofs.Common.{◌≡◌, length, ap, ◌∙◌, arith}
use Rattle.gl_debounce.specs.Timer.{all_lines, timers_of}
use Rattle.gl_debounce.proofs.Joining.{length-timers_of}
use Rattle.gl_debounce.proofs.rows.Rows.make.Goals as goal

pub returns-clause-same : goal.returns-clause-same
returns-clause-same c = c.make_rows.ensures.same ∙ ap all_lines c.self.view_is

pub returns-clause-enough : goal.returns-clause-enough
returns-clause-enough c =
    let long : length (timers_of c.make_rows.new.levels.items c.make_rows.new.deadlines) ≡ length c.make_rows.new.levels.items =
    length-timers_of c.make_rows.new.levels.items c.make_rows.new.deadlines c.make_rows.ensures.rows.as_many in
    omega (arith, c.make_rows.ensures.enough)
