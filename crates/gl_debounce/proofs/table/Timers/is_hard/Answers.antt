use Rattle.std.proofs.Common.{ap, ◌∙◌}
use Rattle.gl_debounce.specs.Timer.{is_hard}
use Rattle.gl_debounce.proofs.Padding.{timer_told}
use Rattle.gl_debounce.proofs.table.Timers.is_hard.Goals as goal

pub returns-in-Some : goal.returns-in-Some
returns-in-Some c =
    ap is_hard (c.in-Some.ensures.timer ∙ timer_told c.self.inside.rows c.args.self.now c.args.place c.args.offset c.number_of.result c.self.view_is c.number_of.ensures.number)

pub returns-in-None : goal.returns-in-None
returns-in-None c =
    ap is_hard (c.in-None.ensures.timer ∙ timer_told c.self.inside.rows c.args.self.now c.args.place c.args.offset c.number_of.result c.self.view_is c.number_of.ensures.number)
