use Rattle.std.proofs.Common.{ap, ◌∙◌}
use Rattle.std.specs.Option.{option_map}
use Rattle.gl_debounce.specs.declared.timer.Timer.{Timer}
use Rattle.gl_debounce.proofs.Padding.{timer_told}
use Rattle.gl_debounce.proofs.table.Timers.settled.Goals as goal

pub returns-in-Some : goal.returns-in-Some
returns-in-Some c =
    ap (option_map (λ (timer : Timer). timer.settled))
    (c.in-Some.ensures.timer ∙ timer_told c.self.inside.rows c.args.self.now c.args.place c.args.offset c.number_of.result c.self.view_is c.number_of.ensures.number)

pub returns-in-None : goal.returns-in-None
returns-in-None c =
    ap (option_map (λ (timer : Timer). timer.settled))
    (c.in-None.ensures.timer ∙ timer_told c.self.inside.rows c.args.self.now c.args.place c.args.offset c.number_of.result c.self.view_is c.number_of.ensures.number)
