use Rattle.gl_debounce.specs.Timer.{without_deadline}
use Rattle.gl_debounce.proofs.Padding.{changed, unchanged}
use Rattle.gl_debounce.proofs.table.Timers.clear.Goals as goal

pub returns-in-Some : goal.returns-in-Some
returns-in-Some c =
    changed without_deadline c.self.inside.rows c.put.new.self c.args.self.now c.args.place c.args.offset c.number_of-line.result c.in-Some.timer c.without_deadline.result
    c.self.view_is c.number_of-line.ensures.number c.in-Some.ensures.within c.in-Some.ensures.timer c.without_deadline.ensures c.put.ensures

pub returns-in-None : goal.returns-in-None
returns-in-None c =
    unchanged without_deadline c.self.inside.rows c.args.self.now c.args.place c.args.offset c.number_of-line.result c.self.view_is c.number_of-line.ensures.number c.in-None.ensures.timer
