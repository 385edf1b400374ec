use Rattle.gl_debounce.specs.Timer.{let_go}
use Rattle.gl_debounce.proofs.Padding.{changed, unchanged}
use Rattle.gl_debounce.proofs.table.Timers.let_go.Goals as goal

pub returns-in-Some : goal.returns-in-Some
returns-in-Some c =
    changed let_go c.self.inside.rows c.put.new.self c.args.self.now c.args.place c.args.offset c.number_of-line.result c.in-Some.timer c.let_go.result
    c.self.view_is c.number_of-line.ensures.number c.in-Some.ensures.within c.in-Some.ensures.timer c.let_go.ensures c.put.ensures

pub returns-in-None : goal.returns-in-None
returns-in-None c =
    unchanged let_go c.self.inside.rows c.args.self.now c.args.place c.args.offset c.number_of-line.result c.self.view_is c.number_of-line.ensures.number c.in-None.ensures.timer
