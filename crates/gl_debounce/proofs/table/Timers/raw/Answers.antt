use Rattle.gl_debounce.specs.Timer.{with_raw}
use Rattle.gl_debounce.proofs.Padding.{changed, raw_is_still, unchanged}
use Rattle.gl_debounce.proofs.table.Timers.raw.Goals as goal

pub returns-in-Some : goal.returns-in-Some
returns-in-Some c =
    changed (with_raw c.args.level c.args.deadline) c.self.inside.rows c.put.new.self c.args.self.now c.args.place c.args.offset c.number_of-line.result c.in-Some.timer c.with_raw.result
    c.self.view_is c.number_of-line.ensures.number c.in-Some.ensures.within c.in-Some.ensures.timer c.with_raw.ensures c.put.ensures

pub returns-in-None : goal.returns-in-None
returns-in-None c =
    unchanged (with_raw c.args.level c.args.deadline) c.self.inside.rows c.args.self.now c.args.place c.args.offset c.number_of-line.result c.self.view_is c.number_of-line.ensures.number c.in-None.ensures.timer

pub put-requires-clause-still : goal.put-requires-clause-still
put-requires-clause-still c =
    raw_is_still c.self.inside.rows c.args.self.now c.args.place c.args.offset c.number_of-line.result c.in-Some.timer c.with_raw.result c.args.level c.args.deadline
    c.self.view_is c.number_of-line.ensures.number c.in-Some.ensures.timer c.requires.soft c.with_raw.ensures
