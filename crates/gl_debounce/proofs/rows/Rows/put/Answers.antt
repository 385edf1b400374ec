use Rattle.std.proofs.Common.{◌≡◌, List, length, set, Option, Some, ap, sym, ◌∙◌, arith, vec_capacity}
use Rattle.gl_debounce.specs.declared.timer.Timer.{Timer}
use Rattle.gl_debounce.specs.declared.timer.TimerLevels.{TimerLevels}
use Rattle.gl_debounce.proofs.Joining.{length-timers_of, rows_put, timer_put}
use Rattle.gl_debounce.proofs.rows.Rows.put.Goals as goal

pub put-requires-clause-line : goal.put-requires-clause-line
put-requires-clause-line c =
    let long : length c.args.self.now ≡ length c.self.inside.levels.items = sym (ap length c.self.view_is) ∙ length-timers_of c.self.inside.levels.items c.self.inside.deadlines c.self.invariant.as_many in
    omega (arith, c.requires.line)

pub invariant_of-self : goal.invariant_of-self
invariant_of-self c =
    let levels : TimerLevels = record { raw = c.args.timer.raw; settled = c.args.timer.settled; hard = c.args.timer.hard } in
    rows_put c.self.inside.levels.items c.put.new.levels.items c.self.inside.deadlines c.put.new.deadlines (vec_capacity c.self.inside.levels) (vec_capacity c.put.new.levels) c.args.line levels c.args.timer.deadline
    c.self.invariant c.requires.still c.put.ensures.levels c.put.ensures.deadlines c.put.ensures.capacity

pub returns : goal.returns
returns c =
    let levels : TimerLevels = record { raw = c.args.timer.raw; settled = c.args.timer.settled; hard = c.args.timer.hard } in
    timer_put c.self.inside.levels.items c.put.new.levels.items c.self.inside.deadlines c.put.new.deadlines c.args.line levels c.args.timer.deadline c.self.invariant.as_many c.put.ensures.levels c.put.ensures.deadlines
    ∙ ap (λ (ts : List (Option Timer)). set ts c.args.line (Some c.args.timer)) c.self.view_is
