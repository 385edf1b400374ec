use Rattle.std.proofs.Common.{◌≡◌, List, length, get_or, Option, Some, None, ap, sym, ◌∙◌, arith}
use Rattle.gl_debounce.specs.declared.timer.Timer.{Timer}
use Rattle.gl_debounce.specs.declared.timer.TimerLevels.{TimerLevels}
use Rattle.gl_debounce.specs.Timer.{timer_with}
use Rattle.gl_debounce.proofs.Joining.{length-timers_of, timers_of-read}
use Rattle.gl_debounce.proofs.rows.Rows.timer.Goals as goal

pub at-requires : goal.at-requires
at-requires c = omega (arith, c.self.invariant.as_many, c.in-Some.ensures.within)

pub returns-in-Some-clause-timer : goal.returns-in-Some-clause-timer
returns-in-Some-clause-timer c =
    let ls : List (Option TimerLevels) = c.self.inside.levels.items in
    ap (timer_with (Some c.in-Some.levels)) c.at.ensures
    ∙ ap (λ (l : Option TimerLevels). timer_with l (get_or c.self.inside.deadlines c.args.line None)) c.in-Some.ensures.levels
    ∙ ap (λ (rows : List (Option TimerLevels)). timer_with (get_or rows c.args.line None) (get_or c.self.inside.deadlines c.args.line None)) c.deref.ensures.value
    ∙ sym (timers_of-read ls c.self.inside.deadlines c.args.line c.self.invariant.as_many)
    ∙ ap (λ (ts : List (Option Timer)). get_or ts c.args.line None) c.self.view_is

pub returns-in-Some-clause-within : goal.returns-in-Some-clause-within
returns-in-Some-clause-within c =
    let long : length c.args.self.now ≡ length c.self.inside.levels.items = sym (ap length c.self.view_is) ∙ length-timers_of c.self.inside.levels.items c.self.inside.deadlines c.self.invariant.as_many in
    omega (arith, c.in-Some.ensures.within)

pub returns-in-None-clause-timer : goal.returns-in-None-clause-timer
returns-in-None-clause-timer c =
    let ls : List (Option TimerLevels) = c.self.inside.levels.items in
    ap (λ (l : Option TimerLevels). timer_with l (get_or c.self.inside.deadlines c.args.line None)) c.in-None.ensures.levels
    ∙ ap (λ (rows : List (Option TimerLevels)). timer_with (get_or rows c.args.line None) (get_or c.self.inside.deadlines c.args.line None)) c.deref.ensures.value
    ∙ sym (timers_of-read ls c.self.inside.deadlines c.args.line c.self.invariant.as_many)
    ∙ ap (λ (ts : List (Option Timer)). get_or ts c.args.line None) c.self.view_is
