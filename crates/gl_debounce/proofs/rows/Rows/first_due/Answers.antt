use Rattle.std.proofs.Common.{◌≡◌, ◌≤◌, length, map, ap, sym, ◌∙◌, arith}
use Rattle.gl_debounce.specs.declared.timer.TheConstants.{TABLE_SIZE}
use Rattle.gl_debounce.specs.Fire.{fired_at}
use Rattle.gl_debounce.specs.Order.{deadline_of}
use Rattle.gl_debounce.proofs.Earliest.{first_fires, none_fires}
use Rattle.gl_debounce.proofs.Joining.{length-timers_of}
use Rattle.gl_debounce.proofs.rows.Rows.first_due.Goals as goal

pub fired_at-requires : goal.fired_at-requires
fired_at-requires c = omega (arith, c.in-Some.ensures.within, c.self.invariant.as_many, c.self.invariant.few)

pub returns-in-None-clause-first : goal.returns-in-None-clause-first
returns-in-None-clause-first c =
    let long : length c.args.self.now ≡ length c.self.inside.levels.items = sym (ap length c.self.view_is) ∙ length-timers_of c.self.inside.levels.items c.self.inside.deadlines c.self.invariant.as_many in
    let few : length c.args.self.now ≤ TABLE_SIZE = omega (arith, c.self.invariant.few) in
    sym (none_fires c.args.now c.args.self.now c.self.inside.deadlines few (c.self.invariant.debounced ∙ ap (map deadline_of) c.self.view_is) c.in-None.ensures)

pub returns-in-Some-clause-first : goal.returns-in-Some-clause-first
returns-in-Some-clause-first c =
    let long : length c.args.self.now ≡ length c.self.inside.levels.items = sym (ap length c.self.view_is) ∙ length-timers_of c.self.inside.levels.items c.self.inside.deadlines c.self.invariant.as_many in
    let few : length c.args.self.now ≤ TABLE_SIZE = omega (arith, c.self.invariant.few) in
    c.fired_at.ensures ∙ ap (fired_at c.args.now c.in-Some.due.line) c.timer.ensures.timer
    ∙ sym (first_fires c.args.now c.args.self.now c.self.inside.deadlines c.in-Some.due few (c.self.invariant.debounced ∙ ap (map deadline_of) c.self.view_is) c.in-Some.ensures)
