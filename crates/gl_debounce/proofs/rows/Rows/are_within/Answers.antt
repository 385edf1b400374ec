use Rattle.std.proofs.Common.{◌≡◌, length, ap, sym, ◌∙◌, arith}
use Rattle.gl_debounce.proofs.Joining.{length-timers_of}
use Rattle.gl_debounce.proofs.rows.Rows.are_within.Goals as goal

pub returns : goal.returns
returns c =
    let long : length c.args.self.now ≡ length c.self.inside.levels.items = sym (ap length c.self.view_is) ∙ length-timers_of c.self.inside.levels.items c.self.inside.deadlines c.self.invariant.as_many in
    omega (arith, c.self.invariant.few)
