use Rattle.std.proofs.Common.{sym, subst}
use Rattle.gl_core.specs.Kept.{StandsFor}
use Rattle.gl_core.specs.View.{view_of}
use Rattle.gl_core.proofs.Standing.{pin_acted}
use Rattle.gl_core.proofs.state.State.pin.Goals as goal

pub returns-in-None : goal.returns-in-None
returns-in-None c w s =
    let before : StandsFor (view_of c.self.inside) w = subst (λ k. StandsFor k w) (sym c.self.view_is) s in
    pin_acted (view_of c.self.inside) w c.args.place c.lines-lines.result c.args.what c.pin.new.self c.pin.result c.reply_of.result before (sym (c.in-None.ensures.told w s))
    c.lines-lines.ensures c.pin.ensures.answer c.pin.ensures.places c.reply_of.ensures
