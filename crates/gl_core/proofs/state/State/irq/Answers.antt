use Rattle.std.proofs.Common.{List, sym, subst}
use Rattle.gl_model.specs.declared.place.Place.{Place}
use Rattle.gl_core.specs.Kept.{StandsFor}
use Rattle.gl_core.specs.Shape.{IsShaped}
use Rattle.gl_core.specs.View.{view_of}
use Rattle.gl_core.proofs.Shapes.{shape_irq}
use Rattle.gl_core.proofs.Standing.{irq_acted}
use Rattle.gl_core.proofs.state.State.irq.Goals as goal

pub invariant_of-self : goal.invariant_of-self
invariant_of-self c = (
  subst (λ (ps : List Place). IsShaped c.self.inside.chips c.self.inside.origins.items ps) (sym c.act.ensures.places)
      (shape_irq c.self.inside.chips c.self.inside.origins.items c.self.inside.places c.args.place c.args.offset c.args.what c.self.invariant.0),
  c.self.invariant.1,
)

pub returns-in-None : goal.returns-in-None
returns-in-None c w s =
    let before : StandsFor (view_of c.self.inside) w = subst (λ k. StandsFor k w) (sym c.self.view_is) s in
    irq_acted (view_of c.self.inside) w c.args.place c.args.offset c.args.what c.act.new.self c.act.result c.reply_of.result before (sym (c.in-None.ensures.told w s))
    c.act.ensures.answer c.act.ensures.places c.reply_of.ensures
