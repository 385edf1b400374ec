use Rattle.std.proofs.Common.{List, sym, subst}
use Rattle.gl_base.specs.Lines.{offsets_of}
use Rattle.gl_desc.specs.Desc.{claimed}
use Rattle.gl_model.specs.declared.place.Place.{Place}
use Rattle.gl_core.specs.Claims.{AreFree, NumbersAreBelow}
use Rattle.gl_core.specs.Kept.{Kept, StandsFor}
use Rattle.gl_core.specs.Shape.{IsShaped}
use Rattle.gl_core.specs.View.{view_of}
use Rattle.gl_core.proofs.Claims.{claim_stands}
use Rattle.gl_core.proofs.Shapes.{shape_with_descs}
use Rattle.gl_core.proofs.state.State.claim_lines.Goals as goal

pub invariant_of-self : goal.invariant_of-self
invariant_of-self c = (
  subst (λ (ps : List Place). IsShaped c.self.inside.chips c.self.inside.origins.items ps) (sym c.claim.ensures)
      (shape_with_descs c.self.inside.chips c.self.inside.origins.items c.self.inside.places c.args.place (offsets_of c.lines-lines.result.now) (claimed c.self.inside.next c.consumer.result) c.self.invariant.0),
  c.self.invariant.1,
)

-- the numbers of requests are below the next one
pub claim-requires-2-clause-number : goal.claim-requires-2-clause-number
claim-requires-2-clause-number c =
    let known : NumbersAreBelow (view_of c.self.inside) = subst NumbersAreBelow (sym c.self.view_is) c.requires.numbers in
    known.each

pub returns : goal.returns
returns c w s =
    let k : Kept = view_of c.self.inside in
    let before : StandsFor k w = subst (λ k. StandsFor k w) (sym c.self.view_is) s in
    let free : AreFree k c.args.place c.args.asked.now = subst (λ k. AreFree k c.args.place c.args.asked.now) (sym c.self.view_is) c.requires.may.free in
    rw (c.claim.ensures, c.claim-2.ensures, c.lines-lines.ensures.lines, c.consumer.ensures, c.settings.ensures.settings, c.requires.ring)
    (claim_stands k w c.args.place c.args.actor c.args.asked.now before c.lines-lines.ensures.size c.requires.lines free)
