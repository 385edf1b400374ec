use Rattle.std.proofs.Common.{◌∙◌, sym, ap, subst}
use Rattle.std.specs.Prelude.{slice_get}
use Rattle.gl_session.specs.Ports.{IsTaught}
use Rattle.gl_session.proofs.PortPlaces.{get_other, get_set}
use Rattle.gl_session.proofs.teaching.teach_at.Goals as goal

pub returns-in-Some-clause-others : goal.returns-in-Some-clause-others
returns-in-Some-clause-others g c = λ k other.
    ap (λ ports. slice_get ports k) c.give_port.ensures ∙ get_other _ c.args.n k _ other ∙ ap (λ ports. slice_get ports k) c.take_port.ensures.left ∙ get_other _ c.args.n k _ other

pub returns-in-None-clause-taught : goal.returns-in-None-clause-taught
returns-in-None-clause-taught g c =
    subst (λ before. IsTaught g.D.Port.Port.maps g.D.Port.Port.maps_left g.D.Port.Port.told g.D.Port.Port.faults c.args.maps.now before (slice_get c.take_port.new.ports c.args.n)) (sym c.in-None.ensures.taken)
    (ap (λ ports. slice_get ports c.args.n) c.in-None.ensures.left ∙ get_set c.args.ports.now c.args.n _ c.requires.within)

pub returns-in-None-clause-others : goal.returns-in-None-clause-others
returns-in-None-clause-others g c = λ k other. ap (λ ports. slice_get ports k) c.take_port.ensures.left ∙ get_other _ c.args.n k _ other
