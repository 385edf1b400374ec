use Rattle.std.proofs.Common.{◌∙◌, Some, ap, sym}
use Rattle.gl_script.specs.Script.{sections_of}
use Rattle.gl_check.specs.Drivers.{driver_kind}
use Rattle.gl_check.specs.Joining.{Maps, no_maps, taught}
use Rattle.gl_session.specs.Ports.{left_at, left_found}
use Rattle.gl_session.proofs.AllTogether.{first_there}
use Rattle.gl_session.proofs.Mapped.{others_have}
use Rattle.gl_session.proofs.Taught.{all_there_beside, came_beside, learn_beside, stay_beside}
use Rattle.gl_session.proofs.ports.run_alone.Goals as goal

pub run_one-requires-clause-bare : goal.run_one-requires-clause-bare
run_one-requires-clause-bare g c κs within = ap (λ (m : Maps). m.kept) (c.requires.bare 0 c.in-Some.port (c.take_port.ensures.taken ∙ ap Some c.in-Some.is))

pub teach_all-requires-clause-bare : goal.teach_all-requires-clause-bare
teach_all-requires-clause-bare g c κs within = (
  left_at g.D.Port.Port.maps_left c.args.ports.now 0,
  others_have g.D.Port.Port.maps g.D.Port.Port.maps_left (no_maps (left_at g.D.Port.Port.maps_left c.args.ports.now 0)) c.args.ports.now c.take_port.new.ports 0 c.take_port.ensures.left c.requires.bare,
)

pub returns-in-Ok-clause-came : goal.returns-in-Ok-clause-came
returns-in-Ok-clause-came g c =
    came_beside g.D.Port.Port.maps g.D.Port.Port.maps_left g.D.Port.Port.told g.D.Port.Port.faults _ c.args.ports.now c.take_port.new.ports c.teach_all.new.ports c.give_port.new.ports c.in-Ok.port c.requires.ports c.take_port.ensures.left
    c.teach_all.ensures.taught c.teach_all.ensures.ports_len c.give_port.ensures (driver_kind g.D.Driver.ENTRIES g.D.Driver.is_planned g.D.Driver.OwnEntries g.D.Driver.Follows) (sections_of c.args.script.now) c.in-Some.port _ _
    (c.take_port.ensures.taken ∙ ap Some c.in-Some.is) c.in-Ok.ensures.came

pub returns-in-Ok-clause-there : goal.returns-in-Ok-clause-there
returns-in-Ok-clause-there g c =
    all_there_beside g.D.Port.Port.maps g.D.Port.Port.maps_left g.D.Port.Port.told g.D.Port.Port.faults _ c.args.ports.now c.take_port.new.ports c.teach_all.new.ports c.give_port.new.ports c.in-Ok.port c.requires.ports c.take_port.ensures.left
    c.teach_all.ensures.taught c.teach_all.ensures.ports_len c.give_port.ensures

pub returns-in-Ok-clause-others : goal.returns-in-Ok-clause-others
returns-in-Ok-clause-others g c =
    learn_beside g.D.Port.Port.maps g.D.Port.Port.maps_left g.D.Port.Port.told g.D.Port.Port.faults _ c.args.ports.now c.take_port.new.ports c.teach_all.new.ports c.give_port.new.ports c.in-Ok.port c.requires.ports c.take_port.ensures.left
    c.teach_all.ensures.taught c.teach_all.ensures.ports_len c.give_port.ensures (sections_of c.args.script.now) (no_maps (left_at g.D.Port.Port.maps_left c.args.ports.now 0)) c.requires.bare
    (c.in-Ok.ensures.maps.1 ∙ (λ i. taught (sym c.deref.ensures.value i) (no_maps (left_found g.D.Port.Port.maps_left (sym (c.take_port.ensures.taken ∙ ap Some c.in-Some.is) i))))) (λ without. c.deref.ensures.value ∙ c.in-Ok.ensures.without without)

pub returns-in-Ok-clause-others_stay : goal.returns-in-Ok-clause-others_stay
returns-in-Ok-clause-others_stay g c = λ without.
    stay_beside g.D.Port.Port.maps g.D.Port.Port.maps_left g.D.Port.Port.told g.D.Port.Port.faults _ c.args.ports.now c.take_port.new.ports c.teach_all.new.ports c.give_port.new.ports c.in-Ok.port c.requires.ports c.take_port.ensures.left
    c.teach_all.ensures.taught c.teach_all.ensures.ports_len c.give_port.ensures (c.deref.ensures.value ∙ c.in-Ok.ensures.without without)

pub unreachable-requires : goal.unreachable-requires
unreachable-requires g c = first_there c.args.ports.now c.requires.ports (c.take_port.ensures.taken ∙ ap Some c.in-None.is)
