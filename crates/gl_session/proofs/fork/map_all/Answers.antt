use Rattle.std.proofs.Common.{◌<◌, ◌∙◌, arith, get_or, length, subst, sym}
use Rattle.gl_script.specs.Script.{sections_of}
use Rattle.gl_check.specs.Drivers.{driver_kind}
use Rattle.gl_check.specs.Many.{program_of}
use Rattle.gl_session.specs.Ports.{maps_of}
use Rattle.gl_session.specs.Workers.{StillHas, WorkDone}
use Rattle.gl_session.proofs.Mapped.{if_ok}
use Rattle.gl_session.proofs.fork.map_all.Goals as goal

pub returns-clause-done : goal.returns-clause-done
returns-clause-done g c =
    if_ok c.map_vec.result _ _ (λ v each i a d l is.
    let ok = c.args.actors.ok in let short : i < length c.args.actors.items = omega arith in let job = (each i d short).1 in
    subst (λ x. WorkDone g.D.Port.Port.told (λ _. g.D.Port.Port.told x.port) c.args.device.now (driver_kind g.D.Driver.ENTRIES g.D.Driver.is_planned g.D.Driver.OwnEntries g.D.Driver.Follows) (maps_of g.D.Port.Port.maps g.D.Port.Port.maps_left x.port) (program_of (sections_of c.args.common.now.script.now)) x.pass.view x.pass.view.number (get_or v.items i d))
    (sym (is ∙ job.job_is a)) job.call.met.1) c.map_vec.ensures.each

pub returns-clause-maps : goal.returns-clause-maps
returns-clause-maps g c =
    if_ok c.map_vec.result _ _ (λ v each i a d l is.
    let ok = c.args.actors.ok in let short : i < length c.args.actors.items = omega arith in let job = (each i d short).1 in
    subst (λ x. StillHas g.D.Port.Port.maps g.D.Port.Port.maps_left (maps_of g.D.Port.Port.maps g.D.Port.Port.maps_left x.port) (get_or v.items i d)) (sym (is ∙ job.job_is a)) job.call.met.0) c.map_vec.ensures.each
