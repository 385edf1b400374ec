use Rattle.std.proofs.Common.{ℕ, List, Vec, Global, nat_lt, ap, subst, sym, ◌∙◌}
use Rattle.gl_script.specs.Script.{sections_of}
use Rattle.gl_check.specs.Drivers.{driver_kind, over}
use Rattle.gl_check.specs.Many.{Texts}
use Rattle.gl_core.specs.Device.{OneEntry}
use Rattle.gl_session.specs.Many.{CameToMany}
use Rattle.gl_session.specs.Ports.{left_at, maps_at}
use Rattle.gl_session.specs.Workers.{told_at}
use Rattle.gl_session.proofs.Came.{came_to_output, entries_told, not_few}
use Rattle.gl_session.proofs.ports.carry_script.Goals as goal

pub output_of-requires-clause-texts : goal.output_of-requires-clause-texts
output_of-requires-clause-texts g c = entries_told _ _ _ _ _ _ _ _ c.deref-in-Ok-run_several-3.ensures.value c.in-Ok-run_several.ensures.came

pub returns-in-Ok-run_several-clause-came : goal.returns-in-Ok-run_several-clause-came
returns-in-Ok-run_several-clause-came g c =
    let came = subst (λ (x : Texts × List OneEntry). CameToMany (over (left_at g.D.Port.Port.maps_left c.args.ports.now 0) (driver_kind g.D.Driver.ENTRIES g.D.Driver.is_planned g.D.Driver.OwnEntries g.D.Driver.Follows)) (sections_of c.args.script.now)
    (told_at g.D.Port.Port.told c.args.ports.now) (told_at g.D.Port.Port.told c.run_several.new.ports) (maps_at g.D.Port.Port.maps g.D.Port.Port.maps_left c.run_several.new.ports 0) x.1 x.0)
    (λ i. (record { setup = sym c.deref.ensures.value i; actors = sym c.deref-in-Ok-run_several.ensures.value i; last = sym c.deref-in-Ok-run_several-2.ensures.value i }, sym c.deref-in-Ok-run_several-3.ensures.value i))
    c.in-Ok-run_several.ensures.came in
    came_to_output (λ (text : Vec ℕ Global). text.items) c.output_of.result _ _ _ _ _ _ _ _ (ap (λ (n : ℕ). nat_lt n 2) (sym c.count_actors-count.ensures) ∙ not_few c.count_actors-count.result c.if-count-lt2.false) came c.output_of.ensures.ok c.output_of.ensures.told
