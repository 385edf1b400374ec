use Rattle.std.proofs.Common.{rules, ◌≡◌, ◌<◌, ◌+◌, ℕ, [], ◌∙◌, ⊎_elim, Some, ap, sym, subst, arith, length}
use Rattle.std.specs.Prelude.{slice_get}
use Rattle.gl_base.specs.declared.errno.Errno.TheVariants.{NoMemory}
use Rattle.gl_rule.specs.Views.{newcomer}
use Rattle.gl_script.specs.Script.{sections_of}
use Rattle.gl_chip.specs.Values.{OneView}
use Rattle.gl_session.specs.Several.{texts_of}
use Rattle.gl_session.specs.Workers.{CannotEnd, HasCarriedOut}
use Rattle.gl_check.specs.Many.{actor_sections}
use Rattle.gl_session.specs.Ports.{AllHave, LearnAbove, left_at, left_found, maps_of}
use Rattle.gl_session.proofs.Mapped.{others_have}
use Rattle.gl_session.proofs.Taught.{bare_maps}
use Rattle.gl_session.proofs.AllTogether.{all_joined, all_there, came, first_there, others_learn, taken_there}
use Rattle.gl_session.proofs.several.run_several.Goals as goal
use Rattle.gl_check.specs.Drivers.{driver_kind, over}
use Rattle.gl_check.specs.Joining.{Maps, no_maps}

pub returns-in-Ok-carry_out-clause-came : goal.returns-in-Ok-carry_out-clause-came
returns-in-Ok-carry_out-clause-came g c =
    let t = g.D.Port.Port.told in
    let f = c.finish-machine.ensures in
    let some : 0 < length c.args.ports.now = (let n = c.requires.ports.count in omega arith) in
    let got : slice_get c.args.ports.now 0 ≡ Some (Some c.in-Some.port) = c.take_port.ensures.taken ∙ ap Some c.in-Some.is in
    let left : c.new-first.result.carried.maps.left ≡ left_at g.D.Port.Port.maps_left c.args.ports.now 0 =
    ap (λ (m : Maps). m.left) c.new-first.ensures.maps ∙ ap g.D.Port.Port.maps_left c.in-Ok.ensures.port ∙ ap (λ o. left_found g.D.Port.Port.maps_left o) (sym got) in
    let out : HasCarriedOut t (over (left_at g.D.Port.Port.maps_left c.args.ports.now 0) (driver_kind g.D.Driver.ENTRIES g.D.Driver.is_planned g.D.Driver.OwnEntries g.D.Driver.Follows)) (sections_of c.args.script.now) c.new-first.result.view c.new-first.result.carried.told c.take_port.new.ports (texts_of c.in-Ok-carry_out.printed)
    c.into_actor-actor.result.pass.view c.carry_out.new.first.carried.told c.carry_out.new.first.carried.maps c.carry_out.new.ports
    = subst (λ (x : OneView × ℕ). HasCarriedOut t (over x.1 (driver_kind g.D.Driver.ENTRIES g.D.Driver.is_planned g.D.Driver.OwnEntries g.D.Driver.Follows)) (sections_of c.args.script.now) c.new-first.result.view c.new-first.result.carried.told c.take_port.new.ports (texts_of c.in-Ok-carry_out.printed)
    x.0 c.carry_out.new.first.carried.told c.carry_out.new.first.carried.maps c.carry_out.new.ports) (λ i. (sym c.into_actor-actor.ensures.view i, left i)) c.in-Ok-carry_out.ensures.out in
    came t (over (left_at g.D.Port.Port.maps_left c.args.ports.now 0) (driver_kind g.D.Driver.ENTRIES g.D.Driver.is_planned g.D.Driver.OwnEntries g.D.Driver.Follows)) (sections_of c.args.script.now) c.args.ports.now c.take_port.new.ports c.carry_out.new.ports c.give_port.new.ports c.in-Some.port c.finish-machine.result.2 some
    got c.take_port.ensures.left c.give_port.ensures g.D.Port.Port.maps g.D.Port.Port.maps_left c.requires.few_own c.new-first.result.view c.into_actor-actor.result.pass.view _ _ _ _ _
    (c.new-first.ensures.view ∙ c.in-Ok.ensures.first ∙ ap (λ (n : ℕ). newcomer 0 n [] 1 [] []) c.cost.ensures) (c.new-first.ensures.told ∙ ap t c.in-Ok.ensures.port) (sym c.into_actor-actor.ensures.port ∙ ap t (sym f.port))
    (sym c.into_actor-actor.ensures.maps ∙ ap (maps_of g.D.Port.Port.maps g.D.Port.Port.maps_left) (sym f.port)) out (sym c.carry_out.ensures.ports_len) f.legal f.seen f.mine f.joined f.others

pub returns-in-Ok-carry_out-clause-there : goal.returns-in-Ok-carry_out-clause-there
returns-in-Ok-carry_out-clause-there g c =
    let some : 0 < length c.args.ports.now = (let n = c.requires.ports.count in omega arith) in
    all_there g.D.Port.Port.told (over c.new-first.result.carried.maps.left (driver_kind g.D.Driver.ENTRIES g.D.Driver.is_planned g.D.Driver.OwnEntries g.D.Driver.Follows)) (sections_of c.args.script.now) c.args.ports.now c.take_port.new.ports c.carry_out.new.ports c.give_port.new.ports c.in-Some.port c.finish-machine.result.2 some
    (c.take_port.ensures.taken ∙ ap Some c.in-Some.is) c.take_port.ensures.left c.give_port.ensures _ _ _ _ _ _ c.in-Ok-carry_out.ensures.out c.requires.ports

pub returns-in-Ok-carry_out-clause-others : goal.returns-in-Ok-carry_out-clause-others
returns-in-Ok-carry_out-clause-others g c =
    let some : 0 < length c.args.ports.now = (let n = c.requires.ports.count in omega arith) in
    let m = c.new-first.result.carried.maps in
    let learned = c.in-Ok-carry_out.ensures.others in
    let bare : m ≡ no_maps (left_at g.D.Port.Port.maps_left c.args.ports.now 0) =
    c.new-first.ensures.maps ∙ ap (maps_of g.D.Port.Port.maps g.D.Port.Port.maps_left) c.in-Ok.ensures.port ∙ c.requires.bare 0 c.in-Some.port (c.take_port.ensures.taken ∙ ap Some c.in-Some.is) in
    subst (λ (k : Maps). LearnAbove g.D.Port.Port.maps g.D.Port.Port.maps_left g.D.Port.Port.told g.D.Port.Port.faults (length (actor_sections (sections_of c.args.script.now))) (sections_of c.args.script.now) k c.args.ports.now c.give_port.new.ports) bare
    (others_learn g.D.Port.Port.told (over 0 (driver_kind g.D.Driver.ENTRIES g.D.Driver.is_planned g.D.Driver.OwnEntries g.D.Driver.Follows)) (sections_of c.args.script.now) c.args.ports.now c.take_port.new.ports c.carry_out.new.ports c.give_port.new.ports c.in-Some.port c.finish-machine.result.2 some
    (c.take_port.ensures.taken ∙ ap Some c.in-Some.is) c.take_port.ensures.left c.give_port.ensures g.D.Port.Port.maps g.D.Port.Port.maps_left g.D.Port.Port.faults _ m learned.0
    (ap (maps_of g.D.Port.Port.maps g.D.Port.Port.maps_left) c.finish-machine.ensures.port ∙ c.into_actor-actor.ensures.maps ∙ learned.1))

pub new-first-requires-clause-bare : goal.new-first-requires-clause-bare
new-first-requires-clause-bare g c κs within =
    ap g.D.Port.Port.maps c.in-Ok.ensures.port ∙ ap (λ (m : Maps). m.kept) (c.requires.bare 0 c.in-Some.port (c.take_port.ensures.taken ∙ ap Some c.in-Some.is))

pub carry_out-requires-clause-maps : goal.carry_out-requires-clause-maps
carry_out-requires-clause-maps g c κs within =
    bare_maps c.new-first.result.carried.maps
    (ap (λ (m : Maps). m.kept) c.new-first.ensures.maps ∙ ap g.D.Port.Port.maps c.in-Ok.ensures.port ∙ ap (λ (m : Maps). m.kept) (c.requires.bare 0 c.in-Some.port (c.take_port.ensures.taken ∙ ap Some c.in-Some.is)))

pub carry_out-requires-clause-bare : goal.carry_out-requires-clause-bare
carry_out-requires-clause-bare g c κs within =
    let same : no_maps (left_at g.D.Port.Port.maps_left c.args.ports.now 0) ≡ c.new-first.result.carried.maps =
    sym (c.new-first.ensures.maps ∙ ap (maps_of g.D.Port.Port.maps g.D.Port.Port.maps_left) c.in-Ok.ensures.port ∙ c.requires.bare 0 c.in-Some.port (c.take_port.ensures.taken ∙ ap Some c.in-Some.is)) in
    subst (λ (m : Maps). AllHave g.D.Port.Port.maps g.D.Port.Port.maps_left m c.take_port.new.ports) same
    (others_have g.D.Port.Port.maps g.D.Port.Port.maps_left (no_maps (left_at g.D.Port.Port.maps_left c.args.ports.now 0)) c.args.ports.now c.take_port.new.ports 0 c.take_port.ensures.left c.requires.bare)

pub carry_out-requires-clause-there : goal.carry_out-requires-clause-there
carry_out-requires-clause-there g c κs within = taken_there c.args.ports.now c.take_port.new.ports c.requires.ports c.take_port.ensures.left

pub unreachable-requires : goal.unreachable-requires
unreachable-requires g c =
    let f = c.finish-ended.ensures in
    ⊎_elim (λ (wanted : c.in-Err-carry_out.field-0 ≡ NoMemory). search rules)
    (λ cannot. (subst (λ (w : OneView). CannotEnd w) (sym c.into_actor-actor-in-Err-carry_out.ensures.view) cannot).no_history _ f.legal f.seen f.mine f.joined f.others)
    c.in-Err-carry_out.ensures.stopped

pub unreachable-requires-in-None : goal.unreachable-requires-in-None
unreachable-requires-in-None g c = first_there c.args.ports.now c.requires.ports (c.take_port.ensures.taken ∙ ap Some c.in-None.is)

pub carry_out-requires-clause-first : goal.carry_out-requires-clause-first
carry_out-requires-clause-first g c κs within = c.new-first.ensures.view ∙ c.in-Ok.ensures.first ∙ ap (λ (n : ℕ). newcomer 0 n [] 1 [] []) c.cost.ensures

-- all others were taken in before the end
all_in : (g : _) (c : goal.After-into_actor-actor g) → (c.into_actor-actor.result.pass.view.number ≡ 0) × (length c.into_actor-actor.result.pass.view.joined + 1 ≡ c.into_actor-actor.result.pass.view.made)
all_in g c =
    subst (λ (w : OneView). (w.number ≡ 0) × (length w.joined + 1 ≡ w.made)) (sym c.into_actor-actor.ensures.view)
    (all_joined g.D.Port.Port.told (over c.new-first.result.carried.maps.left (driver_kind g.D.Driver.ENTRIES g.D.Driver.is_planned g.D.Driver.OwnEntries g.D.Driver.Follows)) (sections_of c.args.script.now) _ _ _ _ _ _ _ _ _
    (c.new-first.ensures.view ∙ c.in-Ok.ensures.first) c.in-Ok-carry_out.ensures.out)

pub finish-machine-requires-clause-first : goal.finish-machine-requires-clause-first
finish-machine-requires-clause-first g c κs within = (all_in g c).0

pub finish-machine-requires-clause-all : goal.finish-machine-requires-clause-all
finish-machine-requires-clause-all g c κs within = (all_in g c).1

pub returns-in-Ok-carry_out-clause-memory_alone : goal.returns-in-Ok-carry_out-clause-memory_alone
returns-in-Ok-carry_out-clause-memory_alone g c = tt

pub returns-in-Err-NoMemory-clause-came : goal.returns-in-Err-NoMemory-clause-came
returns-in-Err-NoMemory-clause-came g c = tt

pub returns-in-Err-NoMemory-clause-there : goal.returns-in-Err-NoMemory-clause-there
returns-in-Err-NoMemory-clause-there g c = tt

pub returns-in-Err-NoMemory-clause-others : goal.returns-in-Err-NoMemory-clause-others
returns-in-Err-NoMemory-clause-others g c = tt

-- a session that wasn't carried out, and not for want of memory, comes to no end
ended_full : (g : _) (c : goal.After-into_actor-actor-in-Err-carry_out g) → CannotEnd c.into_actor-actor-in-Err-carry_out.result.pass.view
ended_full g c =
    ⊎_elim (λ (wanted : c.in-Err-carry_out.field-0 ≡ NoMemory). search rules)
    (λ cannot. subst (λ (w : OneView). CannotEnd w) (sym c.into_actor-actor-in-Err-carry_out.ensures.view) cannot) c.in-Err-carry_out.ensures.stopped

pub finish-ended-requires-clause-first : goal.finish-ended-requires-clause-first
finish-ended-requires-clause-first g c κs within = (ended_full g c).number

pub finish-ended-requires-clause-all : goal.finish-ended-requires-clause-all
finish-ended-requires-clause-all g c κs within = (ended_full g c).all_joined
