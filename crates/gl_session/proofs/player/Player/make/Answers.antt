use Rattle.std.proofs.Common.{◌≡◌, ◌⊎◌, ℕ, List, Result, ap, sym, ◌∙◌, subst}
use Rattle.std.specs.Prelude.{IfOk, IfErr}
use Rattle.gl_base.specs.declared.errno.Errno.{Errno}
use Rattle.gl_base.specs.declared.errno.Errno.TheVariants.{Full, NoMemory}
use Rattle.gl_world.specs.History.{StartsWith}
use Rattle.gl_core.specs.Device.{core}
use Rattle.gl_chip.specs.declared.held.Answer.{Answer}
use Rattle.gl_chip.specs.Held.{kind_in, row_in}
use Rattle.gl_chip.specs.Orders.{AnswersOrder, GivesLines, WroteTo}
use Rattle.gl_chip.specs.Steps.{FoundNoRoom}
use Rattle.gl_chip.proofs.Telling.{FollowsPlan}
use Rattle.gl_check.specs.Drivers.{driver_kind}
use Rattle.gl_check.specs.Joining.{Maps}
use Rattle.gl_session.specs.Performed.{MadeFor}
use Rattle.gl_session.specs.Player.{Playing}
use Rattle.gl_session.specs.Ports.{maps_of}
use Rattle.gl_session.proofs.Mapped.{done_grew, done_made, done_maps, if_ok, maps_stay, plain_ok, seen_grows}
use Rattle.gl_session.proofs.Performing.{not_made}
use Rattle.gl_session.proofs.Placing.{files_later, maps_later}
use Rattle.gl_session.proofs.player.Player.make.Goals as goal

pub returns-clause-made : goal.returns-clause-made
returns-clause-made g c =
    let law : FollowsPlan g.D.Driver.is_planned g.D.Driver.Follows = (g.met.D.Driver g.world.𝓛 g.world.𝓜 g.world.𝓡 ((λ s x. x), (λ x. x), (λ x. x), λ x. x)).follows_plan in
    let call = c.args.order.call.now in let on = kind_in c.args.order.file in
    subst (λ (p : Playing × Result Answer Errno). IfOk p.1 (λ r. (bytes : List ℕ) × WroteTo call bytes c.args.out.now c.call.new.out
    × MadeFor (driver_kind g.D.Driver.ENTRIES g.D.Driver.is_planned g.D.Driver.OwnEntries g.D.Driver.Follows) p.0.carried.maps call on p.0.view r.answered.reply bytes c.call.new.actor.pass.view p.0.carried.told (g.D.Port.Port.told c.call.new.actor.port)))
    (λ i. (c.self.view_is i, sym c.answer_or_errno.ensures i))
    (plain_ok c.call.result _ (if_ok c.call.result _ _ (λ r h. (
      h.0,
      h.1,
      done_made g.D.Port.Port.told g.D.Port.Port.faults g.D.Port.Port.maps g.D.Port.Port.maps_left g.D.Driver.OwnEntries g.D.Driver.Follows g.D.Driver.ENTRIES g.D.Driver.is_planned law c.requires.none
          call on c.self.inside.actor c.call.new.actor r.answered.reply h.0 h.2,
    )) c.call.ensures.done))

pub returns-clause-call : goal.returns-clause-call
returns-clause-call g c = subst (λ (x : Result Answer Errno). IfOk x (λ r. r.order.call.now ≡ c.args.order.call.now)) (sym c.answer_or_errno.ensures) (plain_ok c.call.result _ c.call.ensures.call)

pub returns-clause-file : goal.returns-clause-file
returns-clause-file g c = subst (λ (x : Result Answer Errno). IfOk x (λ r. row_in r.order.file ≡ row_in c.args.order.file)) (sym c.answer_or_errno.ensures) (plain_ok c.call.result _ c.call.ensures.file)

pub returns-clause-form : goal.returns-clause-form
returns-clause-form g c = subst (λ (x : Result Answer Errno). IfOk x (λ r. AnswersOrder c.args.order.call.now (kind_in c.args.order.file) r.answered.reply)) (sym c.answer_or_errno.ensures) (plain_ok c.call.result _ c.call.ensures.form)

pub returns-clause-lines : goal.returns-clause-lines
returns-clause-lines g c = subst (λ (x : Result Answer Errno). IfOk x (λ r. GivesLines c.args.order.call.now (kind_in c.args.order.file) r.answered)) (sym c.answer_or_errno.ensures) (plain_ok c.call.result _ c.call.ensures.lines)

pub returns-clause-maps : goal.returns-clause-maps
returns-clause-maps g c =
    maps_stay (maps_of g.D.Port.Port.maps g.D.Port.Port.maps_left) c.args.order.call.now c.call.result c.self.inside.actor c.call.new.actor _
    (λ r h. done_maps g.D.Port.Port.told g.D.Port.Port.faults g.D.Port.Port.maps g.D.Port.Port.maps_left g.D.Driver.OwnEntries g.D.Driver.Follows g.D.Driver.ENTRIES c.args.order.call.now (kind_in c.args.order.file) c.self.inside.actor c.call.new.actor r.answered.reply h.0 h.2)
    c.call.ensures.done _ _ c.call.ensures.could_not
    ∙ ap (λ (p : Playing). p.carried.maps) c.self.view_is

pub returns-clause-later : goal.returns-clause-later
returns-clause-later g c =
    subst (λ (p : Playing). StartsWith c.call.new.actor.pass.view.seen p.view.seen) c.self.view_is
    (seen_grows c.args.order.call.now c.call.result c.self.inside.actor c.call.new.actor _
    (λ r h. done_grew g.D.Port.Port.told g.D.Port.Port.faults g.D.Port.Port.maps g.D.Port.Port.maps_left g.D.Driver.OwnEntries g.D.Driver.Follows g.D.Driver.ENTRIES c.args.order.call.now (kind_in c.args.order.file) c.self.inside.actor c.call.new.actor r.answered.reply h.0 h.2)
    c.call.ensures.done _ _ c.call.ensures.could_not)

pub returns-clause-could_not : goal.returns-clause-could_not
returns-clause-could_not g c =
    subst (λ (p : Playing × Result Answer Errno). IfErr p.1 (λ e. (e ≡ NoMemory) ⊎ ((e ≡ Full) × FoundNoRoom core p.0.view c.call.new.actor.pass.view))) (λ i. (c.self.view_is i, sym c.answer_or_errno.ensures i))
    (not_made c.args.order.call.now c.call.result _ _ _ _ c.call.ensures.could_not)

pub invariant_of-self : goal.invariant_of-self
invariant_of-self g c =
    let grew = seen_grows c.args.order.call.now c.call.result c.self.inside.actor c.call.new.actor _
    (λ r h. done_grew g.D.Port.Port.told g.D.Port.Port.faults g.D.Port.Port.maps g.D.Port.Port.maps_left g.D.Driver.OwnEntries g.D.Driver.Follows g.D.Driver.ENTRIES c.args.order.call.now (kind_in c.args.order.file) c.self.inside.actor c.call.new.actor r.answered.reply h.0 h.2)
    c.call.ensures.done _ _ c.call.ensures.could_not in (
      c.call.ensures.actor,
      c.self.invariant.1,
      c.self.invariant.2
          ∙ sym (ap (λ (m : Maps). m.kept) (maps_stay (maps_of g.D.Port.Port.maps g.D.Port.Port.maps_left) c.args.order.call.now c.call.result c.self.inside.actor c.call.new.actor _
          (λ r h. done_maps g.D.Port.Port.told g.D.Port.Port.faults g.D.Port.Port.maps g.D.Port.Port.maps_left g.D.Driver.OwnEntries g.D.Driver.Follows g.D.Driver.ENTRIES c.args.order.call.now (kind_in c.args.order.file) c.self.inside.actor c.call.new.actor r.answered.reply h.0 h.2)
          c.call.ensures.done _ _ c.call.ensures.could_not)),
      files_later _ _ _ grew c.self.invariant.3,
      maps_later _ _ _ grew c.self.invariant.4,
    )
