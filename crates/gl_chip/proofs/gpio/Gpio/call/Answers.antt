use Rattle.std.proofs.Common.{ℕ, List, Result, refl, subst}
use Rattle.gl_base.specs.declared.errno.Errno.{Errno}
use Rattle.gl_asking.specs.declared.kinds.Answered.{Answered}
use Rattle.gl_asking.specs.declared.kinds.FileKind.{FileKind}
use Rattle.gl_chip.specs.Held.{kind_in}
use Rattle.gl_chip.specs.Orders.{AnswersOrder, GivesLines, HasDone, KnowsAfter, WroteTo}
use Rattle.gl_chip.proofs.OrderedAnswers.{answers_by_entries, refused_in_order}
use Rattle.gl_chip.proofs.OrderedCalls.{done_is_answer, knows_unmade, wanted, was_full}
use Rattle.gl_chip.proofs.SameActors.{same_actor}
use Rattle.gl_chip.proofs.Telling.{FollowsPlan, done_told}
use Rattle.gl_chip.proofs.gpio.Gpio.call.Goals as goal

pub returns-in-Err-clause-same : goal.returns-in-Err-clause-same
returns-in-Err-clause-same g c = same_actor c.args.actor.now.pass.view

pub returns-in-Err-clause-places : goal.returns-in-Err-clause-places
returns-in-Err-clause-places g c = knows_unmade c.args.order.call.now c.in-Err.errno c.args.actor.now.pass.view

pub returns-in-Err-clause-could_not : goal.returns-in-Err-clause-could_not
returns-in-Err-clause-could_not g c = (wanted c.args.order.call.now c.in-Err.errno c.args.actor.now c.in-Err.ensures.memory, refl)

pub returns-in-Ok-carry-clause-places : goal.returns-in-Ok-carry-clause-places
returns-in-Ok-carry-clause-places g c = subst (λ (r : Result Answered Errno). KnowsAfter c.args.order.call.now r c.args.actor.now.pass.view c.carry.new.actor.pass.view) c.in-Ok-carry.is c.carry.ensures.places

pub returns-in-Ok-carry-clause-done : goal.returns-in-Ok-carry-clause-done
returns-in-Ok-carry-clause-done g c = subst (λ (on : FileKind). (bytes : List ℕ) × WroteTo c.args.order.call.now bytes c.args.out.now c.carry.new.out
    × HasDone g.D.Port.Port.told g.D.Port.Port.faults g.D.Port.Port.maps g.D.Port.Port.maps_left g.D.Driver.OwnEntries g.D.Driver.Follows g.D.Driver.ENTRIES c.args.order.call.now on c.args.actor.now c.in-Ok-carry.answered.reply bytes c.carry.new.actor) c.kind-on.ensures c.in-Ok-carry.ensures.done

pub returns-in-Ok-carry-clause-port : goal.returns-in-Ok-carry-clause-port
returns-in-Ok-carry-clause-port g c = λ none.
    let law : FollowsPlan g.D.Driver.is_planned g.D.Driver.Follows = (g.met.D.Driver g.world.𝓛 g.world.𝓜 g.world.𝓡 ((λ s x. x), (λ x. x), (λ x. x), λ x. x)).follows_plan in
    let h = returns-in-Ok-carry-clause-done g c in
    let told = done_told g.D.Port.Port.told g.D.Port.Port.faults g.D.Port.Port.maps g.D.Port.Port.maps_left g.D.Driver.OwnEntries g.D.Driver.Follows g.D.Driver.ENTRIES g.D.Driver.is_planned law c.args.order.call.now (kind_in c.args.order.file) c.args.actor.now c.carry.new.actor c.in-Ok-carry.answered.reply h.0 none h.2 in
    (h.0, h.1, told.0, told.1)

pub returns-in-Ok-carry-clause-not_full : goal.returns-in-Ok-carry-clause-not_full
returns-in-Ok-carry-clause-not_full g c = let h = c.in-Ok-carry.ensures.done in
    (done_is_answer g.D.Port.Port.told g.D.Port.Port.faults g.D.Port.Port.maps g.D.Port.Port.maps_left g.D.Driver.OwnEntries g.D.Driver.Follows g.D.Driver.ENTRIES c.args.order.call.now c.kind-on.result c.args.actor.now c.carry.new.actor c.in-Ok-carry.answered.reply h.0 h.2).0

pub returns-in-Ok-carry-clause-not_memory : goal.returns-in-Ok-carry-clause-not_memory
returns-in-Ok-carry-clause-not_memory g c = let h = c.in-Ok-carry.ensures.done in
    (done_is_answer g.D.Port.Port.told g.D.Port.Port.faults g.D.Port.Port.maps g.D.Port.Port.maps_left g.D.Driver.OwnEntries g.D.Driver.Follows g.D.Driver.ENTRIES c.args.order.call.now c.kind-on.result c.args.actor.now c.carry.new.actor c.in-Ok-carry.answered.reply h.0 h.2).1

pub returns-in-Ok-carry-clause-lines : goal.returns-in-Ok-carry-clause-lines
returns-in-Ok-carry-clause-lines g c = subst (λ (on : FileKind). GivesLines c.args.order.call.now on c.in-Ok-carry.answered) c.kind-on.ensures c.in-Ok-carry.ensures.lines

pub returns-in-Ok-carry-clause-form : goal.returns-in-Ok-carry-clause-form
returns-in-Ok-carry-clause-form g c = subst (λ (on : FileKind). AnswersOrder c.args.order.call.now on c.in-Ok-carry.answered.reply) c.kind-on.ensures c.in-Ok-carry.ensures.form

pub returns-clause-could_not : goal.returns-clause-could_not
returns-clause-could_not g c = was_full c.args.order.call.now c.in-Err-carry.errno c.args.actor.now c.carry.new.actor _ _ c.in-Err-carry.ensures.full

pub returns-in-Ok-carry-clause-told : goal.returns-in-Ok-carry-clause-told
returns-in-Ok-carry-clause-told g c = let h = c.in-Ok-carry.ensures.done in
    answers_by_entries g.D.Port.Port.told g.D.Port.Port.faults g.D.Port.Port.maps g.D.Port.Port.maps_left g.D.Driver.OwnEntries g.D.Driver.Follows g.D.Driver.ENTRIES c.args.order.call.now c.kind-on.result c.args.actor.now c.carry.new.actor c.in-Ok-carry.answered.reply h.0 h.2 c.number-after.ensures.idle c.number-after.ensures.own

pub returns-in-Ok-carry-clause-first_faulty : goal.returns-in-Ok-carry-clause-first_faulty
returns-in-Ok-carry-clause-first_faulty g c = let h = returns-in-Ok-carry-clause-done g c in
    refused_in_order g.D.Port.Port.told g.D.Port.Port.faults g.D.Port.Port.maps g.D.Port.Port.maps_left g.D.Driver.OwnEntries g.D.Driver.Follows g.D.Driver.ENTRIES c.args.order.call.now (kind_in c.args.order.file) c.args.actor.now c.carry.new.actor c.in-Ok-carry.answered.reply h.0
    c.requires.fits.file h.2 c.number-before.ensures.idle c.number-after.ensures.idle c.number-after.ensures.own
