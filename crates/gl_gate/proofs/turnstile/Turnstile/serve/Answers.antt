use Rattle.gl_gate.proofs.Turns.{reached, same_seat}
use Rattle.gl_gate.proofs.Calls.{may_commit, acts, refuses, keeps_acted, keeps_refused}
use Rattle.gl_world.specs.Laws.{Laws}
use Rattle.gl_gate.proofs.turnstile.Turnstile.serve.Goals as goal

pub refuses-requires-clause-turn : goal.refuses-requires-clause-turn
refuses-requires-clause-turn g c κs within = (reached g.M.Machine _ _ _ _ c.requires.keeps.rests c.draw-ticket.ensures.ticket c.wait.ensures.turn).turn

pub pass_on-requires-clause-turn : goal.pass_on-requires-clause-turn
pass_on-requires-clause-turn g c κs within = (same_seat g.M.Machine _ _ _ (reached g.M.Machine _ _ _ _ c.requires.keeps.rests c.draw-ticket.ensures.ticket c.wait.ensures.turn) c.refuses.ensures.same).turn

pub make-reply-requires-clause-turn : goal.make-reply-requires-clause-turn
make-reply-requires-clause-turn g c κs within = (same_seat g.M.Machine _ _ _ (reached g.M.Machine _ _ _ _ c.requires.keeps.rests c.draw-ticket.ensures.ticket c.wait.ensures.turn) c.refuses.ensures.same).turn

pub commit-requires-clause-entry : goal.commit-requires-clause-entry
commit-requires-clause-entry g c κs within = let met = g.met.M.Machine g.world.𝓛 g.world.𝓜 g.world.𝓡 ((λ s x. x), (λ x. x), (λ x. x), λ x. x) in
    let laws : Laws g.M.Machine = record { opens_sound = met.opens_sound; keeps_sound = met.keeps_sound; opens_places = met.opens_places; goes_forward = met.goes_forward; ends_place = met.ends_place; begins_place = met.begins_place; begins_removal = met.begins_removal; removal_stays = met.removal_stays; ends_removal = met.ends_removal } in
    let k = c.requires.keeps in let e = c.make-reply.ensures in may_commit g.M.Machine laws _ _ _ c.args.number c.args.call.now _ _ _ (same_seat g.M.Machine _ _ _ (reached g.M.Machine _ _ _ _ c.requires.keeps.rests c.draw-ticket.ensures.ticket c.wait.ensures.turn) c.refuses.ensures.same) e.made k.number_is e.in_range c.requires.owed e.second (c.refuses.ensures.no c.if-refuses.false) k.own c.requires.last c.requires.named

pub returns-clause-keeps : goal.returns-clause-keeps
returns-clause-keeps g c = let met = g.met.M.Machine g.world.𝓛 g.world.𝓜 g.world.𝓡 ((λ s x. x), (λ x. x), (λ x. x), λ x. x) in
    let laws : Laws g.M.Machine = record { opens_sound = met.opens_sound; keeps_sound = met.keeps_sound; opens_places = met.opens_places; goes_forward = met.goes_forward; ends_place = met.ends_place; begins_place = met.begins_place; begins_removal = met.begins_removal; removal_stays = met.removal_stays; ends_removal = met.ends_removal } in
    let k = c.requires.keeps in let e = c.make-reply.ensures in let a = acts g.M.Machine laws _ _ _ _ c.args.number c.args.call.now _ _ _ (same_seat g.M.Machine _ _ _ (reached g.M.Machine _ _ _ _ c.requires.keeps.rests c.draw-ticket.ensures.ticket c.wait.ensures.turn) c.refuses.ensures.same) e.made k.rests k.own k.paid c.requires.owed k.number_is e.in_range c.requires.named (c.refuses.ensures.no c.if-refuses.false) c.commit.ensures.entry in keeps_acted g.M.Machine laws _ _ c.args.number _ c.args.call.now _ _ _ k c.requires.owed e.second a.0 a.1 a.2

pub returns-clause-same : goal.returns-clause-same
returns-clause-same g c = let met = g.met.M.Machine g.world.𝓛 g.world.𝓜 g.world.𝓡 ((λ s x. x), (λ x. x), (λ x. x), λ x. x) in
    let laws : Laws g.M.Machine = record { opens_sound = met.opens_sound; keeps_sound = met.keeps_sound; opens_places = met.opens_places; goes_forward = met.goes_forward; ends_place = met.ends_place; begins_place = met.begins_place; begins_removal = met.begins_removal; removal_stays = met.removal_stays; ends_removal = met.ends_removal } in
    let k = c.requires.keeps in let e = c.make-reply.ensures in (acts g.M.Machine laws _ _ _ _ c.args.number c.args.call.now _ _ _ (same_seat g.M.Machine _ _ _ (reached g.M.Machine _ _ _ _ c.requires.keeps.rests c.draw-ticket.ensures.ticket c.wait.ensures.turn) c.refuses.ensures.same) e.made k.rests k.own k.paid c.requires.owed k.number_is e.in_range c.requires.named (c.refuses.ensures.no c.if-refuses.false) c.commit.ensures.entry).2

pub returns-clause-acts : goal.returns-clause-acts
returns-clause-acts g c = let met = g.met.M.Machine g.world.𝓛 g.world.𝓜 g.world.𝓡 ((λ s x. x), (λ x. x), (λ x. x), λ x. x) in
    let laws : Laws g.M.Machine = record { opens_sound = met.opens_sound; keeps_sound = met.keeps_sound; opens_places = met.opens_places; goes_forward = met.goes_forward; ends_place = met.ends_place; begins_place = met.begins_place; begins_removal = met.begins_removal; removal_stays = met.removal_stays; ends_removal = met.ends_removal } in
    let k = c.requires.keeps in let e = c.make-reply.ensures in (acts g.M.Machine laws _ _ _ _ c.args.number c.args.call.now _ _ _ (same_seat g.M.Machine _ _ _ (reached g.M.Machine _ _ _ _ c.requires.keeps.rests c.draw-ticket.ensures.ticket c.wait.ensures.turn) c.refuses.ensures.same) e.made k.rests k.own k.paid c.requires.owed k.number_is e.in_range c.requires.named (c.refuses.ensures.no c.if-refuses.false) c.commit.ensures.entry).0

pub returns-then-refuses-clause-keeps : goal.returns-then-refuses-clause-keeps
returns-then-refuses-clause-keeps g c = let met = g.met.M.Machine g.world.𝓛 g.world.𝓜 g.world.𝓡 ((λ s x. x), (λ x. x), (λ x. x), λ x. x) in
    let laws : Laws g.M.Machine = record { opens_sound = met.opens_sound; keeps_sound = met.keeps_sound; opens_places = met.opens_places; goes_forward = met.goes_forward; ends_place = met.ends_place; begins_place = met.begins_place; begins_removal = met.begins_removal; removal_stays = met.removal_stays; ends_removal = met.ends_removal } in
    let k = c.requires.keeps in let yes = c.refuses.ensures.yes c.if-refuses.true in let a = refuses g.M.Machine laws _ _ _ c.args.call.now (same_seat g.M.Machine _ _ _ (reached g.M.Machine _ _ _ _ c.requires.keeps.rests c.draw-ticket.ensures.ticket c.wait.ensures.turn) c.refuses.ensures.same) k.rests k.own yes.0 yes.1 c.pass_on.ensures.view in keeps_refused g.M.Machine laws _ _ _ c.args.number _ c.args.call.now k (same_seat g.M.Machine _ _ _ (reached g.M.Machine _ _ _ _ c.requires.keeps.rests c.draw-ticket.ensures.ticket c.wait.ensures.turn) c.refuses.ensures.same) c.pass_on.ensures.view a.0 a.1 a.2

pub returns-then-refuses-clause-same : goal.returns-then-refuses-clause-same
returns-then-refuses-clause-same g c = let met = g.met.M.Machine g.world.𝓛 g.world.𝓜 g.world.𝓡 ((λ s x. x), (λ x. x), (λ x. x), λ x. x) in
    let laws : Laws g.M.Machine = record { opens_sound = met.opens_sound; keeps_sound = met.keeps_sound; opens_places = met.opens_places; goes_forward = met.goes_forward; ends_place = met.ends_place; begins_place = met.begins_place; begins_removal = met.begins_removal; removal_stays = met.removal_stays; ends_removal = met.ends_removal } in
    let k = c.requires.keeps in let yes = c.refuses.ensures.yes c.if-refuses.true in (refuses g.M.Machine laws _ _ _ c.args.call.now (same_seat g.M.Machine _ _ _ (reached g.M.Machine _ _ _ _ c.requires.keeps.rests c.draw-ticket.ensures.ticket c.wait.ensures.turn) c.refuses.ensures.same) k.rests k.own yes.0 yes.1 c.pass_on.ensures.view).2

pub returns-then-refuses-clause-refuses : goal.returns-then-refuses-clause-refuses
returns-then-refuses-clause-refuses g c = let met = g.met.M.Machine g.world.𝓛 g.world.𝓜 g.world.𝓡 ((λ s x. x), (λ x. x), (λ x. x), λ x. x) in
    let laws : Laws g.M.Machine = record { opens_sound = met.opens_sound; keeps_sound = met.keeps_sound; opens_places = met.opens_places; goes_forward = met.goes_forward; ends_place = met.ends_place; begins_place = met.begins_place; begins_removal = met.begins_removal; removal_stays = met.removal_stays; ends_removal = met.ends_removal } in
    let k = c.requires.keeps in let yes = c.refuses.ensures.yes c.if-refuses.true in (refuses g.M.Machine laws _ _ _ c.args.call.now (same_seat g.M.Machine _ _ _ (reached g.M.Machine _ _ _ _ c.requires.keeps.rests c.draw-ticket.ensures.ticket c.wait.ensures.turn) c.refuses.ensures.same) k.rests k.own yes.0 yes.1 c.pass_on.ensures.view).0
