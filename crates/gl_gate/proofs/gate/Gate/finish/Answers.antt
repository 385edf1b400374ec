use Rattle.std.proofs.Common.{sym, ap, ◌∙◌, subst, length, ◌+◌, ◌≡◌}
use Rattle.gl_world.specs.History.{entries_of}
use Rattle.gl_gate.proofs.Finish.{finished}
use Rattle.gl_world.specs.Laws.{Laws}
use Rattle.gl_gate.proofs.gate.Gate.finish.Goals as goal

pub returns-clause-machine : goal.returns-clause-machine
returns-clause-machine g c = let met = g.met.M.Machine g.world.𝓛 g.world.𝓜 g.world.𝓡 ((λ s x. x), (λ x. x), (λ x. x), λ x. x) in
    let laws : Laws g.M.Machine = record { opens_sound = met.opens_sound; keeps_sound = met.keeps_sound; opens_places = met.opens_places; goes_forward = met.goes_forward; ends_place = met.ends_place; begins_place = met.begins_place; begins_removal = met.begins_removal; removal_stays = met.removal_stays; ends_removal = met.ends_removal } in
    let k = c.pass.invariant in (finished g.M.Machine laws c.self.inside.turnstile.table.shared.key.places _ _ _ _ _ c.close_with-closed.ensures.values.2 k.rests.live k.rests.no_turn (ap (λ v. v.view.number) c.pass.view_is ∙ c.requires.first) (subst (λ v. length v.view.joined + 1 ≡ v.view.made) (sym c.pass.view_is) c.requires.all) c.take-machine.ensures.value).machine

pub returns-clause-legal : goal.returns-clause-legal
returns-clause-legal g c = let met = g.met.M.Machine g.world.𝓛 g.world.𝓜 g.world.𝓡 ((λ s x. x), (λ x. x), (λ x. x), λ x. x) in
    let laws : Laws g.M.Machine = record { opens_sound = met.opens_sound; keeps_sound = met.keeps_sound; opens_places = met.opens_places; goes_forward = met.goes_forward; ends_place = met.ends_place; begins_place = met.begins_place; begins_removal = met.begins_removal; removal_stays = met.removal_stays; ends_removal = met.ends_removal } in
    let k = c.pass.invariant in (finished g.M.Machine laws c.self.inside.turnstile.table.shared.key.places _ _ _ _ _ c.close_with-closed.ensures.values.2 k.rests.live k.rests.no_turn (ap (λ v. v.view.number) c.pass.view_is ∙ c.requires.first) (subst (λ v. length v.view.joined + 1 ≡ v.view.made) (sym c.pass.view_is) c.requires.all) c.take-machine.ensures.value).legal

pub returns-clause-seen : goal.returns-clause-seen
returns-clause-seen g c = let met = g.met.M.Machine g.world.𝓛 g.world.𝓜 g.world.𝓡 ((λ s x. x), (λ x. x), (λ x. x), λ x. x) in
    let laws : Laws g.M.Machine = record { opens_sound = met.opens_sound; keeps_sound = met.keeps_sound; opens_places = met.opens_places; goes_forward = met.goes_forward; ends_place = met.ends_place; begins_place = met.begins_place; begins_removal = met.begins_removal; removal_stays = met.removal_stays; ends_removal = met.ends_removal } in
    let k = c.pass.invariant in rw (← c.pass.view_is) (finished g.M.Machine laws c.self.inside.turnstile.table.shared.key.places _ _ _ _ _ c.close_with-closed.ensures.values.2 k.rests.live k.rests.no_turn (ap (λ v. v.view.number) c.pass.view_is ∙ c.requires.first) (subst (λ v. length v.view.joined + 1 ≡ v.view.made) (sym c.pass.view_is) c.requires.all) c.take-machine.ensures.value).seen

pub returns-clause-mine : goal.returns-clause-mine
returns-clause-mine g c = let met = g.met.M.Machine g.world.𝓛 g.world.𝓜 g.world.𝓡 ((λ s x. x), (λ x. x), (λ x. x), λ x. x) in
    let laws : Laws g.M.Machine = record { opens_sound = met.opens_sound; keeps_sound = met.keeps_sound; opens_places = met.opens_places; goes_forward = met.goes_forward; ends_place = met.ends_place; begins_place = met.begins_place; begins_removal = met.begins_removal; removal_stays = met.removal_stays; ends_removal = met.ends_removal } in
    let k = c.pass.invariant in let number = ap (λ v. v.view.number) c.pass.view_is ∙ c.requires.first in rw (← c.pass.view_is) (ap (λ k. entries_of k c.take-machine.result.history.items) (sym number) ∙ (finished g.M.Machine laws c.self.inside.turnstile.table.shared.key.places _ _ _ _ _ c.close_with-closed.ensures.values.2 k.rests.live k.rests.no_turn (ap (λ v. v.view.number) c.pass.view_is ∙ c.requires.first) (subst (λ v. length v.view.joined + 1 ≡ v.view.made) (sym c.pass.view_is) c.requires.all) c.take-machine.ensures.value).mine)

pub returns-clause-joined : goal.returns-clause-joined
returns-clause-joined g c = let met = g.met.M.Machine g.world.𝓛 g.world.𝓜 g.world.𝓡 ((λ s x. x), (λ x. x), (λ x. x), λ x. x) in
    let laws : Laws g.M.Machine = record { opens_sound = met.opens_sound; keeps_sound = met.keeps_sound; opens_places = met.opens_places; goes_forward = met.goes_forward; ends_place = met.ends_place; begins_place = met.begins_place; begins_removal = met.begins_removal; removal_stays = met.removal_stays; ends_removal = met.ends_removal } in
    let k = c.pass.invariant in rw (← c.pass.view_is) (finished g.M.Machine laws c.self.inside.turnstile.table.shared.key.places _ _ _ _ _ c.close_with-closed.ensures.values.2 k.rests.live k.rests.no_turn (ap (λ v. v.view.number) c.pass.view_is ∙ c.requires.first) (subst (λ v. length v.view.joined + 1 ≡ v.view.made) (sym c.pass.view_is) c.requires.all) c.take-machine.ensures.value).joined

pub returns-clause-others : goal.returns-clause-others
returns-clause-others g c = let met = g.met.M.Machine g.world.𝓛 g.world.𝓜 g.world.𝓡 ((λ s x. x), (λ x. x), (λ x. x), λ x. x) in
    let laws : Laws g.M.Machine = record { opens_sound = met.opens_sound; keeps_sound = met.keeps_sound; opens_places = met.opens_places; goes_forward = met.goes_forward; ends_place = met.ends_place; begins_place = met.begins_place; begins_removal = met.begins_removal; removal_stays = met.removal_stays; ends_removal = met.ends_removal } in
    let k = c.pass.invariant in rw (← c.pass.view_is) (finished g.M.Machine laws c.self.inside.turnstile.table.shared.key.places _ _ _ _ _ c.close_with-closed.ensures.values.2 k.rests.live k.rests.no_turn (ap (λ v. v.view.number) c.pass.view_is ∙ c.requires.first) (subst (λ v. length v.view.joined + 1 ≡ v.view.made) (sym c.pass.view_is) c.requires.all) c.take-machine.ensures.value).others
