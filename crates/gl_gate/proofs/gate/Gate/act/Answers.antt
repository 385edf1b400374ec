use Rattle.gl_world.specs.Laws.{Laws}
use Rattle.gl_world.proofs.Happenings.{phases_go_forward, nothing_after_gone}
use Rattle.gl_world.proofs.Worlds.{phases_never_fall, refused_is_closing, nothing_behind_gone}
use Rattle.gl_gate.proofs.gate.Gate.act.Goals as goal

pub returns-clause-phases_never_fall : goal.returns-clause-phases_never_fall
returns-clause-phases_never_fall g c = let met = g.met.M.Machine g.world.𝓛 g.world.𝓜 g.world.𝓡 ((λ s x. x), (λ x. x), (λ x. x), λ x. x) in
    let laws : Laws g.M.Machine = record { opens_sound = met.opens_sound; keeps_sound = met.keeps_sound; opens_places = met.opens_places; goes_forward = met.goes_forward; ends_place = met.ends_place; begins_place = met.begins_place; begins_removal = met.begins_removal; removal_stays = met.removal_stays; ends_removal = met.ends_removal } in
    phases_never_fall g.M.Machine laws

pub returns-clause-refused_is_closing : goal.returns-clause-refused_is_closing
returns-clause-refused_is_closing g c = let met = g.met.M.Machine g.world.𝓛 g.world.𝓜 g.world.𝓡 ((λ s x. x), (λ x. x), (λ x. x), λ x. x) in
    let laws : Laws g.M.Machine = record { opens_sound = met.opens_sound; keeps_sound = met.keeps_sound; opens_places = met.opens_places; goes_forward = met.goes_forward; ends_place = met.ends_place; begins_place = met.begins_place; begins_removal = met.begins_removal; removal_stays = met.removal_stays; ends_removal = met.ends_removal } in
    refused_is_closing g.M.Machine laws

pub returns-clause-phases_go_forward : goal.returns-clause-phases_go_forward
returns-clause-phases_go_forward g c = let met = g.met.M.Machine g.world.𝓛 g.world.𝓜 g.world.𝓡 ((λ s x. x), (λ x. x), (λ x. x), λ x. x) in
    let laws : Laws g.M.Machine = record { opens_sound = met.opens_sound; keeps_sound = met.keeps_sound; opens_places = met.opens_places; goes_forward = met.goes_forward; ends_place = met.ends_place; begins_place = met.begins_place; begins_removal = met.begins_removal; removal_stays = met.removal_stays; ends_removal = met.ends_removal } in
    phases_go_forward g.M.Machine laws

pub returns-clause-nothing_behind_gone : goal.returns-clause-nothing_behind_gone
returns-clause-nothing_behind_gone g c = let met = g.met.M.Machine g.world.𝓛 g.world.𝓜 g.world.𝓡 ((λ s x. x), (λ x. x), (λ x. x), λ x. x) in
    let laws : Laws g.M.Machine = record { opens_sound = met.opens_sound; keeps_sound = met.keeps_sound; opens_places = met.opens_places; goes_forward = met.goes_forward; ends_place = met.ends_place; begins_place = met.begins_place; begins_removal = met.begins_removal; removal_stays = met.removal_stays; ends_removal = met.ends_removal } in
    nothing_behind_gone g.M.Machine laws

pub returns-clause-nothing_after_gone : goal.returns-clause-nothing_after_gone
returns-clause-nothing_after_gone g c = let met = g.met.M.Machine g.world.𝓛 g.world.𝓜 g.world.𝓡 ((λ s x. x), (λ x. x), (λ x. x), λ x. x) in
    let laws : Laws g.M.Machine = record { opens_sound = met.opens_sound; keeps_sound = met.keeps_sound; opens_places = met.opens_places; goes_forward = met.goes_forward; ends_place = met.ends_place; begins_place = met.begins_place; begins_removal = met.begins_removal; removal_stays = met.removal_stays; ends_removal = met.ends_removal } in
    nothing_after_gone g.M.Machine laws
