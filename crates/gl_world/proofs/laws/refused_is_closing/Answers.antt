use Rattle.gl_world.specs.Laws.{Laws}
use Rattle.gl_world.proofs.Worlds.{refused_is_closing}
use Rattle.gl_world.proofs.laws.refused_is_closing.Goals as goal

pub returns : goal.returns
returns g c = let met = g.met.M.Machine g.world.𝓛 g.world.𝓜 g.world.𝓡 ((λ s x. x), (λ x. x), (λ x. x), λ x. x) in
    let laws : Laws g.M.Machine = record { opens_sound = met.opens_sound; keeps_sound = met.keeps_sound; opens_places = met.opens_places; goes_forward = met.goes_forward; ends_place = met.ends_place; begins_place = met.begins_place; begins_removal = met.begins_removal; removal_stays = met.removal_stays; ends_removal = met.ends_removal } in
    refused_is_closing g.M.Machine laws
