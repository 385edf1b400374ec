use Rattle.gl_world.specs.Laws.{Laws}
use Rattle.gl_world.proofs.Worlds.{phases_never_fall}
use Rattle.gl_world.proofs.laws.phases_never_fall.Goals as goal

pub returns : goal.returns
returns g c = let met = g.met.M.Machine g.world.𝓛 g.world.𝓜 g.world.𝓡 ((λ s x. x), (λ x. x), (λ x. x), λ x. x) in
    let laws : Laws g.M.Machine = record { opens_sound = met.opens_sound; keeps_sound = met.keeps_sound; opens_places = met.opens_places; goes_forward = met.goes_forward; ends_place = met.ends_place; begins_place = met.begins_place; begins_removal = met.begins_removal; removal_stays = met.removal_stays; ends_removal = met.ends_removal } in
    phases_never_fall g.M.Machine laws
