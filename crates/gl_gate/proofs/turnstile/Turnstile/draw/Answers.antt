use Rattle.std.proofs.Common.{rules}
use Rattle.gl_rule.proofs.Turns.{takes_ticket}
use Rattle.gl_world.specs.Laws.{Laws}
use Rattle.gl_gate.proofs.turnstile.Turnstile.draw.Goals as goal

pub fetch_add-requires : goal.fetch_add-requires
fetch_add-requires g c = let met = g.met.M.Machine g.world.𝓛 g.world.𝓜 g.world.𝓡 ((λ s x. x), (λ x. x), (λ x. x), λ x. x) in
    let laws : Laws g.M.Machine = record { opens_sound = met.opens_sound; keeps_sound = met.keeps_sound; opens_places = met.opens_places; goes_forward = met.goes_forward; ends_place = met.ends_place; begins_place = met.begins_place; begins_removal = met.begins_removal; removal_stays = met.removal_stays; ends_removal = met.ends_removal } in
    let rests = c.requires.rests in (c.requires.gate, search rules, takes_ticket g.M.Machine laws c.args.self.now.table.shared.key.places _ _ _ rests.no_ticket rests.no_turn rests.live)
