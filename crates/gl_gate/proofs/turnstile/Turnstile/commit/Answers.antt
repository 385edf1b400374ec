use Rattle.std.proofs.Common.{rules}
use Rattle.gl_rule.proofs.Commits.{commits}
use Rattle.gl_world.specs.Laws.{Laws}
use Rattle.gl_gate.proofs.turnstile.Turnstile.commit.Goals as goal

pub fetch_add-requires : goal.fetch_add-requires
fetch_add-requires g c = let met = g.met.M.Machine g.world.𝓛 g.world.𝓜 g.world.𝓡 ((λ s x. x), (λ x. x), (λ x. x), λ x. x) in
    let laws : Laws g.M.Machine = record { opens_sound = met.opens_sound; keeps_sound = met.keeps_sound; opens_places = met.opens_places; goes_forward = met.goes_forward; ends_place = met.ends_place; begins_place = met.begins_place; begins_removal = met.begins_removal; removal_stays = met.removal_stays; ends_removal = met.ends_removal } in
    let e = c.requires.entry in (c.requires.gate, search rules, commits g.M.Machine laws c.args.self.now.table.shared.key.places _ _ _ e.held e.own_entry e.turn e.live e.slot e.may.slot.kept e.may)
