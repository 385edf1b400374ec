use Rattle.std.proofs.Common.{rules, arith, ap, sym, ◌∙◌, subst, ◌<◌}
use Rattle.gl_rule.proofs.Entering.{enters, backs}
use Rattle.gl_gate.specs.Calls.{IsOutside}
use Rattle.gl_gate.proofs.Knocks.{away, knocked_at}
use Rattle.gl_world.specs.Laws.{Laws}
use Rattle.gl_gate.proofs.gate.Gate.enter.Goals as goal

pub fetch_add-requires : goal.fetch_add-requires
fetch_add-requires g c = let met = g.met.M.Machine g.world.𝓛 g.world.𝓜 g.world.𝓡 ((λ s x. x), (λ x. x), (λ x. x), λ x. x) in
    let laws : Laws g.M.Machine = record { opens_sound = met.opens_sound; keeps_sound = met.keeps_sound; opens_places = met.opens_places; goes_forward = met.goes_forward; ends_place = met.ends_place; begins_place = met.begins_place; begins_removal = met.begins_removal; removal_stays = met.removal_stays; ends_removal = met.ends_removal } in
    let wide = subst (λ n. c.args.place < n) (sym (ap (λ v. v.places) c.self.view_is)) c.requires.place in let k = c.pass.invariant in let outside = away c.args.place _ k.rests (subst (λ v. IsOutside v.view c.args.place) (sym c.pass.view_is) c.requires.outside) in ((ap (λ v. v.gate) c.pass.view_is ∙ (c.requires.gate ∙ sym (ap (λ v. v.id) c.self.view_is))), search rules, enters g.M.Machine laws c.self.inside.turnstile.table.shared.key.places _ _ c.args.place _ k.rests.live k.rests.no_turn outside wide)

pub fetch_sub-requires : goal.fetch_sub-requires
fetch_sub-requires g c = let met = g.met.M.Machine g.world.𝓛 g.world.𝓜 g.world.𝓡 ((λ s x. x), (λ x. x), (λ x. x), λ x. x) in
    let laws : Laws g.M.Machine = record { opens_sound = met.opens_sound; keeps_sound = met.keeps_sound; opens_places = met.opens_places; goes_forward = met.goes_forward; ends_place = met.ends_place; begins_place = met.begins_place; begins_removal = met.begins_removal; removal_stays = met.removal_stays; ends_removal = met.ends_removal } in
    let wide = subst (λ n. c.args.place < n) (sym (ap (λ v. v.places) c.self.view_is)) c.requires.place in let k = c.pass.invariant in let knocked = knocked_at c.args.place _ _ _ (omega arith) k.rests (c.fetch_add.ensures.2.1 (search rules)) in (search rules, search rules, backs g.M.Machine laws c.self.inside.turnstile.table.shared.key.places _ _ c.args.place _ knocked.0 knocked.1 knocked.2 wide)
