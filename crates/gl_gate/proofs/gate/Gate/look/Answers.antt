use Rattle.std.proofs.Common.{rules, ap, sym, ◌∙◌, subst, ◌<◌}
use Rattle.gl_rule.proofs.Closing.{counts}
use Rattle.gl_rule.proofs.Consequences.{known_drained_stays_empty}
use Rattle.gl_world.proofs.Happenings.{drained_stays_empty}
use Rattle.gl_world.specs.Laws.{Laws}
use Rattle.gl_gate.proofs.gate.Gate.look.Goals as goal

pub load-found-requires : goal.load-found-requires
load-found-requires g c = let met = g.met.M.Machine g.world.𝓛 g.world.𝓜 g.world.𝓡 ((λ s x. x), (λ x. x), (λ x. x), λ x. x) in
    let laws : Laws g.M.Machine = record { opens_sound = met.opens_sound; keeps_sound = met.keeps_sound; opens_places = met.opens_places; goes_forward = met.goes_forward; ends_place = met.ends_place; begins_place = met.begins_place; begins_removal = met.begins_removal; removal_stays = met.removal_stays; ends_removal = met.ends_removal } in
    let wide = subst (λ n. c.args.place < n) (sym (ap (λ v. v.places) c.self.view_is)) c.requires.place in let k = c.pass.invariant in ((ap (λ v. v.gate) c.pass.view_is ∙ (c.requires.gate ∙ sym (ap (λ v. v.id) c.self.view_is))), search rules, counts g.M.Machine laws c.self.inside.turnstile.table.shared.key.places _ _ c.args.place _ k.rests.live k.rests.no_turn wide)

pub returns-clause-stays_empty : goal.returns-clause-stays_empty
returns-clause-stays_empty g c = let met = g.met.M.Machine g.world.𝓛 g.world.𝓜 g.world.𝓡 ((λ s x. x), (λ x. x), (λ x. x), λ x. x) in
    let laws : Laws g.M.Machine = record { opens_sound = met.opens_sound; keeps_sound = met.keeps_sound; opens_places = met.opens_places; goes_forward = met.goes_forward; ends_place = met.ends_place; begins_place = met.begins_place; begins_removal = met.begins_removal; removal_stays = met.removal_stays; ends_removal = met.ends_removal } in
    drained_stays_empty g.M.Machine laws

pub returns-clause-nobody_inside : goal.returns-clause-nobody_inside
returns-clause-nobody_inside g c = known_drained_stays_empty g.M.Machine
