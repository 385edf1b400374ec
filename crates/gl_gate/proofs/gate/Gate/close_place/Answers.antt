use Rattle.std.proofs.Common.{rules, arith, ap, sym, ◌∙◌, subst, ◌<◌, ◌≤◌}
use Rattle.gl_world.specs.History.{fold, stage}
use Rattle.gl_rule.proofs.Closing.{closes}
use Rattle.gl_world.specs.Laws.{Laws}
use Rattle.gl_gate.proofs.gate.Gate.close_place.Goals as goal

pub fetch_or-requires : goal.fetch_or-requires
fetch_or-requires g c = let met = g.met.M.Machine g.world.𝓛 g.world.𝓜 g.world.𝓡 ((λ s x. x), (λ x. x), (λ x. x), λ x. x) in
    let laws : Laws g.M.Machine = record { opens_sound = met.opens_sound; keeps_sound = met.keeps_sound; opens_places = met.opens_places; goes_forward = met.goes_forward; ends_place = met.ends_place; begins_place = met.begins_place; begins_removal = met.begins_removal; removal_stays = met.removal_stays; ends_removal = met.ends_removal } in
    let wide = subst (λ n. c.args.place < n) (sym (ap (λ v. v.places) c.self.view_is)) c.requires.place in let k = c.pass.invariant in let two = c.requires.own.0 in let leaving = subst (λ v. 2 ≤ stage g.M.Machine (fold g.M.Machine v.view.seen) c.args.place) (sym c.pass.view_is) (omega arith) in ((ap (λ v. v.gate) c.pass.view_is ∙ (c.requires.gate ∙ sym (ap (λ v. v.id) c.self.view_is))), search rules, closes g.M.Machine laws c.self.inside.turnstile.table.shared.key.places _ _ c.args.place _ k.rests.live k.rests.no_turn leaving wide)
