use Rattle.std.proofs.Common.{rules, ap, sym, ◌∙◌, subst, ◌<◌}
use Rattle.gl_rule.proofs.Splits.{splits}
use Rattle.gl_rule.proofs.Turns.{learns}
use Rattle.gl_gate.proofs.Calls.{new_removes}
use Rattle.gl_world.specs.Laws.{Laws}
use Rattle.gl_gate.proofs.gate.Gate.split.Goals as goal

pub split_seat-seat-requires : goal.split_seat-seat-requires
split_seat-seat-requires g c = let met = g.met.M.Machine g.world.𝓛 g.world.𝓜 g.world.𝓡 ((λ s x. x), (λ x. x), (λ x. x), λ x. x) in
    let laws : Laws g.M.Machine = record { opens_sound = met.opens_sound; keeps_sound = met.keeps_sound; opens_places = met.opens_places; goes_forward = met.goes_forward; ends_place = met.ends_place; begins_place = met.begins_place; begins_removal = met.begins_removal; removal_stays = met.removal_stays; ends_removal = met.ends_removal } in
    let k = c.pass.invariant in ((ap (λ v. v.gate) c.pass.view_is ∙ (c.requires.gate ∙ sym (ap (λ v. v.id) c.self.view_is))), search rules, splits g.M.Machine laws c.self.inside.turnstile.table.shared.key.places _ _ (ap (λ v. v.view.number) c.pass.view_is ∙ c.requires.first) k.rests.no_turn k.rests.live (subst (λ v. v.view.made < 256) (sym c.pass.view_is) c.requires.few))

pub load-requires : goal.load-requires
load-requires g c = let met = g.met.M.Machine g.world.𝓛 g.world.𝓜 g.world.𝓡 ((λ s x. x), (λ x. x), (λ x. x), λ x. x) in
    let laws : Laws g.M.Machine = record { opens_sound = met.opens_sound; keeps_sound = met.keeps_sound; opens_places = met.opens_places; goes_forward = met.goes_forward; ends_place = met.ends_place; begins_place = met.begins_place; begins_removal = met.begins_removal; removal_stays = met.removal_stays; ends_removal = met.ends_removal } in
    (search rules, search rules, learns g.M.Machine laws c.self.inside.turnstile.table.shared.key.places _ _ _ (ap (λ a. a.0.spent) c.split_seat-seat.ensures.4))

pub returns-clause-removes : goal.returns-clause-removes
returns-clause-removes g c = let met = g.met.M.Machine g.world.𝓛 g.world.𝓜 g.world.𝓡 ((λ s x. x), (λ x. x), (λ x. x), λ x. x) in
    let laws : Laws g.M.Machine = record { opens_sound = met.opens_sound; keeps_sound = met.keeps_sound; opens_places = met.opens_places; goes_forward = met.goes_forward; ends_place = met.ends_place; begins_place = met.begins_place; begins_removal = met.begins_removal; removal_stays = met.removal_stays; ends_removal = met.ends_removal } in
    new_removes g.M.Machine laws _ _ (ap (λ a. a.0.mine) c.split_seat-seat.ensures.4) (ap (λ a. a.0) c.load.ensures.2.0) c.load.ensures.2.1
