use Rattle.std.proofs.Common.{rules, ap, sym, ◌∙◌}
use Rattle.gl_rule.proofs.Joins.{joins}
use Rattle.gl_rule.proofs.Turns.{learns}
use Rattle.gl_gate.proofs.Calls.{join_removals, join_seen, join_seen_other}
use Rattle.gl_gate.proofs.Knocks.{knows_joined}
use Rattle.gl_world.specs.Laws.{Laws}
use Rattle.gl_gate.proofs.gate.Gate.join.Goals as goal

pub join_seat-requires : goal.join_seat-requires
join_seat-requires g c = let met = g.met.M.Machine g.world.𝓛 g.world.𝓜 g.world.𝓡 ((λ s x. x), (λ x. x), (λ x. x), λ x. x) in
    let laws : Laws g.M.Machine = record { opens_sound = met.opens_sound; keeps_sound = met.keeps_sound; opens_places = met.opens_places; goes_forward = met.goes_forward; ends_place = met.ends_place; begins_place = met.begins_place; begins_removal = met.begins_removal; removal_stays = met.removal_stays; ends_removal = met.ends_removal } in
    let k = c.pass.invariant in let q = c.other.invariant in ((ap (λ v. v.gate) c.pass.view_is ∙ (c.requires.gate ∙ sym (ap (λ v. v.id) c.self.view_is))), ap (λ v. v.gate) c.other.view_is ∙ (c.requires.other ∙ sym (ap (λ v. v.id) c.self.view_is)), q.rests.no_slot, search rules, joins g.M.Machine c.self.inside.turnstile.table.shared.key.places _ _ _ _ k.rests.no_turn k.rests.live q.rests.no_turn q.rests.no_ticket q.rests.live (λ e. c.requires.not_first (sym (ap (λ v. v.view.number) c.other.view_is) ∙ e)) (ap (λ v. v.view.inside) c.other.view_is ∙ c.requires.outside) q.rests.no_knock)

pub load-requires : goal.load-requires
load-requires g c = let met = g.met.M.Machine g.world.𝓛 g.world.𝓜 g.world.𝓡 ((λ s x. x), (λ x. x), (λ x. x), λ x. x) in
    let laws : Laws g.M.Machine = record { opens_sound = met.opens_sound; keeps_sound = met.keeps_sound; opens_places = met.opens_places; goes_forward = met.goes_forward; ends_place = met.ends_place; begins_place = met.begins_place; begins_removal = met.begins_removal; removal_stays = met.removal_stays; ends_removal = met.ends_removal } in
    (search rules, search rules, learns g.M.Machine laws c.self.inside.turnstile.table.shared.key.places _ _ _ (ap (λ a. a.0.spent) c.join_seat.ensures.2 ∙ c.pass.invariant.rests.live))

pub returns-clause-removes : goal.returns-clause-removes
returns-clause-removes g c = let met = g.met.M.Machine g.world.𝓛 g.world.𝓜 g.world.𝓡 ((λ s x. x), (λ x. x), (λ x. x), λ x. x) in
    let laws : Laws g.M.Machine = record { opens_sound = met.opens_sound; keeps_sound = met.keeps_sound; opens_places = met.opens_places; goes_forward = met.goes_forward; ends_place = met.ends_place; begins_place = met.begins_place; begins_removal = met.begins_removal; removal_stays = met.removal_stays; ends_removal = met.ends_removal } in
    join_removals g.M.Machine laws _ c.pass.inside.seat.me.0 c.other.inside.seat.me.0 _ _ (ap (λ v. v.view) c.pass.view_is) (ap (λ a. a.0) c.join_seat.ensures.2) (ap (λ a. a.0) c.load.ensures.2.0) c.load.ensures.2.1 c.pass.invariant.own

pub returns-clause-knows : goal.returns-clause-knows
returns-clause-knows g c = knows_joined _ c.pass.inside.seat.me.0 c.other.inside.seat.me.0 _ _ (ap (λ v. v.view) c.pass.view_is) (ap (λ a. a.0) c.join_seat.ensures.2) (ap (λ a. a.0) c.load.ensures.2.0)

pub returns-clause-seen : goal.returns-clause-seen
returns-clause-seen g c = join_seen g.M.Machine _ c.pass.inside.seat.me.0 c.other.inside.seat.me.0 _ _ (ap (λ v. v.view) c.pass.view_is) (ap (λ a. a.0) c.join_seat.ensures.2) (ap (λ a. a.0) c.load.ensures.2.0) c.load.ensures.2.1

pub returns-clause-other_seen : goal.returns-clause-other_seen
returns-clause-other_seen g c = join_seen_other g.M.Machine c.pass.inside.seat.me.0 c.other.inside.seat.me.0 _ _ _ (ap (λ v. v.view) c.other.view_is) (ap (λ a. a.0) c.join_seat.ensures.2) (ap (λ a. a.0) c.load.ensures.2.0) c.load.ensures.2.1
