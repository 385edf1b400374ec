use Rattle.std.proofs.Common.{rules, subst, sym}
use mathlib.Core.Option.{none}
use Rattle.atomic_table.specs.Table.{step}
use Rattle.gl_rule.proofs.Turns.{seeks_turn}
use Rattle.gl_gate.specs.Turns.{Waits}
use Rattle.gl_gate.proofs.Turns.{found_turn}
use Rattle.gl_world.specs.Laws.{Laws}
use Rattle.gl_gate.proofs.turnstile.Turnstile.wait.Goals as goal

pub load-requires : goal.load-requires
load-requires g c = let met = g.met.M.Machine g.world.𝓛 g.world.𝓜 g.world.𝓡 ((λ s x. x), (λ x. x), (λ x. x), λ x. x) in
    let laws : Laws g.M.Machine = record { opens_sound = met.opens_sound; keeps_sound = met.keeps_sound; opens_places = met.opens_places; goes_forward = met.goes_forward; ends_place = met.ends_place; begins_place = met.begins_place; begins_removal = met.begins_removal; removal_stays = met.removal_stays; ends_removal = met.ends_removal } in
    let w : Waits c.loop.seat.me = subst (λ x. Waits x) (sym c.loop.invariant.1) c.requires.waits in (search rules, search rules, seeks_turn g.M.Machine laws c.args.self.now.table.shared.key.places _ _ _ _ w.ticket w.no_turn w.live w.no_slot)

pub returns-then-load-ticket-clause-turn : goal.returns-then-load-ticket-clause-turn
returns-then-load-ticket-clause-turn g c = found_turn g.M.Machine (step 1 1 0 0 none) _ _ _ _ _ c.loop.invariant.1 c.requires.ticket c.if-load-ticket.true c.load.ensures.2
