use Rattle.std.proofs.Common.{◌≤◌, ◌∙◌, ℕ, List, None, rules, refl, inl, inr, subst, sym, ⊎_elim}
use Rattle.gl_chip.specs.Values.{OneView}
use Rattle.gl_client.specs.Program.{Program, given}
use Rattle.gl_talk.specs.Open.{Names}
use Rattle.gl_talk.specs.Talk.{left}
use Rattle.gl_check.specs.Drivers.{driver_kind}
use Rattle.gl_check.specs.Turns.{Carried}
use Rattle.gl_session.specs.Performed.{PlaysOn}
use Rattle.gl_session.proofs.Plays.{plays_nothing, plays_on, stops_on}
use Rattle.gl_session.proofs.play.play.Goals as goal

pub loop-init : goal.loop-init
loop-init g c = (refl, refl, plays_nothing _ _ _ _ _)

pub loop-preserved : goal.loop-preserved
loop-preserved g c = (
  c.in-Ok-true.ensures.device ∙ c.loop.invariant.0,
  c.in-Ok-true.ensures.counted ∙ c.loop.invariant.1,
  plays_on _ _ _ _ _ _ _ _ _ _ _ _ _ c.loop.invariant.2 (c.in-Ok-true.ensures.taken (search rules)),
)

pub returns-in-Err-clause-stopped : goal.returns-in-Err-clause-stopped
returns-in-Err-clause-stopped g c = ⊎_elim (λ wanted. inl wanted) (λ full. inr (full.0, stops_on _ _ _ _ _ _ _ _ _ _ c.loop.invariant.2 full.1)) c.in-Err.ensures.stopped

pub returns-in-Ok-false-clause-device : goal.returns-in-Ok-false-clause-device
returns-in-Ok-false-clause-device g c = c.in-Ok-false.ensures.device ∙ c.loop.invariant.0

pub returns-in-Ok-false-clause-counted : goal.returns-in-Ok-false-clause-counted
returns-in-Ok-false-clause-counted g c = c.in-Ok-false.ensures.counted ∙ c.loop.invariant.1

pub returns-in-Ok-false-clause-played : goal.returns-in-Ok-false-clause-played
returns-in-Ok-false-clause-played g c =
    let ended = c.in-Ok-false.ensures.ended c.in-Ok-false.field-0-test in
    subst (λ (x : Program Names × OneView × Carried × List ℕ). PlaysOn (driver_kind g.D.Driver.ENTRIES g.D.Driver.is_planned g.D.Driver.OwnEntries g.D.Driver.Follows) (given (left c.args.talk.now) None) c.args.player.now.view c.args.player.now.carried c.args.player.now.text x.0 x.1 x.2 x.3)
    (λ i. (ended.0 i, (sym ended.1 i).view, (sym ended.1 i).carried, (sym ended.1 i).text)) c.loop.invariant.2

pub returns-in-Ok-false-clause-stopped : goal.returns-in-Ok-false-clause-stopped
returns-in-Ok-false-clause-stopped g c = tt

pub returns-in-Err-clause-device : goal.returns-in-Err-clause-device
returns-in-Err-clause-device g c = c.in-Err.ensures.device ∙ c.loop.invariant.0

pub returns-in-Err-clause-counted : goal.returns-in-Err-clause-counted
returns-in-Err-clause-counted g c = tt

pub returns-in-Err-clause-played : goal.returns-in-Err-clause-played
returns-in-Err-clause-played g c = tt

pub turn-requires-clause-begun : goal.turn-requires-clause-begun
turn-requires-clause-begun g c κs within = subst (λ (n : ℕ). n ≤ 1048576) (sym c.loop.invariant.1) c.requires.begun
