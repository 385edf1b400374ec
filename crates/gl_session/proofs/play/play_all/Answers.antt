use Rattle.std.proofs.Common.{◌≡◌, ℕ, inl, inr, ⊎_elim, ap, ◌∙◌, None, arith, refl}
use Rattle.gl_client.specs.Program.{given, goes_on}
use Rattle.gl_script.specs.declared.section.Statement.{Statement}
use Rattle.gl_talk.specs.declared.talk.Talk.{Talk}
use Rattle.gl_talk.specs.Open.{Names}
use Rattle.gl_talk.specs.Over.{columns_in}
use Rattle.gl_talk.specs.Talk.{does, left, names_in}
use Rattle.gl_session.proofs.Plays.{plays_nothing, plays_on, statement_step, statement_stops, stops_on}
use Rattle.gl_session.proofs.play.play_all.Goals as goal

-- the statement that was begun is that of the row
begun_as : (talk : Talk) (names : Names) (slot : ℕ) (statement row : Statement) → left talk ≡ goes_on (does names slot (columns_in statement)) → statement ≡ row → given (left talk) None ≡ does names slot (columns_in row)
begun_as talk names slot statement row begun same = ap (λ l. given l None) begun ∙ ap (λ (s : Statement). does names slot (columns_in s)) same

pub loop-statement-init : goal.loop-statement-init
loop-statement-init g c = (refl, omega arith, plays_nothing _ _ _ _ _)

pub loop-statement-preserved : goal.loop-statement-preserved
loop-statement-preserved g c = (
  c.in-Ok.ensures.device ∙ c.loop-statement.invariant.0,
  omega (arith, c.in-Ok.ensures.counted, c.in_ok-begin.ensures.counted, c.loop-statement.invariant.1),
  plays_on _ _ _ _ _ _ _ _ _ _ _ _ _ c.loop-statement.invariant.2
      (statement_step _ _ _ c.loop-statement.talk.begun c.args.statements.now c.loop-statement.statement-index _ (names_in c.loop-statement.talk) _ _ _ _ _ c.play.new.talk.begun (names_in c.play.new.talk)
      (omega (arith, c.loop-statement-test.true)) (begun_as c.begin.new.self (names_in c.loop-statement.talk) _ _ _ c.in_ok-begin.ensures.begun c.statement-item.is) (omega (arith, c.in-Ok.ensures.counted, c.in_ok-begin.ensures.counted)) c.in-Ok.ensures.played),
)

pub returns-in-Err-clause-stopped : goal.returns-in-Err-clause-stopped
returns-in-Err-clause-stopped g c =
    ⊎_elim (λ wanted. inl wanted)
    (λ full. inr (
      full.0,
      stops_on _ _ _ _ _ _ _ _ _ _ c.loop-statement.invariant.2
          (statement_stops _ _ _ c.loop-statement.talk.begun c.args.statements.now c.loop-statement.statement-index _ (names_in c.loop-statement.talk) _ _
          (omega (arith, c.loop-statement-test.true)) (begun_as c.begin.new.self (names_in c.loop-statement.talk) _ _ _ c.in_ok-begin.ensures.begun c.statement-item.is) full.1),
    ))
    c.in-Err.ensures.stopped
