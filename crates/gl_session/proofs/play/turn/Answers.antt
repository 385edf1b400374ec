use Rattle.std.proofs.Common.{rules, sym, inl, inr, ⊎_elim}
use Rattle.gl_client.specs.Program.{Goes, given}
use Rattle.gl_client.specs.declared.next.Next.TheVariants.{Call, Print}
use Rattle.gl_talk.specs.Talk.{left}
use Rattle.gl_session.proofs.Plays.{did_turn, full_turn, goes_not_end, printed_turn}
use Rattle.gl_session.proofs.play.turn.Goals as goal

pub returns-in-Ok-perform-clause-taken : goal.returns-in-Ok-perform-clause-taken
returns-in-Ok-perform-clause-taken g c = λ _.
    let goes : Goes (given (left c.args.talk.now) c.args.got.now) (Call c.in-Call.what) (left c.put_next.new.self) = search rules in
    did_turn _ _ _ _ _ c.in-Call.what _ (left c.put_next.new.self) c.in-Ok-perform.result_of _ _ goes c.in-Ok-perform.ensures.text c.in-Ok-perform.ensures.performs

pub returns-in-Err-perform-clause-stopped : goal.returns-in-Err-perform-clause-stopped
returns-in-Err-perform-clause-stopped g c =
    let goes : Goes (given (left c.args.talk.now) c.args.got.now) (Call c.in-Call.what) (left c.put_next.new.self) = search rules in
    ⊎_elim (λ wanted. inl wanted) (λ full. inr (full.0, full_turn _ _ _ _ c.args.player.now.text c.in-Call.what (left c.put_next.new.self) _ goes full.1)) c.in-Err-perform.ensures.performs

pub returns-in-Ok-print-clause-taken : goal.returns-in-Ok-print-clause-taken
returns-in-Ok-print-clause-taken g c = λ _.
    let goes : Goes (given (left c.args.talk.now) c.args.got.now) (Print c.in-Print.piece) (left c.put_next.new.self) = search rules in
    printed_turn _ _ _ _ _ c.in-Print.piece _ (left c.put_next.new.self) _ _ goes c.in-Ok-print.ensures.view c.in-Ok-print.ensures.carried (search rules)

pub returns-in-Ok-perform-clause-ended : goal.returns-in-Ok-perform-clause-ended
returns-in-Ok-perform-clause-ended g c = λ ends. absurd (goes_not_end ends)

pub returns-in-Ok-print-clause-ended : goal.returns-in-Ok-print-clause-ended
returns-in-Ok-print-clause-ended g c = λ ends. absurd (goes_not_end ends)

pub returns-in-Err-print-clause-stopped : goal.returns-in-Err-print-clause-stopped
returns-in-Err-print-clause-stopped g c = inl c.in-Err-print.ensures.memory_alone

pub returns-in-Err-clause-stopped : goal.returns-in-Err-clause-stopped
returns-in-Err-clause-stopped g c = inl c.in-Err.ensures.memory_alone

pub returns-in-End-clause-taken : goal.returns-in-End-clause-taken
returns-in-End-clause-taken g c = λ goes. absurd (goes_not_end (sym goes))
