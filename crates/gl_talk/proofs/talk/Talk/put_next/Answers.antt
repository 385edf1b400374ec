use Rattle.std.proofs.Common.{sym, subst}
use Rattle.std.specs.Option.{option_copied}
use Rattle.gl_client.specs.Program.{Goes, given}
use Rattle.gl_talk.specs.Talk.{closes_all, left, left_at, names_in, slot_in, words_in}
use Rattle.gl_talk.specs.declared.talk.Stage.{Stage}
use Rattle.gl_talk.proofs.Continuing.{any_result}
use Rattle.gl_talk.proofs.talk.Talk.put_next.Goals as goal

pub returns-in-Closing-clause-goes : goal.returns-in-Closing-clause-goes
returns-in-Closing-clause-goes c =
    let t = c.args.self.now in
    subst (λ (stage : Stage). Goes (given (left_at t (names_in t) (slot_in t) (words_in t) stage) (option_copied c.args.got)) c.close.new.step (left c.close.new.self)) (sym c.in-Closing.is)
    (any_result (closes_all t.closing.items) (option_copied c.args.got) c.close.new.step (left c.close.new.self) c.close.ensures.goes)
