use Rattle.std.proofs.Common.{sym, subst}
use Rattle.std.specs.Option.{option_copied}
use Rattle.gl_client.specs.declared.next.Next.TheVariants.{Call, Print}
use Rattle.gl_client.specs.Program.{Goes, done}
use Rattle.gl_values.specs.Client.{client_left, held_by}
use Rattle.gl_talk.specs.Talk.{Does, left, names_in}
use Rattle.gl_talk.proofs.Continuing.{part_end, part_step}
use Rattle.gl_talk.proofs.talk.Talk.run.Goals as goal

pub returns-in-Call-clause-goes : goal.returns-in-Call-clause-goes
returns-in-Call-clause-goes c =
    rw c.in-Call.is (part_step (client_left c.args.self.now.client) (client_left c.put_next.new.self) (λ _. done (names_in c.args.self.now)) (option_copied c.args.got) (Call _) (rw c.in-Call.is at c.in_ok-put_next.ensures.goes))

pub returns-in-Print-clause-goes : goal.returns-in-Print-clause-goes
returns-in-Print-clause-goes c =
    rw c.in-Print.is (part_step (client_left c.args.self.now.client) (client_left c.put_next.new.self) (λ _. done (names_in c.args.self.now)) (option_copied c.args.got) (Print _) (rw c.in-Print.is at c.in_ok-put_next.ensures.goes))

pub returns-in-End-clause-goes : goal.returns-in-End-clause-goes
returns-in-End-clause-goes c =
    subst (λ (p : Does). Goes p c.end.new.step (left c.end.new.self))
    (sym (part_end (client_left c.args.self.now.client) (client_left c.put_next.new.self) (λ _. done (names_in c.args.self.now)) (option_copied c.args.got) (held_by c.put_next.new.self)
    (rw c.in-End.is at c.in_ok-put_next.ensures.goes) (rw c.in-End.is at c.in_ok-put_next.ensures.rests)))
    c.end.ensures.goes
