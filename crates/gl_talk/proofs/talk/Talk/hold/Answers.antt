use Rattle.std.proofs.Common.{List, map, sym, ap, subst, ◌∙◌}
use Rattle.std.specs.Option.{option_copied}
use Rattle.gl_client.specs.declared.next.Next.TheVariants.{Call, Print}
use Rattle.gl_client.specs.Program.{Goes, given, then_left}
use Rattle.gl_values.specs.Client.{client_left, held_by}
use Rattle.gl_talk.specs.Open.{SetTool, set_in}
use Rattle.gl_talk.specs.Talk.{Does, keeps_set, left, names_in}
use Rattle.gl_talk.proofs.Continuing.{part_end, part_step}
use Rattle.gl_talk.proofs.talk.Talk.hold.Goals as goal

pub returns-in-Call-clause-goes : goal.returns-in-Call-clause-goes
returns-in-Call-clause-goes c =
    let t = c.args.self.now in
    let name = c.args.name.now in
    let before = client_left t.client in
    let after = client_left c.put_next.new.self in
    subst
    (λ (sets : List SetTool). Goes (given (then_left before (keeps_set name (names_in t))) (option_copied c.args.got)) c.put_next.new.step (then_left after (keeps_set name (record (names_in t) { sets = sets }))))
    (ap (map set_in) (sym c.reserve.ensures.items))
    (rw c.in-Call.is (part_step before after (keeps_set name (names_in t)) (option_copied c.args.got) (Call _) (rw c.in-Call.is at c.in_ok-put_next.ensures.goes)))

pub returns-in-Print-clause-goes : goal.returns-in-Print-clause-goes
returns-in-Print-clause-goes c =
    let t = c.args.self.now in
    let name = c.args.name.now in
    let before = client_left t.client in
    let after = client_left c.put_next.new.self in
    subst
    (λ (sets : List SetTool). Goes (given (then_left before (keeps_set name (names_in t))) (option_copied c.args.got)) c.put_next.new.step (then_left after (keeps_set name (record (names_in t) { sets = sets }))))
    (ap (map set_in) (sym c.reserve.ensures.items))
    (rw c.in-Print.is (part_step before after (keeps_set name (names_in t)) (option_copied c.args.got) (Print _) (rw c.in-Print.is at c.in_ok-put_next.ensures.goes)))

pub returns-in-End-clause-goes : goal.returns-in-End-clause-goes
returns-in-End-clause-goes c =
    let t = c.args.self.now in
    let name = c.args.name.now in
    let ended = part_end (client_left t.client) (client_left c.put_next.new.self) (keeps_set name (names_in t)) (option_copied c.args.got) (held_by c.put_next.new.self)
    (rw c.in-End.is at c.in_ok-put_next.ensures.goes) (rw c.in-End.is at c.in_ok-put_next.ensures.rests) in
    subst (λ (p : Does). Goes p c.keep_set.new.step (left c.keep_set.new.self))
    (ap (λ (sets : List SetTool). keeps_set name (record (names_in t) { sets = sets }) (held_by c.put_next.new.self)) (ap (map set_in) c.reserve.ensures.items) ∙ sym ended)
    c.keep_set.ensures.goes
