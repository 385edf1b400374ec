use Rattle.std.proofs.Common.{List, Option, map, sym, ap, subst, ◌∙◌}
use Rattle.std.specs.Option.{option_copied}
use Rattle.gl_client.specs.declared.next.Next.TheVariants.{Call, Print}
use Rattle.gl_client.specs.Program.{Goes, given, then_left}
use Rattle.gl_monitor.specs.Monitor.{monitor_left, watched_by}
use Rattle.gl_monitor.specs.declared.monitor.Monitor.{Monitor}
use Rattle.gl_talk.specs.Open.{MonitorTool, monitor_in}
use Rattle.gl_talk.specs.Talk.{Does, keeps_monitor, left, names_in, some_left}
use Rattle.gl_talk.proofs.Continuing.{monitor_step, part_end}
use Rattle.gl_talk.proofs.talk.Talk.watch.Goals as goal

pub returns-in-Call-clause-goes : goal.returns-in-Call-clause-goes
returns-in-Call-clause-goes c =
    let t = c.args.self.now in
    let name = c.args.name.now in
    let after = monitor_left c.put_next-told.new.self in
    subst
    (λ (monitors : List MonitorTool). Goes (given (then_left (some_left t.monitor) (keeps_monitor name (names_in t))) (option_copied c.args.got)) c.put_next-told.new.step (then_left after (keeps_monitor name (record (names_in t) { monitors = monitors }))))
    (ap (map monitor_in) (sym c.reserve.ensures.items))
    (rw c.in-Call.is (monitor_step t.monitor c.in-Some.monitor after (keeps_monitor name (names_in t)) (option_copied c.args.got) (Call _) (sym c.in-Some.ensures.value) (rw c.in-Call.is at c.in-Ok.ensures.goes)))

pub returns-in-Print-clause-goes : goal.returns-in-Print-clause-goes
returns-in-Print-clause-goes c =
    let t = c.args.self.now in
    let name = c.args.name.now in
    let after = monitor_left c.put_next-told.new.self in
    subst
    (λ (monitors : List MonitorTool). Goes (given (then_left (some_left t.monitor) (keeps_monitor name (names_in t))) (option_copied c.args.got)) c.put_next-told.new.step (then_left after (keeps_monitor name (record (names_in t) { monitors = monitors }))))
    (ap (map monitor_in) (sym c.reserve.ensures.items))
    (rw c.in-Print.is (monitor_step t.monitor c.in-Some.monitor after (keeps_monitor name (names_in t)) (option_copied c.args.got) (Print _) (sym c.in-Some.ensures.value) (rw c.in-Print.is at c.in-Ok.ensures.goes)))

pub returns-in-End-clause-goes : goal.returns-in-End-clause-goes
returns-in-End-clause-goes c =
    let t = c.args.self.now in
    let name = c.args.name.now in
    let ended = part_end (monitor_left c.in-Some.monitor) (monitor_left c.put_next-told.new.self) (keeps_monitor name (names_in t)) (option_copied c.args.got) (watched_by c.put_next-told.new.self)
    (rw c.in-End.is at c.in-Ok.ensures.goes) (rw c.in-End.is at c.in-Ok.ensures.rests) in
    subst (λ (p : Does). Goes p c.keep_monitor.new.step (left c.keep_monitor.new.self))
    (ap (λ (monitors : List MonitorTool). keeps_monitor name (record (names_in t) { monitors = monitors }) (watched_by c.put_next-told.new.self)) (ap (map monitor_in) c.reserve.ensures.items)
    ∙ sym ended ∙ ap (λ (o : Option Monitor). given (then_left (some_left o) (keeps_monitor name (names_in t))) (option_copied c.args.got)) c.in-Some.ensures.value)
    c.keep_monitor.ensures.goes
