use Rattle.std.proofs.Common.{List, ℕ, map, [], ◌∷◌, ◌++◌, sym, ap, subst, ◌∙◌}
use Rattle.gl_client.specs.Program.{Goes, done}
use Rattle.gl_monitor.specs.Monitor.{watched_by}
use Rattle.gl_talk.specs.Open.{MonitorTool, monitor_in}
use Rattle.gl_talk.specs.Talk.{Does, left, names_in}
use Rattle.gl_talk.proofs.Continuing.{row_added}
use Rattle.gl_talk.proofs.Watching.{none_kept, one_kept}
use Rattle.gl_talk.proofs.talk.Talk.keep_watching.Goals as goal

pub returns-in-Ok-clause-goes : goal.returns-in-Ok-clause-goes
returns-in-Ok-clause-goes c =
    let t = c.args.self.now in
    let name = c.args.name.now in
    let watched = watched_by c.args.monitor in
    subst (λ (p : Does). Goes p c.end.new.step (left c.end.new.self))
    (ap (λ (monitors : List MonitorTool). done (record (names_in t) { monitors = monitors }))
    (ap (map monitor_in) c.in-Ok.ensures.items ∙ row_added monitor_in t.monitors.items _ ∙ ap (λ (n : List ℕ). map monitor_in t.monitors.items ++ record { name = n; watched = watched } ∷ []) c.row_name.ensures)
    ∙ sym (one_kept watched name (names_in t) _ c.in-Some.ensures))
    c.end.ensures.goes

pub returns-in-None-clause-goes : goal.returns-in-None-clause-goes
returns-in-None-clause-goes c =
    subst (λ (p : Does). Goes p c.end-in-None.new.step (left c.end-in-None.new.self)) (sym (none_kept (watched_by c.args.monitor) c.args.name.now (names_in c.args.self.now) c.in-None.ensures)) c.end-in-None.ensures.goes
