use Rattle.std.proofs.Common.{sym, subst, ap}
use Rattle.gl_served.specs.Alone.{StandsAs}
use Rattle.gl_served.specs.Served.{ServedValue, carried_out}
use Rattle.gl_served.specs.declared.alone.Alone.{Alone}
use Rattle.gl_served.proofs.Closed.{ended_so}
use Rattle.gl_served.proofs.served.Served.close.Goals as goal

pub returns-clause-ended : goal.returns-clause-ended
returns-clause-ended c = λ said keeps.
    ended_so c.close_all.result c.close_all.new.self said c.self.inside.stage c.self.inside.talk c.self.inside.count c.self.inside.under_way
    (c.close_all.ensures.closed (carried_out said.statements).behind (subst (λ (a : Alone). StandsAs a (carried_out said.statements).behind) (sym (ap (λ (v : ServedValue). v.alone) c.self.view_is)) keeps.stands))
    c.close_all.ensures.none_open

pub returns-clause-closed : goal.returns-clause-closed
returns-clause-closed c = λ s stands.
    c.close_all.ensures.closed s (subst (λ (a : Alone). StandsAs a s) (sym (ap (λ (v : ServedValue). v.alone) c.self.view_is)) stands)

pub returns-clause-front : goal.returns-clause-front
returns-clause-front c = λ s stands.
    c.close_all.ensures.front s (subst (λ (a : Alone). StandsAs a s) (sym (ap (λ (v : ServedValue). v.alone) c.self.view_is)) stands)
