use Rattle.std.proofs.Common.{inl, inr, refl, subst, sym, ⊎_elim}
use Rattle.gl_check.specs.Drivers.{driver_kind}
use Rattle.gl_session.specs.Figures.{CameToLoad}
use Rattle.gl_session.specs.Workers.{told_at}
use Rattle.gl_session.proofs.WordsAsked.{apart, no_third}
use Rattle.gl_session.proofs.session.run_load.Goals as goal

pub returns-in-Ok-clause-ends : goal.returns-in-Ok-clause-ends
returns-in-Ok-clause-ends g c = ⊎_elim (λ ran. inl ran) (λ fault. inr (inl fault)) c.finish.ensures.one

pub returns-in-Ok-clause-ran : goal.returns-in-Ok-clause-ran
returns-in-Ok-clause-ran g c = λ ran. (c.deref.result.now, c.finish.ensures.written ran, subst (λ text. CameToLoad (driver_kind g.D.Driver.ENTRIES g.D.Driver.is_planned g.D.Driver.OwnEntries g.D.Driver.Follows) c.args.turns (told_at g.D.Port.Port.told c.args.ports.now 0) (told_at g.D.Port.Port.told c.carry_load.new.ports 0) text) (sym c.deref.ensures.value) c.in-Ok.ensures.came)

pub returns-in-Ok-clause-front : goal.returns-in-Ok-clause-front
returns-in-Ok-clause-front g c = λ fault. (c.deref.result.now, subst (λ text. CameToLoad (driver_kind g.D.Driver.ENTRIES g.D.Driver.is_planned g.D.Driver.OwnEntries g.D.Driver.Follows) c.args.turns (told_at g.D.Port.Port.told c.args.ports.now 0) (told_at g.D.Port.Port.told c.carry_load.new.ports 0) text) (sym c.deref.ensures.value) c.in-Ok.ensures.came, c.finish.ensures.front fault)

pub returns-in-Ok-clause-write_fault : goal.returns-in-Ok-clause-write_fault
returns-in-Ok-clause-write_fault g c = c.finish.ensures.fault

pub returns-in-Ok-clause-no_memory : goal.returns-in-Ok-clause-no_memory
returns-in-Ok-clause-no_memory g c = λ full. absurd (no_third c.finish.ensures.one refl refl full)

pub returns-in-Err-clause-write_fault : goal.returns-in-Err-clause-write_fault
returns-in-Err-clause-write_fault g c = λ fault. absurd (apart refl fault)

pub returns-in-Err-clause-front : goal.returns-in-Err-clause-front
returns-in-Err-clause-front g c = λ fault. absurd (apart refl fault)
