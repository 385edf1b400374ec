use Rattle.std.proofs.Common.{None, Some}
use Rattle.gl_debounce.proofs.Padding.{first_told, size_told}
use Rattle.gl_debounce.proofs.table.Timers.fire.Goals as goal

pub returns-in-None-clause-lines : goal.returns-in-None-clause-lines
returns-in-None-clause-lines c = size_told c.self.inside.rows c.args.self.now c.self.view_is c.are_within.ensures

pub returns-in-None-clause-first : goal.returns-in-None-clause-first
returns-in-None-clause-first c = first_told c.args.now c.self.inside.rows c.args.self.now None c.self.view_is c.in-None.ensures.first

pub returns-in-Some-clause-lines : goal.returns-in-Some-clause-lines
returns-in-Some-clause-lines c = size_told c.self.inside.rows c.args.self.now c.self.view_is c.are_within.ensures

pub returns-in-Some-clause-first : goal.returns-in-Some-clause-first
returns-in-Some-clause-first c = first_told c.args.now c.self.inside.rows c.args.self.now (Some c.in-Some.fired) c.self.view_is c.in-Some.ensures.first
