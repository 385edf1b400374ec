use Rattle.std.proofs.Common.{arith}
use Rattle.gpiosess.proofs.Printing.{printed, printed_load}
use Rattle.gpiosess.proofs.program.carry_out.Goals as goal

pub returns-clause-output : goal.returns-clause-output
returns-clause-output g c = λ ran none. printed _ _ _ c.new_ports-ports.ensures.new c.does_one_thing.ensures (c.given_one_list.ensures 4) _ c.new_ports-ports.ensures.four _ _ _ _ (c.run.ensures.output ran none)

pub returns-clause-load : goal.returns-clause-load
returns-clause-load g c = λ ran n load. printed_load n _ _ _ _ (c.new_ports-ports.ensures.new 0 (omega arith)) (c.run.ensures.load ran n load)
