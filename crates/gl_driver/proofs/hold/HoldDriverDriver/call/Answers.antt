use Rattle.std.proofs.Common.{rules, arith, refl, []}
use Rattle.gl_driver.proofs.Backs.{nothing_is_none}
use Rattle.gl_driver.proofs.hold.HoldDriverDriver.call.Goals as goal

pub returns-clause-drives : goal.returns-clause-drives
returns-clause-drives g c = record { did = []; few = omega arith; own = refl; back = nothing_is_none g.M.Machine c.args.pass.now.view c.requires.no_turn; told = search rules; follows = search rules }
