use Rattle.std.proofs.Common.{sym}
use Rattle.gl_chip.proofs.GateSteps.{owes_driven}
use Rattle.gl_chip.proofs.WholeCalls.{none_not_some}
use Rattle.gl_chip.proofs.driving.drive.Goals as goal

pub returns-in-Ok-clause-owes : goal.returns-in-Ok-clause-owes
returns-in-Ok-clause-owes g c = let d = c.call-answer.ensures.drives in owes_driven g.M.Machine c.args.pass.now.view c.call-answer.new.pass.view d.did d.back c.number-number.ensures.own c.requires.owes c.number-number-2.ensures.legal (c.requires.quiet _ _ d.own) c.quiet_entries_keep_removals.ensures

pub returns-in-Err-clause-owes : goal.returns-in-Err-clause-owes
returns-in-Err-clause-owes g c = let d = c.call-answer.ensures.drives in owes_driven g.M.Machine c.args.pass.now.view c.call-answer.new.pass.view d.did d.back c.number-number.ensures.own c.requires.owes c.number-number-2.ensures.legal (c.requires.quiet _ _ d.own) c.quiet_entries_keep_removals.ensures

pub returns-in-Ok-clause-fault : goal.returns-in-Ok-clause-fault
returns-in-Ok-clause-fault g c = λ is. absurd (none_not_some _ (sym is))
