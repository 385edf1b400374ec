use Rattle.std.proofs.Common.{sym}
use Rattle.gl_chip.proofs.GateSteps.{if_err}
use Rattle.gl_chip.proofs.RequestedLines.{takes_memory}
use Rattle.gl_chip.proofs.bringing.brought_by.Goals as goal

pub returns-clause-memory : goal.returns-clause-memory
returns-clause-memory c = if_err c.gift_for_lines.result _ _ (λ e h. (h.0, takes_memory c.args.command.now c.if-not-command.false (sym c.if-not-is_driver_asked.ensures) h.1)) c.gift_for_lines.ensures.memory
