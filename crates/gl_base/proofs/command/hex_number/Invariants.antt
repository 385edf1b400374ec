use Rattle.std.proofs.Common.{◌≡◌, drop}
use Rattle.gl_base.specs.CommandWord.{hex_after}
use Rattle.gl_base.proofs.command.hex_number.Given as goal

abbrev pub invariant-loop-digit : goal.invariant-loop-digit
invariant-loop-digit l = hex_after l.number (drop l.digit-index l.digits) ≡ hex_after 0 l.digits
