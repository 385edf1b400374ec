use Rattle.std.proofs.Common.{ap, ◌∙◌, arith}
use Rattle.gl_base.specs.Decimal.{plain_number_of_text}
use Rattle.gl_base.proofs.Decimals.{decimal-plain_number, plain_number_of_text-decimal}
use Rattle.gl_base.proofs.decimal.plain_decimals_are_digits.Goals as goal

pub returns : goal.returns
returns c =
    (decimal-plain_number c.args.text.now c.args.value, λ e. ap plain_number_of_text e ∙ plain_number_of_text-decimal c.args.value (omega arith))
