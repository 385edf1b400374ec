use Rattle.std.proofs.Common.{arith}
use Rattle.gl_base.proofs.Decimals.{number_of_text-decimal}
use Rattle.gl_base.proofs.decimal.decimal_reads_back.Goals as goal

pub returns : goal.returns
returns c = number_of_text-decimal c.args.value (omega arith)
