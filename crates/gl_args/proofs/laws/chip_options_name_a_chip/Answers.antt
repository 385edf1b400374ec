use Rattle.gl_args.proofs.ChipOptions.{chip_info}
use Rattle.gl_args.proofs.laws.chip_options_name_a_chip.Goals as goal

pub returns : goal.returns
returns c = chip_info
