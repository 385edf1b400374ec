use Rattle.std.proofs.Common.{refl}
use Rattle.std.specs.Fmt.{digits}
use Rattle.gl_base.specs.Positions.{table_from}
use Rattle.gl_uapi.specs.Fields.{number_at, number_bytes, stretch, stretches, zeros}
use Rattle.gl_model.specs.Bits.{bits_where}
use Rattle.gl_check.specs.OneChip.{output, plans, printed, session, takes}
use Rattle.gl_check.proofs.laws.one_chip.Goals as goal

pub returns : goal.returns
unfolding output plans printed session takes digits table_from number_at number_bytes stretch stretches zeros bits_where
returns c = record { prints = refl; asks_nothing = refl; plans_nothing = refl }
