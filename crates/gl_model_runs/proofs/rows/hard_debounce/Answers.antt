use Rattle.std.proofs.Common.{refl}
use Rattle.gl_base.specs.Positions.{table_from}
use Rattle.gl_debounce.specs.Timer.{no_timers}
use Rattle.gl_uapi.specs.Fields.{number_at, number_bytes, stretch, stretches, zeros}
use Rattle.gl_watch.specs.Files.{no_lines}
use Rattle.gl_model.specs.Bits.{bits_where}
use Rattle.gl_model_runs.specs.Rows.HardDebounce.{run, given}
use Rattle.gl_model_runs.specs.Run.{answers_from}
use Rattle.gl_model_runs.proofs.rows.hard_debounce.Goals as goal

pub returns : goal.returns
unfolding answers_from run given table_from no_timers number_at number_bytes stretch stretches zeros no_lines bits_where
returns c = refl
