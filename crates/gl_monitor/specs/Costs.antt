-- How many entries of a history the monitors make at most: this project's choice.
use Rattle.gl_args.specs.Options.{SaidTool, SaidWatch, SaidNotify}
use Rattle.std.specs.Prelude.{ℕ, ◌+◌, ◌*◌, length}

-- a monitor that is started
abbrev pub monitor_cost : SaidTool → ℕ
monitor_cost (SaidWatch opts) = length opts.lines + 5
monitor_cost (SaidNotify opts) = 2 * length opts.lines + 2
monitor_cost _ = 0
