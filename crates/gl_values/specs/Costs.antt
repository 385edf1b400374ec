-- How many entries of a history the tools make at most: this project's choice.
use Rattle.gl_args.specs.Options.{SaidTool, SaidDetect, SaidInfo, SaidGet, SaidSet}
use Rattle.std.specs.Prelude.{ℕ, zero, suc, ◌+◌, ◌*◌, length, Option, Some, None, List}
use Rattle.gl_base.specs.declared.limits.TheConstants.{LINES_MAX, PLACES}

-- gpiodetect with so many chip words; with none it tries all places
abbrev pub detect_cost : ℕ → ℕ
detect_cost zero = 3 * PLACES
detect_cost (suc words) = 3 * suc words

-- gpioinfo of one chip, which has `LINES_MAX` lines at most, or of all places
abbrev pub info_cost : Option (List ℕ) → ℕ
info_cost None = PLACES * (LINES_MAX + 3)
info_cost (Some chip) = LINES_MAX + 3

-- a tool as a statement
abbrev pub tool_cost : SaidTool → ℕ
tool_cost (SaidDetect words) = detect_cost (length words)
tool_cost (SaidInfo opts) = info_cost opts.chip
tool_cost (SaidGet opts) = length opts.lines + 7
tool_cost (SaidSet opts) = length opts.lines + 5
tool_cost _ = 0

-- a gpioset that is started
abbrev pub held_cost : SaidTool → ℕ
held_cost (SaidSet opts) = length opts.lines + 5
held_cost _ = 0
