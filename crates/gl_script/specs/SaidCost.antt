-- The cost of a statement by what it says: as `cost`, with no number and no command read again. This project's choice.
use Rattle.std.specs.Prelude.{ℕ, ◌+◌, ◌==◌, if◌then◌else◌, List, Some}
use Rattle.gl_base.specs.Words.{Span}
use Rattle.gl_base.specs.declared.command.TheConstants.{GET_LINE}
use Rattle.gl_v1.specs.Words.{makes_file as makes_old_file}
use Rattle.gl_script.specs.Cost.{cost}
use Rattle.gl_script.specs.Said.{keyword_said}
use Rattle.gl_script.specs.declared.said.Said.{Said}
use Rattle.gl_script.specs.declared.said.Said.TheVariants.{Ioctl, OldIoctl, Step}

-- by what is said and the words behind the first
abbrev pub cost_said : Said → List Span → ℕ
cost_said (Ioctl command made) words = if command == GET_LINE then 3 else 2
cost_said (OldIoctl command made) words = if makes_old_file (Some command) then 3 else 2
cost_said (Step name turns) words = turns + 1
cost_said said words = cost (keyword_said said) words
