-- Why a configuration is refused. The order of the cases is this project's choice.
use Rattle.std.specs.Prelude.{ℕ, ◌&&◌, not, nat_lt, is_some, List, [], ◌∷◌, Option}
use Rattle.gl_base.specs.Bits.{has_bit}
use Rattle.gl_base.specs.Positions.{first_fault}
use Rattle.gl_base.specs.Refusals.{first_of, when}
use Rattle.gl_base.specs.declared.errno.Errno.{Errno}
use Rattle.gl_base.specs.declared.errno.Errno.TheVariants.{Inval}
use Rattle.gl_base.specs.declared.flag.TheConstants.{INPUT}
use Rattle.gl_flags.specs.FlagFault.{flag_fault}
use Rattle.gl_uapi.specs.Fields.{is_zero_at}
use Rattle.gl_uapi.specs.declared.layout.TheConstants.{ATTRIBUTES_MAX, ATTRIBUTE_DEBOUNCE, CONFIG_PADDING, CONFIG_PADDING_SIZE}
use Rattle.gl_attrs.specs.Setting.{attribute_for, flags_for, num_attrs}

-- why the line at position i of the request can't have its settings: its flags don't go together, or it is to
-- be debounced and isn't to be an input
abbrev pub line_fault : List ℕ → ℕ → Option Errno
line_fault config i = first_of (
    flag_fault (flags_for config i)
    ∷ when (is_some (attribute_for ATTRIBUTE_DEBOUNCE config i) && not (has_bit (flags_for config i) INPUT)) Inval
    ∷ [])

-- why a configuration for n lines is refused: the first case that holds, or none
abbrev pub config_fault : List ℕ → ℕ → Option Errno
config_fault config n = first_of (
    when (nat_lt ATTRIBUTES_MAX (num_attrs config)) Inval
    ∷ when (not (is_zero_at CONFIG_PADDING CONFIG_PADDING_SIZE config)) Inval
    ∷ first_fault (line_fault config) 0 n
    ∷ [])
