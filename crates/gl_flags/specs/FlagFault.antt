-- Which flags go together, after the kernel's GPIO character device. The order of the cases is this
-- project's choice.
use Rattle.std.specs.Prelude.{ℕ, Bool, ◌+◌, ◌^◌, ◌&&◌, ◌||◌, not, nat_le, [], ◌∷◌, Option}
use Rattle.gl_base.specs.Bits.{has_bit}
use Rattle.gl_base.specs.Refusals.{first_of, when}
use Rattle.gl_base.specs.declared.errno.Errno.{Errno}
use Rattle.gl_base.specs.declared.errno.Errno.TheVariants.{Inval, OpNotSupp}
use Rattle.gl_base.specs.declared.flag.TheConstants.{USED, INPUT, OUTPUT, EDGE_RISING, EDGE_FALLING, OPEN_DRAIN, OPEN_SOURCE, BIAS_PULL_UP, BIAS_PULL_DOWN, BIAS_DISABLED, EVENT_CLOCK_HTE}

-- the word has a bit above that of the last flag: no such bit is a flag
abbrev pub has_unknown : ℕ → Bool
has_unknown bits = nat_le (2 ^ (EVENT_CLOCK_HTE + 1)) bits

-- an edge is asked for
abbrev pub has_edge : ℕ → Bool
has_edge bits = has_bit bits EDGE_RISING || has_bit bits EDGE_FALLING

-- a drive is asked for
abbrev pub has_drive : ℕ → Bool
has_drive bits = has_bit bits OPEN_DRAIN || has_bit bits OPEN_SOURCE

-- a direction is asked for
abbrev pub has_direction : ℕ → Bool
has_direction bits = has_bit bits INPUT || has_bit bits OUTPUT

-- a bias is asked for
abbrev pub has_bias : ℕ → Bool
has_bias bits = has_bit bits BIAS_PULL_UP || has_bit bits BIAS_PULL_DOWN || has_bit bits BIAS_DISABLED

-- more than one bias is asked for
abbrev pub has_two_biases : ℕ → Bool
has_two_biases bits =
    (has_bit bits BIAS_PULL_UP && has_bit bits BIAS_PULL_DOWN) || (has_bit bits BIAS_PULL_UP && has_bit bits BIAS_DISABLED)
    || (has_bit bits BIAS_PULL_DOWN && has_bit bits BIAS_DISABLED)

-- why the flags of a word don't go together: the first case that holds, or none
abbrev pub flag_fault : ℕ → Option Errno
flag_fault bits = first_of (
    when (has_unknown bits || has_bit bits USED) Inval
    ∷ when (has_bit bits EVENT_CLOCK_HTE) OpNotSupp
    ∷ when (has_bit bits INPUT && has_bit bits OUTPUT) Inval
    ∷ when (has_edge bits && not (has_bit bits INPUT)) Inval
    ∷ when (has_bit bits OPEN_DRAIN && has_bit bits OPEN_SOURCE) Inval
    ∷ when (has_drive bits && not (has_bit bits OUTPUT)) Inval
    ∷ when (has_bias bits && not (has_direction bits)) Inval
    ∷ when (has_two_biases bits) Inval
    ∷ [])
