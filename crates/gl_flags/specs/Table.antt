-- The flags that are known, each by its name and its bit, from `enum gpio_v2_line_flag` of `linux/gpio.h`.
use Rattle.std.specs.Prelude.{ℕ, ◌^◌, List, [], ◌∷◌, codes}
use Rattle.gl_base.specs.declared.flag.TheConstants.{USED, ACTIVE_LOW, INPUT, OUTPUT, EDGE_RISING, EDGE_FALLING, OPEN_DRAIN, OPEN_SOURCE, BIAS_PULL_UP, BIAS_PULL_DOWN, BIAS_DISABLED, EVENT_CLOCK_REALTIME, EVENT_CLOCK_HTE}

abbrev pub flag_table : List (List ℕ × ℕ)
flag_table =
    (codes "USED", 2 ^ USED) ∷ (codes "ACTIVE_LOW", 2 ^ ACTIVE_LOW) ∷ (codes "INPUT", 2 ^ INPUT) ∷ (codes "OUTPUT", 2 ^ OUTPUT)
    ∷ (codes "EDGE_RISING", 2 ^ EDGE_RISING) ∷ (codes "EDGE_FALLING", 2 ^ EDGE_FALLING) ∷ (codes "OPEN_DRAIN", 2 ^ OPEN_DRAIN)
    ∷ (codes "OPEN_SOURCE", 2 ^ OPEN_SOURCE) ∷ (codes "BIAS_PULL_UP", 2 ^ BIAS_PULL_UP) ∷ (codes "BIAS_PULL_DOWN", 2 ^ BIAS_PULL_DOWN)
    ∷ (codes "BIAS_DISABLED", 2 ^ BIAS_DISABLED) ∷ (codes "EVENT_CLOCK_REALTIME", 2 ^ EVENT_CLOCK_REALTIME)
    ∷ (codes "EVENT_CLOCK_HTE", 2 ^ EVENT_CLOCK_HTE) ∷ []
