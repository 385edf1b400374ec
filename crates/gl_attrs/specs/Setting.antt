-- The settings that a configuration gives to a line of a request, from the attributes of
-- `struct gpio_v2_line_config` in `linux/gpio.h`. A configuration is the list of its bytes.
use Rattle.std.specs.Prelude.{ℕ, Bool, false, ◌==◌, ◌&&◌, min, nat_lt, List, Option, find, if◌then◌else◌}
use Rattle.std.specs.Option.{option_map_or}
use Rattle.gl_base.specs.Bits.{has_bit}
use Rattle.gl_base.specs.Positions.{table_from}
use Rattle.gl_base.specs.Settings.{no_settings}
use Rattle.gl_base.specs.declared.limits.TheConstants.{LINES_PER_REQUEST}
use Rattle.gl_base.specs.declared.settings.Resolved.{Resolved}
use Rattle.gl_base.specs.declared.settings.Settings.{Settings}
use Rattle.gl_uapi.specs.Fields.{number_at}
use Rattle.gl_uapi.specs.LineConfig.{Attribute, first_attributes}
use Rattle.gl_uapi.specs.declared.layout.TheConstants.{ATTRIBUTES_MAX, ATTRIBUTE_DEBOUNCE, ATTRIBUTE_FLAGS, ATTRIBUTE_OUTPUT_VALUES, CONFIG_FLAGS, CONFIG_NUM_ATTRS}

-- how many attributes there are, as the configuration says
abbrev pub num_attrs : List ℕ → ℕ
num_attrs config = number_at 4 CONFIG_NUM_ATTRS config

-- the attributes that count: the first `num_attrs` of the ten
abbrev pub attributes : List ℕ → List Attribute
attributes config = first_attributes (min (num_attrs config) ATTRIBUTES_MAX) config

-- the attribute is of this kind, and its mask has the line at position i of the request
abbrev pub covers : ℕ → ℕ → Attribute → Bool
covers id i attribute = (attribute.id == id) && has_bit attribute.mask i

-- the first attribute of this kind whose mask has the line
abbrev pub attribute_for : ℕ → List ℕ → ℕ → Option Attribute
attribute_for id config i = find (covers id i) (attributes config)

-- a line's flags: those of its first attribute of flags, else those of the configuration
abbrev pub flags_for : List ℕ → ℕ → ℕ
flags_for config i = option_map_or (λ a. a.value) (attribute_for ATTRIBUTE_FLAGS config i) (number_at 8 CONFIG_FLAGS config)

-- a line's output value: its bit in its first attribute of output values, else 0
abbrev pub value_for : List ℕ → ℕ → Bool
value_for config i = option_map_or (λ a. has_bit a.value i) (attribute_for ATTRIBUTE_OUTPUT_VALUES config i) false

-- a line's debounce period in microseconds: that of its first debounce attribute, else 0
abbrev pub period_for : List ℕ → ℕ → ℕ
period_for config i = option_map_or (λ a. a.period) (attribute_for ATTRIBUTE_DEBOUNCE config i) 0

-- the settings of the line at position i of the request
abbrev pub settings_for : List ℕ → ℕ → Settings
settings_for config i = record { flags = flags_for config i; value = value_for config i; debounce_us = period_for config i }

-- what stands at position i where n lines have settings
abbrev pub settings_or_none : List ℕ → ℕ → ℕ → Settings
settings_or_none config n i = if nat_lt i n then settings_for config i else no_settings

-- the settings of n lines, in order
abbrev pub resolved_for : List ℕ → ℕ → Resolved
resolved_for config n = record { count = n; lines = table_from (settings_or_none config n) 0 LINES_PER_REQUEST }
