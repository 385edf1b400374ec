-- GET_VALUES and SET_VALUES, from `struct gpio_v2_line_values` of `linux/gpio.h` and the kernel's document on the GPIO
-- character device. Which refusal comes first is this project's choice.
use Rattle.std.specs.Prelude.{ℕ, ◌+◌, ◌==◌, ◌&&◌, ◌||◌, Bool, not, if◌then◌else◌, List, [], ◌∷◌, slice_index, Option}
use Rattle.std.specs.Option.{option_map_or}
use Rattle.gl_bank.specs.Level.{driven, flipped, level, levels_at, logical}
use Rattle.gl_bank.specs.declared.levels.Levels.{Levels}
use Rattle.gl_base.specs.Bits.{has_bit}
use Rattle.gl_base.specs.Lines.{offsets_of}
use Rattle.gl_base.specs.Positions.{first_fault}
use Rattle.gl_base.specs.Refusals.{first_of, when}
use Rattle.gl_base.specs.declared.errno.Errno.{Errno}
use Rattle.gl_base.specs.declared.errno.Errno.TheVariants.{Inval, Perm}
use Rattle.gl_base.specs.declared.kind.Kind.{Kind}
use Rattle.gl_base.specs.declared.kind.Kind.TheVariants.{Simulated, Remote}
use Rattle.gl_base.specs.declared.lines.Lines.{Lines}
use Rattle.gl_base.specs.declared.settings.Resolved.{Resolved}
use Rattle.gl_debounce.specs.Timer.{hard_at, timer_at}
use Rattle.gl_debounce.specs.declared.timer.Timer.{Timer}
use Rattle.gl_uapi.specs.Fields.{number_at}
use Rattle.gl_uapi.specs.LineValues.{values_bytes}
use Rattle.gl_uapi.specs.declared.layout.TheConstants.{VALUES_BITS, VALUES_MASK}
use Rattle.gl_model.specs.declared.call.Part.{Part}
use Rattle.gl_model.specs.Bits.{bits_where, has_bit_below}
use Rattle.gl_model.specs.Configuring.{with_levels}
use Rattle.gl_model.specs.OpenFiles.{in_parts}
use Rattle.gl_model.specs.Outcome.{Outcome, done, refused_or, writes}
use Rattle.gl_model.specs.Places.{kind_at, place_at, with_place}
use Rattle.gl_model.specs.World.{World}

-- the values that were handed in, a bit a line of the request
abbrev pub bits_in : List ℕ → ℕ
bits_in bytes = number_at 8 VALUES_BITS bytes

-- the lines that they speak of, a bit a line of the request
abbrev pub mask_in : List ℕ → ℕ
mask_in bytes = number_at 8 VALUES_MASK bytes

-- the levels of the line at position i of a request
abbrev pub levels_of : ℕ → Lines → World → ℕ → Levels
levels_of place lines w i = levels_at (place_at w place).bank (slice_index lines.offsets i)

-- the level at which a line has settled; a line that has no timer shows its level
abbrev pub settled_level : Option Timer → Levels → Bool
settled_level timer line = option_map_or (λ t. t.settled) timer (level line)

-- the value of a line that isn't debounced here: its logical value on a simulated chip, what the driver answered on a remote one
abbrev pub value_on : Kind → Levels → Bool → Bool
value_on Simulated line answered = logical line
value_on Remote line answered = answered

-- the value of the line at position i of a request: where it is debounced, and not by its driver, the level at which it has
-- settled, inverted where it is active low
abbrev pub value_of : ℕ → Lines → ℕ → World → ℕ → Bool
value_of place lines answered w i =
    let line = levels_of place lines w i in
    if line.debounce_us == 0 || hard_at w.timers place (slice_index lines.offsets i) then value_on (kind_at w place) line (has_bit answered i)
    else flipped line.flags (settled_level (timer_at w.timers place (slice_index lines.offsets i)) line)

-- the values of the masked lines, a bit a line; the other bits are 0
abbrev pub values_of : ℕ → Lines → ℕ → ℕ → World → ℕ
values_of place lines mask answered w =
    bits_where (λ i. has_bit mask i && value_of place lines answered w i) lines.count

-- GET_VALUES on a request with these lines: refused where the mask has none of them
abbrev pub get_values : ℕ → List ℕ → Part → Lines → Resolved → World → Outcome
get_values place bytes part lines settings w =
    refused_or (when (not (has_bit_below lines.count (mask_in bytes))) Inval) w
    (in_parts part (λ answered v. writes (values_bytes (values_of place lines (mask_in bytes) answered v) (mask_in bytes)) v) w)

-- what is wrong with the line at position i of a request whose values are to be set: it is among them, and is no output
abbrev pub output_fault : ℕ → Lines → ℕ → World → ℕ → Option Errno
output_fault place lines mask w i = when (has_bit mask i && not (levels_of place lines w i).output) Perm

-- why values aren't set, first case first: one of the lines is no output; the mask has no line
abbrev pub set_values_refusal : ℕ → Lines → ℕ → World → Option Errno
set_values_refusal place lines mask w = first_of
    (first_fault (output_fault place lines mask w) 0 lines.count
    ∷ when (not (has_bit_below lines.count mask)) Inval
    ∷ [])

-- a line driven with a value, inverted where it is active low
abbrev pub driven_with : Bool → Levels → Levels
driven_with value line = driven (flipped line.flags value) line

-- the world with the masked ones of some lines driven with their bits, in order, from position i of the request on
abbrev pub drive_from : ℕ → ℕ → ℕ → ℕ → List ℕ → World → World
drive_from place mask bits i [] w = w
drive_from place mask bits i (offset ∷ offsets) w =
    drive_from place mask bits (i + 1) offsets
    (if has_bit mask i then with_place place (with_levels offset (driven_with (has_bit bits i))) w else w)

-- SET_VALUES on a request with these lines
abbrev pub set_values : ℕ → List ℕ → Part → Lines → Resolved → World → Outcome
set_values place bytes part lines settings w =
    refused_or (set_values_refusal place lines (mask_in bytes) w) w
    (in_parts part (λ answered v. done (drive_from place (mask_in bytes) (bits_in bytes) 0 (offsets_of lines) v)) w)
