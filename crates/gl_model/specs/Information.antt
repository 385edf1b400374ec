-- The information on a line, from `struct gpio_v2_line_info` and `enum gpio_v2_line_flag` of `linux/gpio.h` and the
-- kernel's document on the GPIO character device. The consumers `?` and `interrupt` are this project's choice.
use Rattle.std.specs.Prelude.{ℕ, ◌+◌, Bool, true, false, not, ◌==◌, ◌&&◌, ◌||◌, if◌then◌else◌, List, [], ◌∷◌, codes}
use Rattle.gl_base.specs.Bits.{has_bit}
use Rattle.gl_base.specs.declared.flag.TheConstants.{USED, INPUT, OUTPUT, EVENT_CLOCK_HTE}
use Rattle.gl_bank.specs.Level.{levels_at}
use Rattle.gl_bank.specs.declared.levels.Levels.{Levels}
use Rattle.gl_desc.specs.Desc.{desc_at, is_free}
use Rattle.gl_desc.specs.declared.desc.Desc.{Desc}
use Rattle.gl_desc.specs.declared.desc.Holder.{Holder}
use Rattle.gl_desc.specs.declared.desc.Holder.TheVariants.{Free, Claimed, Held, Hog}
use Rattle.gl_irq.specs.Irq.{irq_at}
use Rattle.gl_irq.specs.declared.irq.Irq.{Irq}
use Rattle.gl_pins.specs.Pins.{is_held}
use Rattle.gl_uapi.specs.declared.line_infos.Info.{Info}
use Rattle.gl_model.specs.Bits.{bits_where}
use Rattle.gl_model.specs.declared.place.Place.{Place}

-- All that a chip's tables have on one line: its name and who has it, its levels, its interrupt, and whether its pin is
-- held for another function.
pub record Line : Type 0 where
  pub desc : Desc
  pub levels : Levels
  pub irq : Irq
  pub pin_held : Bool

-- the line at an offset
abbrev pub line_at : Place → ℕ → Line
line_at place offset = record {
  desc = desc_at place.descs offset;
  levels = levels_at place.bank offset;
  irq = irq_at place.irqs offset;
  pin_held = is_held place.pins offset;
}

-- a request holds the line
abbrev pub is_requested : Holder → Bool
is_requested Free = false
is_requested (Claimed fd) = false
is_requested (Held fd) = true
is_requested Hog = false

-- the line is in use: somebody has it, its pin is held for another function, or it is locked as an interrupt
abbrev pub is_used : Line → Bool
is_used line = not (is_free line.desc.holder) || (line.pin_held || line.irq.locked)

-- The information shows the flag of this number: USED where the line is in use; INPUT or OUTPUT by its last direction;
-- every other flag where a request holds the line and has it configured so.
abbrev pub shows_flag : Line → ℕ → Bool
shows_flag line flag =
    if flag == USED then is_used line
    else if flag == INPUT then not line.levels.output
    else if flag == OUTPUT then line.levels.output
    else is_requested line.desc.holder && has_bit line.levels.flags flag

-- the word of the flags that the information shows
abbrev pub flags_shown : Line → ℕ
flags_shown line = bits_where (shows_flag line) (EVENT_CLOCK_HTE + 1)

-- a consumer that gave no name shows as `?`
abbrev pub name_or_mark : List ℕ → List ℕ
name_or_mark [] = codes "?"
name_or_mark (byte ∷ name) = byte ∷ name

-- whom the information names: who has the line; `interrupt` where nobody has it and it is locked as one; else nobody
abbrev pub consumer_shown : Line → List ℕ
consumer_shown line =
    if is_free line.desc.holder then (if line.irq.locked then codes "interrupt" else [])
    else name_or_mark line.desc.consumer

-- the information on the line at an offset
abbrev pub info_of : ℕ → Line → Info
info_of offset line = record {
  name = line.desc.name;
  consumer = consumer_shown line;
  offset = offset;
  flags = flags_shown line;
  period = line.levels.debounce_us;
}
