-- Paths that go to the lines of a chip and to a device, in place of the tree (gpio-sim; which chips and lines a path may name
-- is this project's choice).
use Rattle.std.specs.Prelude.{ℕ, Bool, true, false, not, ◌&&◌, nat_le, nat_eq, if◌then◌else◌, List, [], ◌∷◌, length, drop, Option, Some, None, codes}
use Rattle.std.specs.List.{list_all, starts_with}
use Rattle.std.specs.Str.{bytes_eq}
use Rattle.gl_base.specs.Decimal.{plain_number_of_text}
use Rattle.gl_base.specs.Label.{is_label_byte}
use Rattle.gl_base.specs.Words.{pieces}
use Rattle.gl_script.specs.Forms.{within}
use Rattle.gl_talk.specs.declared.paths.LineFile.{LineFile}

-- the number of `gpiochipN`, and of `sim_gpioM`, without leading zeros
abbrev pub chip_part : List ℕ → Option ℕ
chip_part part = if starts_with nat_eq part (codes "gpiochip") then within 0 63 (plain_number_of_text (drop 8 part)) else None

abbrev pub line_part : List ℕ → Option ℕ
line_part part = if starts_with nat_eq part (codes "sim_gpio") then within 0 9999 (plain_number_of_text (drop 8 part)) else None

-- whether a file of a line is its pull, or its value
abbrev pub is_pull_part : List ℕ → Option Bool
is_pull_part part = if bytes_eq part (codes "pull") then Some true else if bytes_eq part (codes "value") then Some false else None

abbrev pub line_file_by : Option ℕ → Option ℕ → Option Bool → Option LineFile
line_file_by (Some chip) (Some offset) (Some is_pull) = Some (record { chip = chip; offset = offset; is_pull = is_pull })
line_file_by _ _ _ = None

abbrev pub line_file_of : List (List ℕ) → Option LineFile
line_file_of (chip ∷ line ∷ name ∷ []) = line_file_by (chip_part chip) (line_part line) (is_pull_part name)
line_file_of _ = None

-- the file of a line that a path names, if it names one: `gpiochipN/sim_gpioM/pull` or `gpiochipN/sim_gpioM/value`
abbrev pub line_file : List ℕ → Option LineFile
line_file path = line_file_of (pieces 47 path)

-- a device's name: 1 to 15 bytes of a label, which don't begin as a chip's name does
abbrev pub is_device : List ℕ → Bool
is_device part = nat_le 1 (length part) && nat_le (length part) 15 && list_all is_label_byte part && not (starts_with nat_eq part (codes "gpiochip"))

abbrev pub live_by : List ℕ → List ℕ → Option (List ℕ)
live_by device name = if is_device device && bytes_eq name (codes "live") then Some device else None

abbrev pub live_of : List (List ℕ) → Option (List ℕ)
live_of (device ∷ name ∷ []) = live_by device name
live_of _ = None

-- the device whose `live` a path names, if it names one: `DEV/live`
abbrev pub live_device : List ℕ → Option (List ℕ)
live_device path = live_of (pieces 47 path)
