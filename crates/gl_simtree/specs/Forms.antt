-- The forms of the parts of a path (this project's choice; gpio-sim takes any name that its file system takes).
use Rattle.std.specs.Prelude.{ℕ, ◌&&◌, Bool, not, nat_le, nat_eq, if◌then◌else◌, List, length, Option, Some, None, codes}
use Rattle.std.specs.List.{list_all, starts_with}
use Rattle.std.specs.Str.{bytes_eq}
use Rattle.gl_base.specs.Label.{is_label_byte}

-- 1 to 15 bytes of a label
abbrev pub is_part : List ℕ → Bool
is_part part = nat_le 1 (length part) && nat_le (length part) 15 && list_all is_label_byte part

-- the name of a device: it doesn't begin as the name of a chip does
abbrev pub is_device : List ℕ → Bool
is_device part = is_part part && not (starts_with nat_eq part (codes "gpiochip"))

-- the device of this name, if it is one
abbrev pub device_name : List ℕ → Option (List ℕ)
device_name part = if is_device part then Some part else None

-- the name of a bank: its device has a file `live`
abbrev pub is_bank : List ℕ → Bool
is_bank part = is_part part && not (bytes_eq part (codes "live"))

-- the bank of this name, if it is one
abbrev pub bank_name : List ℕ → Option (List ℕ)
bank_name part = if is_bank part then Some part else None
