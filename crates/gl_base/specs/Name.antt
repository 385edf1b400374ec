-- Names: those of lines, consumers, chips and their labels. Their length is that of the kernel's
-- `GPIO_MAX_NAME_SIZE` (`linux/gpio.h`), which counts a zero byte at the end.
use Rattle.std.specs.Prelude.{ℕ, Bool, ◌&&◌, nat_lt, nat_le, if◌then◌else◌, List, length, take, Option, Some, None}
use Rattle.std.specs.List.{list_all, take_while}
use Rattle.gl_base.specs.Padded.{padded}
use Rattle.gl_base.specs.declared.name.TheConstants.Name.{LONGEST, FIELD}

-- a byte that isn't 0
abbrev pub is_nonzero : ℕ → Bool
is_nonzero byte = nat_lt 0 byte

-- 0 to 31 bytes, none of them 0
abbrev pub is_name : List ℕ → Bool
is_name bytes = nat_le (length bytes) LONGEST && list_all is_nonzero bytes

-- the name of these bytes, if they are one
abbrev pub name_of : List ℕ → Option (List ℕ)
name_of bytes = if is_name bytes then Some bytes else None

-- what a field of 32 bytes has for this name: its bytes, and then zeros
abbrev pub field_of : List ℕ → List ℕ
field_of name = padded FIELD name

-- the name that stands in a field: the bytes before the first 0, at most 31
abbrev pub name_in : List ℕ → List ℕ
name_in field = take_while is_nonzero (take LONGEST field)
