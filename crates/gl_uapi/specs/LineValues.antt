-- The values of a request's lines, `struct gpio_v2_line_values` of `linux/gpio.h`.
use Rattle.std.specs.Prelude.{ℕ, ◌≡◌, List, ◌++◌, length}
use Rattle.gl_uapi.specs.declared.layout.TheConstants.{LINE_VALUES_SIZE, VALUES_BITS, VALUES_MASK}
use Rattle.gl_uapi.specs.Fields.{number_at, number_bytes}

-- the bytes spell these values
pub record SpellsValues (bytes : List ℕ) (bits mask : ℕ) : Type 0 where
  pub size : length bytes ≡ LINE_VALUES_SIZE
  pub bits_stand : number_at 8 VALUES_BITS bytes ≡ bits
  pub mask_stands : number_at 8 VALUES_MASK bytes ≡ mask

-- the bytes of these values
abbrev pub values_bytes : ℕ → ℕ → List ℕ
values_bytes bits mask = number_bytes 8 bits ++ number_bytes 8 mask
