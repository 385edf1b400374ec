-- A chip as its information tells of it, and the chips that a tool tries. The texts follow libgpiod's tools.
use Rattle.std.specs.Prelude.{ℕ, zero, suc, ◌-◌, Bool, true, false, not, ◌&&◌, nat_le, if◌then◌else◌, List, [], ◌∷◌, ◌++◌, length, take, drop, replicate, codes, Option, Some, None}
use Rattle.gl_base.specs.Decimal.{decimal}
use Rattle.gl_base.specs.Name.{name_in}
use Rattle.gl_base.specs.declared.errno.Errno.{Errno}
use Rattle.gl_base.specs.declared.errno.Errno.TheVariants.{NoEnt, NoDev}
use Rattle.gl_base.specs.declared.command.TheConstants.{GET_CHIPINFO}
use Rattle.gl_base.specs.declared.limits.TheConstants.{PLACES}
use Rattle.gl_base.specs.declared.operation.Do.{Do}
use Rattle.gl_base.specs.declared.operation.Do.TheVariants.{Ioctl, Close}
use Rattle.gl_uapi.specs.Fields.{number_at, stretch}
use Rattle.gl_uapi.specs.declared.layout.TheConstants.{CHIP_INFO_SIZE, CHIP_NAME, CHIP_LABEL, CHIP_LINES, NAME_SIZE}
use Rattle.gl_client.specs.Program.{Program, done, ask}
use Rattle.gl_lines.specs.Texts.{line}
use Rattle.gl_values.specs.declared.chip.Chip.{Chip}

-- the chip that stands in the bytes of its information
abbrev pub chip_in : List ℕ → Chip
chip_in bytes = record {
  name = name_in (stretch CHIP_NAME NAME_SIZE bytes);
  label = name_in (stretch CHIP_LABEL NAME_SIZE bytes);
  lines = number_at 4 CHIP_LINES bytes;
}

-- the chip that bytes tell of, where there are enough of them
abbrev pub chip_told : List ℕ → Option Chip
chip_told bytes = if nat_le CHIP_INFO_SIZE (length bytes) then Some (chip_in (take CHIP_INFO_SIZE bytes)) else None

-- a chip that was to be opened isn't there
abbrev pub is_absent : Errno → Bool
is_absent NoEnt = true
is_absent NoDev = true
is_absent _ = false

-- `NAME [LABEL] (N lines)`
abbrev pub chip_line : Chip → List ℕ
chip_line chip = line (chip.name ++ codes " [" ++ chip.label ++ codes "] (" ++ decimal chip.lines ++ codes " lines)")

-- `NAME - N lines:`
abbrev pub chip_head : Chip → List ℕ
chip_head chip = line (chip.name ++ codes " - " ++ decimal chip.lines ++ codes " lines:")

-- the numbers of n places from i on, as words
abbrev pub places_from : ℕ → ℕ → List (List ℕ)
places_from i zero = []
places_from i (suc n) = decimal i ∷ places_from (suc i) n

-- the chip words that are left after the first `next`: those that were given, or the numbers of all places
abbrev pub words_from : List (List ℕ) → ℕ → List (List ℕ)
words_from [] next = places_from next (PLACES - next)
words_from (word ∷ words) next = drop next (word ∷ words)

-- chips are given by words
abbrev pub is_named_by : List (List ℕ) → Bool
is_named_by [] = false
is_named_by (word ∷ words) = true

abbrev pub to_words : Option (List ℕ) → List (List ℕ)
to_words None = []
to_words (Some word) = word ∷ []

-- a chip that wasn't opened is passed over, where no chip was given by a word and it isn't there
abbrev pub passes_over : Errno → Bool → Bool
passes_over errno is_named = is_absent errno && not is_named

-- the chip in a slot is asked for its information
abbrev pub chip_query : ℕ → Do
chip_query slot = Ioctl slot GET_CHIPINFO 68 (replicate 592 0) 0

-- a tool that goes over chips ends
abbrev pub ends : Program (Unit {0})
ends = done tt

-- its chip is closed for the last time
abbrev pub leaves : ℕ → Program (Unit {0})
leaves slot = ask (Close slot) (λ _. ends)
