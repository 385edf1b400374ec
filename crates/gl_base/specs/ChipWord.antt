-- The words that name a chip: its number in decimal without leading zeros, its name, which is `gpiochip` and the
-- number, and the name below `/dev/`, as the kernel's document on the GPIO character device has it. That all three
-- are taken is this project's choice.
use Rattle.std.specs.Prelude.{◌≡◌, ◌⊎◌, ℕ, if◌then◌else◌, List, ◌++◌, length, drop, Option, codes, nat_eq}
use Rattle.std.specs.List.{starts_with}
use Rattle.gl_base.specs.Decimal.{decimal, plain_number_of_text}

-- the name of the chip of this number
abbrev pub chip_name : ℕ → List ℕ
chip_name number = codes "gpiochip" ++ decimal number

-- its path
abbrev pub chip_path : ℕ → List ℕ
chip_path number = codes "/dev/gpiochip" ++ decimal number

-- a word names the chip of this number
abbrev pub IsChipWord : List ℕ → ℕ → Type 0
IsChipWord word number = (word ≡ decimal number) ⊎ ((word ≡ chip_name number) ⊎ (word ≡ chip_path number))

-- what a chip's word has behind its prefix, if it has one
abbrev pub without_chip_prefix : List ℕ → List ℕ
without_chip_prefix word =
    if starts_with nat_eq word (codes "/dev/gpiochip") then drop (length (codes "/dev/gpiochip")) word
    else if starts_with nat_eq word (codes "gpiochip") then drop (length (codes "gpiochip")) word
    else word

-- the number of the chip that a word names, if it names one
abbrev pub chip_number_of : List ℕ → Option ℕ
chip_number_of word = plain_number_of_text (without_chip_prefix word)
