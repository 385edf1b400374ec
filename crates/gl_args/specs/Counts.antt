-- How many line words a tool has; of gpiodetect, how many chip words, and where it has none.
use Rattle.std.specs.List.{starts_with}
use Rattle.std.specs.Prelude.{◌≡◌, ℕ, Bool, true, false, ◌||◌, nat_eq, is_some, if◌then◌else◌, List, [], ◌∷◌, length, codes}
use Rattle.std.specs.Str.{bytes_eq}
use Rattle.gl_args.specs.Options.{SaidTool, SaidDetect, SaidInfo, SaidGet, SaidSet, SaidWatch, SaidNotify}

abbrev pub line_total : SaidTool → ℕ
line_total (SaidDetect names) = length names
line_total (SaidInfo opts) = length opts.lines
line_total (SaidGet opts) = length opts.lines
line_total (SaidSet opts) = length opts.lines
line_total (SaidWatch opts) = length opts.lines
line_total (SaidNotify opts) = length opts.lines

abbrev pub are_none : List (List ℕ) → Bool
are_none [] = true
are_none (word ∷ words) = false

-- the words after gpiodetect's name have no chip word: there are none, or `--` alone
abbrev pub is_bare : List (List ℕ) → Bool
is_bare [] = true
is_bare (word ∷ words) = if bytes_eq word (codes "--") then are_none words else false

-- a gpiodetect without chip words
abbrev pub IsBareDetect : SaidTool → Type 0
IsBareDetect (SaidDetect names) = length names ≡ 0
IsBareDetect _ = ⊥

-- a word names the chip of gpioinfo, or begins as one that does
abbrev pub is_chip_option : List ℕ → Bool
is_chip_option word = bytes_eq word (codes "-c") || starts_with nat_eq word (codes "--chip")

-- a gpioinfo of one chip
abbrev pub IsChipInfo : SaidTool → Type 0
IsChipInfo (SaidInfo opts) = is_some opts.chip ≡ true
IsChipInfo _ = ⊥

-- a gpioinfo
abbrev pub IsInfo : SaidTool → Type 0
IsInfo (SaidInfo opts) = Unit {0}
IsInfo _ = ⊥
