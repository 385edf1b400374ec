-- The forms of words, one definition each. This project's choice.
use Rattle.std.specs.Prelude.{ℕ, Bool, true, false, ◌&&◌, ◌||◌, ◌==◌, nat_le, if◌then◌else◌, List, [], ◌∷◌, length, is_some, Option, None, Some, codes}
use Rattle.std.specs.List.{list_all}
use Rattle.std.specs.Option.{option_or}
use Rattle.std.specs.Str.{bytes_eq}
use Rattle.gl_base.specs.BytesText.{is_pairs, pairs_bytes}
use Rattle.gl_base.specs.ChipWord.{chip_number_of}
use Rattle.gl_base.specs.CommandWord.{command_number_of}
use Rattle.gl_base.specs.Decimal.{number_of_text}
use Rattle.gl_base.specs.Label.{is_label_byte}
use Rattle.gl_base.specs.Name.{name_of}
use Rattle.gl_base.specs.Words.{is_nonempty}
use Rattle.gl_v1.specs.Words.{old_number_of}
use Rattle.gl_script.specs.declared.table.Form.{Form}
use Rattle.gl_script.specs.declared.table.Form.TheVariants.{FileName, Label, Path, Number, Chip, Word, Command, OldCommand, PinWord, IrqWord, HeldTool}
use Rattle.gl_script.specs.declared.version.Version.{Version}
use Rattle.gl_script.specs.declared.version.Version.TheVariants.{One, Two, Three}

-- a word is one of these
abbrev pub is_one_of : List (List ℕ) → List ℕ → Bool
is_one_of [] word = false
is_one_of (text ∷ texts) word = bytes_eq word text || is_one_of texts word

-- 1 to most bytes, each of them of this kind
abbrev pub is_of : (ℕ → Bool) → ℕ → List ℕ → Bool
is_of kind most word = is_nonempty word && (nat_le (length word) most && list_all kind word)

abbrev pub is_path_byte : ℕ → Bool
is_path_byte byte = is_label_byte byte || byte == 47

-- the text that a word is, if it is one of this kind
abbrev pub text_of : (ℕ → Bool) → ℕ → List ℕ → Option (List ℕ)
text_of kind most word = if is_of kind most word then Some word else None

-- the name of a file or a tool that a word is, and a path of the tree
abbrev pub file_name_of : List ℕ → Option (List ℕ)
file_name_of word = text_of is_label_byte 15 word

abbrev pub tree_path_of : List ℕ → Option (List ℕ)
tree_path_of word = text_of is_path_byte 127 word

-- labels and values may have any bytes but 0 in a session of this version
abbrev pub has_any_names : Version → Bool
has_any_names One = false
has_any_names Two = false
has_any_names Three = true

-- the name of 1 to 31 bytes, none of them 0, that pairs of hexadecimal digits in either case write
abbrev pub paired_name : List ℕ → Option (List ℕ)
paired_name digits = if is_pairs digits then name_of (pairs_bytes digits) else None

-- the name that `\` (92) and such pairs write
abbrev pub escaped_name : List ℕ → Option (List ℕ)
escaped_name [] = None
escaped_name (first ∷ digits) = if first == 92 then paired_name digits else None

-- the label or the value that a word says in a session of this version
abbrev pub label_in : Version → List ℕ → Option (List ℕ)
label_in version word = option_or (text_of is_label_byte 31 word) (if has_any_names version then escaped_name word else None)

-- the same in a session of any version: a word that says a label or a value in one of them says the same in those that have more
abbrev pub label_of : List ℕ → Option (List ℕ)
label_of word = label_in Three word

-- a number, if it is one from low to high
abbrev pub within : ℕ → ℕ → Option ℕ → Option ℕ
within low high None = None
within low high (Some n) = if nat_le low n && nat_le n high then Some n else None

-- the number that a word is, if it is one from low to high
abbrev pub number_within : ℕ → ℕ → List ℕ → Option ℕ
number_within low high word = within low high (number_of_text word)

abbrev pub is_there : Option ℕ → Bool
is_there None = false
is_there (Some n) = true

abbrev pub pin_words : List (List ℕ)
pin_words = codes "range" ∷ codes "hold" ∷ codes "drop" ∷ []

abbrev pub irq_words : List (List ℕ)
irq_words = codes "lock" ∷ codes "unlock" ∷ codes "enable" ∷ codes "disable" ∷ codes "none" ∷ []

abbrev pub held_tools : List (List ℕ)
held_tools = codes "gpioset" ∷ codes "gpiomon" ∷ codes "gpionotify" ∷ []

-- a word is of a form
abbrev pub meets : Form → List ℕ → Bool
meets FileName word = is_of is_label_byte 15 word
meets (Label version) word = is_some (label_in version word)
meets Path word = is_of is_path_byte 127 word
meets (Number low high) word = is_there (number_within low high word)
meets Chip word = is_there (within 0 63 (chip_number_of word))
meets Word word = nat_le (length word) 127
meets Command word = is_there (command_number_of word)
meets OldCommand word = is_there (old_number_of word)
meets PinWord word = is_one_of pin_words word
meets IrqWord word = is_one_of irq_words word
meets HeldTool word = is_one_of held_tools word
