-- The bytes of labels, and of the parts of a path: this project's choice.
use Rattle.std.specs.Prelude.{ℕ, Bool, ◌||◌, ◌==◌}
use Rattle.std.specs.Char.{is_ascii_alphanumeric}

-- a letter, a digit, `_`, `-` or `.`
abbrev pub is_label_byte : ℕ → Bool
is_label_byte byte = is_ascii_alphanumeric byte || (byte == 95 || (byte == 45 || byte == 46))
