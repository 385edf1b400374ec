-- What stands behind a command: pieces of bytes, and the name of the file that it makes behind `as`. This project's choice.
use Rattle.std.specs.Prelude.{ℕ, Bool, true, false, if◌then◌else◌, List, [], ◌∷◌, Option, None, Some, codes}
use Rattle.std.specs.Str.{bytes_eq}
use Rattle.gl_base.specs.Words.{Span, text_at}
use Rattle.gl_script.specs.Forms.{file_name_of}

-- the words after the first two, and after the first three
abbrev pub behind_two : List Span → List Span
behind_two (a ∷ b ∷ words) = words
behind_two _ = []

abbrev pub behind_three : List Span → List Span
behind_three (a ∷ b ∷ c ∷ words) = words
behind_three _ = []

-- the name after `as`
abbrev pub name_behind_as : List Span → List ℕ
name_behind_as [] = []
name_behind_as (word ∷ words) = if bytes_eq word.text (codes "as") then text_at 0 words else name_behind_as words

-- the name of the file that a command makes, or that it makes none; None where the name isn't of its form
abbrev pub named : Option (List ℕ) → Option (Option (List ℕ))
named None = None
named (Some name) = Some (Some name)

abbrev pub made_by : Bool → List Span → Option (Option (List ℕ))
made_by true words = named (file_name_of (name_behind_as words))
made_by false words = Some None
