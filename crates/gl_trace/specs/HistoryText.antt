-- The text of a history: a line that tells how many entries it has, and then one for each. This project's choice.
use Rattle.std.specs.Prelude.{ℕ, ◌+◌, List, [], ◌∷◌, ◌++◌, length, codes}
use Rattle.gl_base.specs.Decimal.{decimal}
use Rattle.gl_base.specs.TextLines.{text_line}
use Rattle.gl_core.specs.Device.{OneEntry}
use Rattle.gl_trace.specs.EntryText.{HasText, entry_text}
use Rattle.gl_trace.specs.Typed.{IsTyped}

-- a line for each entry, with its index
abbrev pub entry_lines : ℕ → List OneEntry → List ℕ
entry_lines index [] = []
entry_lines index (e ∷ entries) = text_line (entry_text index e) ++ entry_lines (index + 1) entries

-- `== history N`, and the entries from index 0 on
abbrev pub history_text : List OneEntry → List ℕ
history_text history = text_line (codes "== history " ++ decimal (length history)) ++ entry_lines 0 history

-- Each entry has a text at its index, and its numbers and texts are of their types, as those of every value of the code are.
abbrev pub AreTold : ℕ → List OneEntry → Type 0
AreTold index [] = Unit {0}
AreTold index (e ∷ entries) = IsTyped index e × HasText e × AreTold (index + 1) entries
