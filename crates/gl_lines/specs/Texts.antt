-- Texts that every tool prints. The layout follows libgpiod's tools; that a refusal is printed by the error's name is this
-- project's choice.
use Rattle.std.specs.Prelude.{ℕ, Bool, List, [], ◌∷◌, ◌++◌, codes, if◌then◌else◌}
use Rattle.gl_base.specs.Errno.{errno_name}
use Rattle.gl_base.specs.declared.errno.Errno.{Errno}

-- a line ends with the byte 0x0A
abbrev pub line : List ℕ → List ℕ
line text = text ++ 10 ∷ []

-- `TOOL: ERROR`
abbrev pub failed_line : List ℕ → Errno → List ℕ
failed_line tool errno = line (tool ++ codes ": " ++ errno_name errno)

-- a word in quotes, or without them; 34 is `"`
abbrev pub quoted : Bool → List ℕ → List ℕ
quoted unquoted word = if unquoted then word else 34 ∷ word ++ 34 ∷ []
