-- Paths in the tree of gpio-sim, and the words that name a chip or a file. Their length is this project's choice.
use Rattle.std.specs.Prelude.{ℕ, Bool, nat_le, if◌then◌else◌, List, length, Option, Some, None}
use Rattle.gl_base.specs.declared.path.TheConstants.Path.{LONGEST}

-- 0 to 127 bytes
abbrev pub is_path : List ℕ → Bool
is_path bytes = nat_le (length bytes) LONGEST

-- the path of these bytes, if they are one
abbrev pub path_of : List ℕ → Option (List ℕ)
path_of bytes = if is_path bytes then Some bytes else None
