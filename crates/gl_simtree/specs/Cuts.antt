-- A path is parts with slashes between them.
use Rattle.std.specs.Prelude.{ℕ, ◌==◌, if◌then◌else◌, List, [], ◌∷◌, Option, Some, None}

-- the bytes before the first slash
abbrev pub before_slash : List ℕ → List ℕ
before_slash [] = []
before_slash (byte ∷ bytes) = if byte == 47 then [] else byte ∷ before_slash bytes

-- the bytes behind the first slash, where there is one
abbrev pub behind_slash : List ℕ → Option (List ℕ)
behind_slash [] = None
behind_slash (byte ∷ bytes) = if byte == 47 then Some bytes else behind_slash bytes
