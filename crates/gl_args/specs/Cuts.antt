-- A word divided at a byte.
use Rattle.std.specs.Prelude.{◌≡◌, ℕ, ◌==◌, if◌then◌else◌, List, [], ◌∷◌, Option, Some, None}
use Rattle.std.specs.Borrow.{Bor}
use Rattle.std.specs.Char.{is_ascii_digit}

-- the bytes before the first byte cut
abbrev pub before : ℕ → List ℕ → List ℕ
before cut [] = []
before cut (byte ∷ bytes) = if byte == cut then [] else byte ∷ before cut bytes

-- the bytes after it, where there is one
abbrev pub behind : ℕ → List ℕ → Option (List ℕ)
behind cut [] = None
behind cut (byte ∷ bytes) = if byte == cut then Some bytes else behind cut bytes

-- what stands before a byte and after it
abbrev pub Halves : Type 0
Halves = List ℕ × List ℕ

-- a byte in front of bytes that are divided, or not
abbrev pub divided_behind : ℕ → ℕ → List ℕ → Option Halves → Option Halves
divided_behind cut byte bytes (Some halves) = Some (byte ∷ halves.0, halves.1)
divided_behind cut byte bytes None = if byte == cut then Some ([], bytes) else None

-- the bytes divided at their last byte cut, where there is one
abbrev pub divided : ℕ → List ℕ → Option Halves
divided cut [] = None
divided cut (byte ∷ bytes) = divided_behind cut byte bytes (divided cut bytes)

-- lent halves are those of a word, or neither has some
abbrev pub DividesAs : Option Halves → Option (Bor (List ℕ) × Bor (List ℕ)) → Type 0
DividesAs said None = said ≡ None
DividesAs said (Some lent) = said ≡ Some (lent.0.now, lent.1.now)

-- what stands after the digits that a text begins with
abbrev pub unit_text : List ℕ → List ℕ
unit_text [] = []
unit_text (byte ∷ bytes) = if is_ascii_digit byte then unit_text bytes else byte ∷ bytes
