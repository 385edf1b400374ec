-- Up to which offset lines have names.
use Rattle.std.specs.Prelude.{◌≡◌, ℕ, zero, suc, List, [], ◌∷◌}
use Rattle.gl_desc.specs.declared.desc.Desc.{Desc}

-- no line at this offset or behind it has a name
abbrev pub NamesEndBy : List Desc → ℕ → Type 0
NamesEndBy [] end = Unit {0}
NamesEndBy (line ∷ lines) zero = (line.name ≡ []) × NamesEndBy lines zero
NamesEndBy (line ∷ lines) (suc end) = NamesEndBy lines end
