-- A change of some lines leaves as many.
use Rattle.std.proofs.Common.{◌≡◌, ℕ, List, length}
use Rattle.gl_base.specs.Positions.{change_each}
use Rattle.gl_base.proofs.AtPositions.{length-change_each}
use Rattle.gl_desc.specs.Desc.{first_desc}
use Rattle.gl_desc.specs.declared.desc.Desc.{Desc}

pub as_many_lines : (offsets : List ℕ) (f : Desc → Desc) (descs : List Desc) → length (change_each first_desc offsets f descs) ≡ length descs
as_many_lines offsets f descs = length-change_each first_desc offsets f descs
