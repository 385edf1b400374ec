-- Hogs leave as many lines.
use Rattle.std.proofs.Common.{◌≡◌, List, [], ◌∷◌, length, refl, ◌∙◌}
use Rattle.gl_base.specs.Positions.{change_at}
use Rattle.gl_base.proofs.AtPositions.{length-change_at}
use Rattle.gl_bank.specs.Level.{first_levels, configured}
use Rattle.gl_bank.specs.declared.levels.Levels.{Levels}
use Rattle.gl_desc.specs.Desc.{first_desc, hogged}
use Rattle.gl_desc.specs.declared.desc.Desc.{Desc}
use Rattle.gl_desc.specs.declared.hog.Hog.{Hog}
use Rattle.gl_hogs.specs.Hogs.{hogged_descs, hogged_bank, hog_settings}

pub as_many_descs : (hogs : List Hog) (descs : List Desc) → length (hogged_descs hogs descs) ≡ length descs
as_many_descs [] descs = refl
as_many_descs (hog ∷ hogs) descs = as_many_descs hogs (change_at first_desc hog.offset (hogged hog.name) descs) ∙ length-change_at first_desc hog.offset (hogged hog.name) descs

pub as_many_levels : (hogs : List Hog) (bank : List Levels) → length (hogged_bank hogs bank) ≡ length bank
as_many_levels [] bank = refl
as_many_levels (hog ∷ hogs) bank = as_many_levels hogs (change_at first_levels hog.offset (configured (hog_settings hog.way)) bank) ∙ length-change_at first_levels hog.offset (configured (hog_settings hog.way)) bank
