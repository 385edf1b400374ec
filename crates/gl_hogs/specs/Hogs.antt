-- Hogs: lines that the board itself holds. From the kernel's document on gpio-sim (`hog/name` and `hog/direction`).
use Rattle.std.specs.Prelude.{◌^◌, false, true, List, [], ◌∷◌}
use Rattle.gl_base.specs.Positions.{change_at}
use Rattle.gl_base.specs.declared.flag.TheConstants.{INPUT, OUTPUT}
use Rattle.gl_base.specs.declared.settings.Settings.{Settings}
use Rattle.gl_bank.specs.Level.{first_levels, configured}
use Rattle.gl_bank.specs.declared.levels.Levels.{Levels}
use Rattle.gl_desc.specs.Desc.{first_desc, hogged}
use Rattle.gl_desc.specs.declared.desc.Desc.{Desc}
use Rattle.gl_desc.specs.declared.hog.Hog.{Hog}
use Rattle.gl_desc.specs.declared.hog.HogWay.{HogWay}
use Rattle.gl_desc.specs.declared.hog.HogWay.TheVariants.{Input, High, Low}

-- how a hogged line is configured: as an input, or as an output that is driven high or low
abbrev pub hog_settings : HogWay → Settings
hog_settings Input = record { flags = 2 ^ INPUT; value = false; debounce_us = 0 }
hog_settings High = record { flags = 2 ^ OUTPUT; value = true; debounce_us = 0 }
hog_settings Low = record { flags = 2 ^ OUTPUT; value = false; debounce_us = 0 }

-- the holders of the lines when these hogs were taken, in order
abbrev pub hogged_descs : List Hog → List Desc → List Desc
hogged_descs [] descs = descs
hogged_descs (hog ∷ hogs) descs = hogged_descs hogs (change_at first_desc hog.offset (hogged hog.name) descs)

-- and their levels
abbrev pub hogged_bank : List Hog → List Levels → List Levels
hogged_bank [] bank = bank
hogged_bank (hog ∷ hogs) bank = hogged_bank hogs (change_at first_levels hog.offset (configured (hog_settings hog.way)) bank)
