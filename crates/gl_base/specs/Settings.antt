-- The settings of a line.
use Rattle.std.specs.Prelude.{false}
use Rattle.gl_base.specs.declared.settings.Settings.{Settings}

-- no flags, the value false and no period: what stands past a request's lines
abbrev pub no_settings : Settings
no_settings = record { flags = 0; value = false; debounce_us = 0 }
