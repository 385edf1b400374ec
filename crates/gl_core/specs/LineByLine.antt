-- What calls on a request do with one of its lines, and with the request itself.
use Rattle.std.specs.Prelude.{ℕ, if◌then◌else◌, slice_index}
use Rattle.gl_base.specs.Bits.{has_bit}
use Rattle.gl_base.specs.Rows.{change_first}
use Rattle.gl_base.specs.declared.lines.Lines.{Lines}
use Rattle.gl_base.specs.declared.settings.Resolved.{Resolved}
use Rattle.gl_base.specs.declared.settings.Settings.{Settings}
use Rattle.gl_uapi.specs.declared.layout.TheConstants.{CHANGED_CONFIG}
use Rattle.gl_model.specs.Configuring.{configure, is_directed, settings_of, with_levels, with_settings}
use Rattle.gl_model.specs.Notify.{notify}
use Rattle.gl_model.specs.Places.{with_place}
use Rattle.gl_model.specs.Values.{driven_with}
use Rattle.gl_model.specs.World.{World, has_number}

-- the world with the line at position i of a request driven with its bit, where it is masked
abbrev pub drive_masked : ℕ → Lines → ℕ → ℕ → ℕ → World → World
drive_masked place lines mask bits i w =
    if has_bit mask i then with_place place (with_levels (slice_index lines.offsets i) (driven_with (has_bit bits i))) w else w

-- the world with the line at position i of a request configured with its settings, and with its bit in the driver's answer
abbrev pub configure_at : ℕ → Lines → Resolved → ℕ → ℕ → World → World
configure_at place lines settings bits i w = configure place (settings_of settings i) (has_bit bits i) (slice_index lines.offsets i) w

-- the same with new settings, of which is told; without a direction the line is left as it is
abbrev pub reconfigure_at : ℕ → Lines → Resolved → ℕ → ℕ → World → World
reconfigure_at place lines settings bits i w =
    if is_directed settings i then notify place (slice_index lines.offsets i) CHANGED_CONFIG (configure_at place lines settings bits i w) else w

-- the settings of the line at position i of a request after new ones came
abbrev pub line_after : Resolved → Resolved → ℕ → Settings
line_after before after i = if is_directed after i then settings_of after i else settings_of before i

-- the world in which the request of a number has these settings
abbrev pub with_settings_of : ℕ → Resolved → World → World
with_settings_of fd settings w = record w { requests = change_first (has_number fd) (with_settings settings) w.requests }
