-- How the lines of a request are configured, and SET_CONFIG: from `linux/gpio.h` and the kernel's documents on the GPIO
-- character device (directions, biases, debouncing) and on GPIO drivers (interrupt locks, and a debounce period that a controller
-- takes). That events and their numbers go
-- on, and which refusal comes first, is this project's choice.
use Rattle.std.specs.Prelude.{ℕ, ◌+◌, not, ◌==◌, ◌&&◌, ◌||◌, Bool, if◌then◌else◌, List, [], ◌∷◌, slice_index_or, Option, None, slice_index}
use Rattle.std.specs.Bool.{beq}
use Rattle.gl_attrs.specs.ConfigFault.{config_fault}
use Rattle.gl_attrs.specs.Setting.{resolved_for}
use Rattle.gl_bank.specs.Level.{configured, first_levels, level, levels_at, pulled}
use Rattle.gl_bank.specs.declared.levels.Levels.{Levels}
use Rattle.gl_base.specs.Bits.{has_bit}
use Rattle.gl_base.specs.Lines.{offsets_of}
use Rattle.gl_base.specs.Positions.{change_at, first_fault, table_from}
use Rattle.gl_base.specs.Refusals.{first_of, when}
use Rattle.gl_base.specs.declared.limits.TheConstants.{LINES_PER_REQUEST}
use Rattle.gl_base.specs.Rows.{change_first}
use Rattle.gl_base.specs.Settings.{no_settings}
use Rattle.gl_base.specs.declared.errno.Errno.{Errno}
use Rattle.gl_base.specs.declared.errno.Errno.TheVariants.{Io, NxIo}
use Rattle.gl_base.specs.declared.flag.TheConstants.{OUTPUT}
use Rattle.gl_base.specs.declared.kind.Kind.{Kind}
use Rattle.gl_base.specs.declared.kind.Kind.TheVariants.{Simulated, Remote}
use Rattle.gl_base.specs.declared.lines.Lines.{Lines}
use Rattle.gl_base.specs.declared.settings.Resolved.{Resolved}
use Rattle.gl_base.specs.declared.settings.Settings.{Settings}
use Rattle.gl_debounce.specs.Timer.{hard_at, still, with_new_timer}
use Rattle.gl_debounce.specs.declared.timer.Timer.{Timer}
use Rattle.gl_flags.specs.FlagFault.{has_edge, has_direction}
use Rattle.gl_irq.specs.Irq.{irq_at}
use Rattle.gl_irq.specs.declared.irq.Irq.{Irq}
use Rattle.gl_uapi.specs.declared.layout.TheConstants.{CHANGED_CONFIG}
use Rattle.gl_model.specs.Notify.{notify}
use Rattle.gl_model.specs.OpenFiles.{in_parts}
use Rattle.gl_model.specs.Outcome.{Outcome, done, refused_or}
use Rattle.gl_model.specs.Places.{kind_at, place_at, with_place}
use Rattle.gl_model.specs.World.{World, Request, has_number}
use Rattle.gl_model.specs.declared.call.Part.{Part}
use Rattle.gl_model.specs.declared.place.Place.{Place}

-- how the line at position i of a request is set
abbrev pub settings_of : Resolved → ℕ → Settings
settings_of settings i = slice_index_or settings.lines i no_settings

-- a line with these settings tells of edges, or is debounced, and so needs its interrupt
abbrev pub needs_interrupt : Settings → Bool
needs_interrupt settings = has_edge settings.flags || not (settings.debounce_us == 0)

-- what is wrong with these settings for a line with this interrupt, first case first: they need one and it has none; they
-- make it an output and it is locked as an enabled interrupt
abbrev pub interrupt_fault : Settings → Irq → Option Errno
interrupt_fault settings irq = first_of
    (when (needs_interrupt settings && not irq.has) NxIo
    ∷ when (has_bit settings.flags OUTPUT && (irq.locked && irq.enabled)) Io
    ∷ [])

-- a line of a chip of this kind, configured: a bias pulls the line of a simulated chip, and the pull of a remote one is
-- what its driver reports
abbrev pub configured_on : Kind → Settings → Levels → Levels
configured_on Simulated settings line = configured settings line
configured_on Remote settings line = pulled line.pull (configured settings line)

-- the driver debounces a line with these settings: they have a debounce period, and the driver's answer has the line's bit
abbrev pub is_debounced_hard : Settings → Bool → Bool
is_debounced_hard settings answered = not (settings.debounce_us == 0) && answered

-- The timers after a line was configured, to be hard or not. Where its debounce period is another one than before, or whether
-- it is hard is, the line has settled at the level that it has now, and no deadline runs.
abbrev pub with_period : ℕ → ℕ → Levels → Levels → Bool → List (Option Timer) → List (Option Timer)
with_period place offset before after hard timers =
    if before.debounce_us == after.debounce_us && beq (hard_at timers place offset) hard
    then timers
    else with_new_timer (still (level after) hard) place offset timers

-- the levels of a line, set
abbrev pub with_levels : ℕ → (Levels → Levels) → Place → Place
with_levels offset f place = record place { bank = change_at first_levels offset f place.bank }

-- the world with one line configured, of which the driver's answer has the bit, or hasn't
abbrev pub configure : ℕ → Settings → Bool → ℕ → World → World
configure place settings answered offset w =
    let before = levels_at (place_at w place).bank offset in
    let change = configured_on (kind_at w place) settings in
    with_place place (with_levels offset change)
    (record w { timers = with_period place offset before (change before) (is_debounced_hard settings answered) w.timers })

-- the world with some lines configured, in order, each with the settings of its position in the request, from position i on,
-- and with the bit of that position in the driver's answer
abbrev pub configure_from : ℕ → Resolved → ℕ → ℕ → List ℕ → World → World
configure_from place settings bits i [] w = w
configure_from place settings bits i (offset ∷ offsets) w =
    configure_from place settings bits (i + 1) offsets (configure place (settings_of settings i) (has_bit bits i) offset w)

-- the world with all lines of a request configured, behind the driver's answer
abbrev pub configure_each : ℕ → Lines → Resolved → ℕ → World → World
configure_each place lines settings bits w = configure_from place settings bits 0 (offsets_of lines) w

-- SET_CONFIG

-- the new settings give the line at position i of the request a direction
abbrev pub is_directed : Resolved → ℕ → Bool
is_directed settings i = has_direction (settings_of settings i).flags

-- what is wrong with the new settings for the line at position i of the request; a line without a direction is left as it is
abbrev pub directed_fault : Place → Lines → Resolved → ℕ → Option Errno
directed_fault place lines settings i =
    if is_directed settings i then interrupt_fault (settings_of settings i) (irq_at place.irqs (slice_index lines.offsets i)) else None

-- why a new configuration is refused, first case first: by its bytes alone, and then by one of the lines, in order
abbrev pub config_refusal : ℕ → Lines → List ℕ → World → Option Errno
config_refusal place lines bytes w = first_of
    (config_fault bytes lines.count
    ∷ first_fault (directed_fault (place_at w place) lines (resolved_for bytes lines.count)) 0 lines.count
    ∷ [])

-- the settings of a request after new ones came: a line without a direction keeps what it had
abbrev pub settings_after : Resolved → Resolved → ℕ → Resolved
settings_after before after count = record {
  count = count;
  lines = table_from (λ i. if is_directed after i then settings_of after i else settings_of before i) 0 LINES_PER_REQUEST;
}

-- the world with some lines of a request configured and told of, in order, from position i of the request on; a line without
-- a direction is left as it is
abbrev pub reconfigure_from : ℕ → Resolved → ℕ → ℕ → List ℕ → World → World
reconfigure_from place settings bits i [] w = w
reconfigure_from place settings bits i (offset ∷ offsets) w =
    reconfigure_from place settings bits (i + 1) offsets
    (if is_directed settings i then notify place offset CHANGED_CONFIG (configure place (settings_of settings i) (has_bit bits i) offset w) else w)

-- the request with other settings
abbrev pub with_settings : Resolved → Request → Request
with_settings settings request = record request { settings = settings }

-- the world with the lines of a request configured anew, behind the driver's answer
abbrev pub reconfigure : ℕ → ℕ → Lines → Resolved → Resolved → ℕ → World → World
reconfigure place fd lines before after bits w =
    reconfigure_from place after bits 0 (offsets_of lines)
    (record w { requests = change_first (has_number fd) (with_settings (settings_after before after lines.count)) w.requests })

-- SET_CONFIG on a request with these lines and these settings
abbrev pub set_config : ℕ → ℕ → List ℕ → Part → Lines → Resolved → World → Outcome
set_config place fd bytes part lines settings w =
    refused_or (config_refusal place lines bytes w) w
    (in_parts part (λ bits v. done (reconfigure place fd lines settings (resolved_for bytes lines.count) bits v)) w)
