-- What the bytes of a line request ask for (`struct gpio_v2_line_request` of `linux/gpio.h`). The order of the refusals
-- is this project's choice.
use Rattle.std.specs.Prelude.{ℕ, ◌+◌, ◌*◌, ◌==◌, ◌||◌, not, min, nat_lt, if◌then◌else◌, List, [], ◌∷◌, Option, Some, None, Result, Ok, Err}
use Rattle.std.specs.Option.{option_or}
use Rattle.gl_base.specs.Name.{name_in}
use Rattle.gl_base.specs.Positions.{table_from}
use Rattle.gl_base.specs.Refusals.{first_of, when}
use Rattle.gl_base.specs.declared.errno.Errno.{Errno}
use Rattle.gl_base.specs.declared.errno.Errno.TheVariants.{Inval}
use Rattle.gl_base.specs.declared.lines.Lines.{Lines}
use Rattle.gl_base.specs.declared.settings.Resolved.{Resolved}
use Rattle.gl_attrs.specs.ConfigFault.{config_fault}
use Rattle.gl_attrs.specs.Setting.{resolved_for}
use Rattle.gl_ring.specs.declared.ring.TheConstants.{RING_EVENTS_MAX}
use Rattle.gl_uapi.specs.Fields.{is_zero_at, number_at, stretch}
use Rattle.gl_base.specs.declared.limits.TheConstants.{LINES_PER_REQUEST}
use Rattle.gl_uapi.specs.declared.layout.TheConstants.{LINE_CONFIG_SIZE, NAME_SIZE, REQUEST_CONFIG, REQUEST_CONSUMER, REQUEST_EVENT_BUFFER_SIZE, REQUEST_NUM_LINES, REQUEST_OFFSETS, REQUEST_OFFSET_SIZE, REQUEST_PADDING, REQUEST_PADDING_SIZE}

-- What a request asks for: which lines, in whose name, how each line is to be set, and for how many events there is to
-- be room.
pub record AskedLines : Type 0 where
  pub lines : Lines
  pub consumer : List ℕ
  pub settings : Resolved
  pub capacity : ℕ

-- how many lines are asked for
abbrev pub num_lines : List ℕ → ℕ
num_lines bytes = number_at 4 REQUEST_NUM_LINES bytes

-- the offset of the line at position i of the request
abbrev pub offset_asked : List ℕ → ℕ → ℕ
offset_asked bytes i = number_at 4 (REQUEST_OFFSETS + REQUEST_OFFSET_SIZE * i) bytes

-- the bytes of the lines' configuration
abbrev pub config_of : List ℕ → List ℕ
config_of bytes = stretch REQUEST_CONFIG LINE_CONFIG_SIZE bytes

-- for how many events there is room: as many as are asked for, 1024 at most; where none are asked for, 16 a line
abbrev pub capacity_for : ℕ → ℕ → ℕ
capacity_for lines events = if events == 0 then 16 * lines else min events RING_EVENTS_MAX

-- the lines that the bytes name, in order
abbrev pub lines_asked : List ℕ → Lines
lines_asked bytes = record { count = num_lines bytes; offsets = table_from (offset_asked bytes) 0 LINES_PER_REQUEST }

-- for how many events the bytes ask for room
abbrev pub capacity_asked : List ℕ → ℕ
capacity_asked bytes = capacity_for (num_lines bytes) (number_at 4 REQUEST_EVENT_BUFFER_SIZE bytes)

-- all that the bytes ask for
abbrev pub asked_in : List ℕ → AskedLines
asked_in bytes = record {
  lines = lines_asked bytes;
  consumer = name_in (stretch REQUEST_CONSUMER NAME_SIZE bytes);
  settings = resolved_for (config_of bytes) (num_lines bytes);
  capacity = capacity_asked bytes;
}

-- what is wrong with the head of a request, first case first: it asks for no line, or for more than 64; its padding
-- isn't zero
abbrev pub header_fault : List ℕ → Option Errno
header_fault bytes = first_of
    (when ((num_lines bytes == 0) || nat_lt LINES_PER_REQUEST (num_lines bytes)) Inval
    ∷ when (not (is_zero_at REQUEST_PADDING REQUEST_PADDING_SIZE bytes)) Inval
    ∷ [])

-- what is wrong with a request by its bytes alone: its head, and then the configuration of its lines
abbrev pub request_fault : List ℕ → Option Errno
request_fault bytes = option_or (header_fault bytes) (config_fault (config_of bytes) (num_lines bytes))

-- what the bytes of a request ask for, by what is wrong with them alone; where something is, why they are refused
abbrev pub asked_where : Option Errno → List ℕ → Result AskedLines Errno
asked_where None bytes = Ok (asked_in bytes)
asked_where (Some errno) bytes = Err errno

abbrev pub asked_by : List ℕ → Result AskedLines Errno
asked_by bytes = asked_where (request_fault bytes) bytes
