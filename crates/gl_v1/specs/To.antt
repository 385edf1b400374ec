-- What a command of the first uAPI becomes: one command of v2, its length and its bytes. All that isn't named is zero.
use Rattle.std.specs.Prelude.{ℕ, nat_lt, if◌then◌else◌, List, [], ◌∷◌, ◌++◌, length, drop, Option, Some, None}
use Rattle.gl_uapi.specs.declared.layout.TheConstants.{CHIP_INFO_SIZE, INFO_OFFSET, LINE_CONFIG_SIZE, LINE_INFO_SIZE, LINE_REQUEST_SIZE, LINE_VALUES_SIZE, NAME_SIZE, REQUEST_CONFIG, REQUEST_CONSUMER, REQUEST_NUM_LINES, REQUEST_OFFSETS, REQUEST_OFFSET_SIZE}
use Rattle.gl_uapi.specs.declared.new_requests.AttributeValue.TheVariants.{OutputValues}
use Rattle.gl_uapi.specs.declared.new_requests.NewAttribute.{NewAttribute}
use Rattle.gl_uapi.specs.Fields.{number_at, number_bytes, overwritten, stretch, zeros}
use Rattle.gl_uapi.specs.LineValues.{values_bytes}
use Rattle.gl_uapi.specs.NewRequest.{new_config_bytes}
use Rattle.gl_v1.specs.declared.commands.CommandV1.{CommandV1}
use Rattle.gl_v1.specs.declared.commands.CommandV1.TheVariants.{ChipInfo, LineInfo, LineHandle, LineEvent, GetValues, SetValues, SetConfig}
use Rattle.gl_v1.specs.declared.commands.KindV1.{KindV1}
use Rattle.gl_v1.specs.declared.flags.TheConstants.{EVENT_TABLE, HANDLE_TABLE}
use Rattle.gl_v1.specs.declared.layout.TheConstants.{V1_CHIP_INFO_SIZE, V1_CONFIG_FLAGS, V1_CONFIG_VALUES, V1_EVENT_CONSUMER, V1_EVENT_FLAGS, V1_EVENT_HANDLE_FLAGS, V1_EVENT_OFFSET, V1_HANDLE_CONSUMER, V1_HANDLE_FLAGS, V1_HANDLE_LINES, V1_HANDLE_OFFSETS, V1_HANDLE_OFFSETS_SIZE, V1_HANDLE_VALUES, V1_INFO_OFFSET, V1_VALUES_SIZE}
use Rattle.gl_v1.specs.declared.sending.Sent.{Sent}
use Rattle.gl_v1.specs.Commands.{command_for, lines_of, sent_as, size_of}
use Rattle.gl_v1.specs.Flags.{event_word, newer_word}
use Rattle.gl_v1.specs.Values.{bits_below, bits_from}

-- the bytes of a structure of v2 in which nothing stands yet
abbrev pub blank : List ℕ
blank = zeros LINE_REQUEST_SIZE

-- what stands in front of it
abbrev pub in_front : List ℕ → ℕ → List ℕ
in_front piece size = piece ++ drop size blank

-- a request of these offsets, for this consumer, with this configuration, of so many lines
abbrev pub request_bytes : List ℕ → List ℕ → List ℕ → ℕ → List ℕ
request_bytes offsets consumer config lines =
    overwritten REQUEST_NUM_LINES (number_bytes 4 lines)
    (overwritten REQUEST_CONFIG config (overwritten REQUEST_CONSUMER consumer (overwritten REQUEST_OFFSETS offsets blank)))

-- the values that outputs get: those of the first so many lines
abbrev pub output_values : ℕ → List ℕ → NewAttribute
output_values lines values = record { value = OutputValues (bits_from 0 values); mask = bits_below lines }

-- a configuration of so many lines, all with these flags
abbrev pub config_bytes : ℕ → ℕ → List ℕ → List ℕ
config_bytes word lines values = new_config_bytes (newer_word HANDLE_TABLE word) (output_values lines values ∷ [])

-- a handle's request; its number of lines goes over as it is
abbrev pub handle_request : List ℕ → List ℕ
handle_request bytes =
    request_bytes (stretch V1_HANDLE_OFFSETS V1_HANDLE_OFFSETS_SIZE bytes) (stretch V1_HANDLE_CONSUMER NAME_SIZE bytes)
    (config_bytes (number_at 4 V1_HANDLE_FLAGS bytes) (number_at 4 V1_HANDLE_LINES bytes) (stretch V1_HANDLE_VALUES V1_VALUES_SIZE bytes))
    (number_at 4 V1_HANDLE_LINES bytes)

-- a request for one line and its edges
abbrev pub event_request : List ℕ → List ℕ
event_request bytes =
    request_bytes (stretch V1_EVENT_OFFSET REQUEST_OFFSET_SIZE bytes) (stretch V1_EVENT_CONSUMER NAME_SIZE bytes)
    (new_config_bytes (event_word HANDLE_TABLE EVENT_TABLE (number_at 4 V1_EVENT_HANDLE_FLAGS bytes) (number_at 4 V1_EVENT_FLAGS bytes)) [])
    1

-- the structure of v2 that a command's structure becomes, on a file of so many lines
abbrev pub structure_of : CommandV1 → ℕ → List ℕ → List ℕ
structure_of ChipInfo lines bytes = overwritten 0 (stretch 0 V1_CHIP_INFO_SIZE bytes) blank
structure_of LineInfo lines bytes = overwritten INFO_OFFSET (stretch V1_INFO_OFFSET 4 bytes) blank
structure_of LineHandle lines bytes = handle_request bytes
structure_of LineEvent lines bytes = event_request bytes
structure_of GetValues lines bytes = in_front (values_bytes 0 (bits_below lines)) LINE_VALUES_SIZE
structure_of SetValues lines bytes = in_front (values_bytes (bits_from 0 (stretch 0 V1_VALUES_SIZE bytes)) (bits_below lines)) LINE_VALUES_SIZE
structure_of SetConfig lines bytes =
    in_front (config_bytes (number_at 4 V1_CONFIG_FLAGS bytes) lines (stretch V1_CONFIG_VALUES V1_VALUES_SIZE bytes)) LINE_CONFIG_SIZE

-- how long it is
abbrev pub sent_size : CommandV1 → ℕ
sent_size ChipInfo = CHIP_INFO_SIZE
sent_size LineInfo = LINE_INFO_SIZE
sent_size LineHandle = LINE_REQUEST_SIZE
sent_size LineEvent = LINE_REQUEST_SIZE
sent_size GetValues = LINE_VALUES_SIZE
sent_size SetValues = LINE_VALUES_SIZE
sent_size SetConfig = LINE_CONFIG_SIZE

-- a command without bytes
abbrev pub without_bytes : ℕ → Sent
without_bytes cmd = record { cmd = cmd; len = 0; bytes = blank }

-- a command whose structure is there
abbrev pub whole : CommandV1 → ℕ → List ℕ → Sent
whole command lines bytes = record { cmd = sent_as command; len = sent_size command; bytes = structure_of command lines bytes }

-- a command with these bytes: a structure that isn't there as a whole goes over without bytes, and v2 refuses it
abbrev pub sent_for : CommandV1 → ℕ → List ℕ → Sent
sent_for command lines bytes =
    if nat_lt (length bytes) (size_of command) then without_bytes (sent_as command) else whole command lines bytes

-- where there is a command
abbrev pub sent_if : Option CommandV1 → ℕ → List ℕ → Sent
sent_if None lines bytes = without_bytes 0
sent_if (Some command) lines bytes = sent_for command lines bytes

-- what the command of a number becomes, on a file of a kind; 0 is no command of v2, which refuses it
abbrev pub to : KindV1 → ℕ → List ℕ → Sent
to kind cmd bytes = sent_if (command_for kind cmd) (lines_of kind) bytes
