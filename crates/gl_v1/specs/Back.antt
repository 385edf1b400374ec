-- What goes back of the bytes of v2 into a structure of the first uAPI. Every other byte stays as it was.
use Rattle.std.specs.Prelude.{ℕ, zero, suc, ◌+◌, ◌*◌, ◌/◌, List, length, Option, Some, None}
use Rattle.gl_uapi.specs.declared.layout.TheConstants.{EVENT_ID, EVENT_TIMESTAMP, INFO_CONSUMER, INFO_FLAGS, INFO_NAME, LINE_EVENT_SIZE, NAME_SIZE, REQUEST_FD, VALUES_BITS}
use Rattle.gl_uapi.specs.Fields.{number_at, number_bytes, overwritten, stretch}
use Rattle.gl_v1.specs.declared.commands.CommandV1.{CommandV1}
use Rattle.gl_v1.specs.declared.commands.CommandV1.TheVariants.{ChipInfo, LineInfo, LineHandle, LineEvent, GetValues, SetValues, SetConfig}
use Rattle.gl_v1.specs.declared.commands.KindV1.{KindV1}
use Rattle.gl_v1.specs.declared.flags.TheConstants.{INFO_TABLE}
use Rattle.gl_v1.specs.declared.layout.TheConstants.{V1_CHIP_INFO_SIZE, V1_DATA_ID, V1_DATA_TIMESTAMP, V1_EVENT_DATA_SIZE, V1_EVENT_FD, V1_HANDLE_FD, V1_INFO_CONSUMER, V1_INFO_FLAGS, V1_INFO_NAME, V1_VALUES_SIZE}
use Rattle.gl_v1.specs.Commands.{command_for, lines_of}
use Rattle.gl_v1.specs.Flags.{older_word}
use Rattle.gl_v1.specs.Values.{value_bytes}

-- the information on a line: its flags, its name and who holds it
abbrev pub info_back : List ℕ → List ℕ → List ℕ
info_back got bytes =
    overwritten V1_INFO_CONSUMER (stretch INFO_CONSUMER NAME_SIZE got)
    (overwritten V1_INFO_NAME (stretch INFO_NAME NAME_SIZE got)
    (overwritten V1_INFO_FLAGS (number_bytes 4 (older_word INFO_TABLE (number_at 8 INFO_FLAGS got))) bytes))

-- what goes back of a command, on a file of so many lines
abbrev pub back_of : CommandV1 → ℕ → List ℕ → List ℕ → List ℕ
back_of ChipInfo lines got bytes = overwritten 0 (stretch 0 V1_CHIP_INFO_SIZE got) bytes
back_of LineInfo lines got bytes = info_back got bytes
back_of LineHandle lines got bytes = overwritten V1_HANDLE_FD (stretch REQUEST_FD 4 got) bytes
back_of LineEvent lines got bytes = overwritten V1_EVENT_FD (stretch REQUEST_FD 4 got) bytes
back_of GetValues lines got bytes = overwritten 0 (value_bytes (number_at 8 VALUES_BITS got) lines 0 V1_VALUES_SIZE) bytes
back_of SetValues lines got bytes = bytes
back_of SetConfig lines got bytes = bytes

-- where there is a command
abbrev pub back_if : Option CommandV1 → ℕ → List ℕ → List ℕ → List ℕ
back_if None lines got bytes = bytes
back_if (Some command) lines got bytes = back_of command lines got bytes

-- what goes back of the command of a number, on a file of a kind
abbrev pub back : KindV1 → ℕ → List ℕ → List ℕ → List ℕ
back kind cmd got bytes = back_if (command_for kind cmd) (lines_of kind) got bytes

-- event i of v2 as one of the first uAPI: its time and which edge it is
abbrev pub event_back : ℕ → List ℕ → List ℕ → List ℕ
event_back i got bytes =
    overwritten (V1_EVENT_DATA_SIZE * i + V1_DATA_ID) (stretch (LINE_EVENT_SIZE * i + EVENT_ID) 4 got)
    (overwritten (V1_EVENT_DATA_SIZE * i + V1_DATA_TIMESTAMP) (stretch (LINE_EVENT_SIZE * i + EVENT_TIMESTAMP) 8 got) bytes)

-- count events, from event i on
abbrev pub events_from : ℕ → ℕ → List ℕ → List ℕ → List ℕ
events_from i zero got bytes = bytes
events_from i (suc count) got bytes = events_from (i + 1) count got (event_back i got bytes)

-- how many whole events of v2 there are
abbrev pub events_in : List ℕ → ℕ
events_in got = length got / LINE_EVENT_SIZE

-- all of them
abbrev pub events_back : List ℕ → List ℕ → List ℕ
events_back got bytes = events_from 0 (events_in got) got bytes
