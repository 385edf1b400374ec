-- What is printed of the result of an operation. The words of edges and changes are those of libgpiod's tools; the layout is
-- this project's choice.
use Rattle.std.specs.Prelude.{ℕ, zero, suc, ◌+◌, ◌*◌, ◌/◌, Bool, true, false, ◌==◌, nat_le, if◌then◌else◌, List, [], ◌++◌, length, take, Option, Some, None, codes}
use Rattle.std.specs.Fmt.{digits}
use Rattle.std.specs.Int.{cast_signed, cast_unsigned, w32}
use Rattle.gl_base.specs.Bits.{has_bit}
use Rattle.gl_base.specs.BytesText.{bytes_text}
use Rattle.gl_base.specs.Decimal.{decimal}
use Rattle.gl_base.specs.declared.operation.Got.{Got}
use Rattle.gl_base.specs.declared.operation.Got.TheVariants.{Number, Text}
use Rattle.gl_lines.specs.Texts.{line}
use Rattle.gl_uapi.specs.Command.{command_of, size_of}
use Rattle.gl_uapi.specs.declared.commands.Command.{Command}
use Rattle.gl_uapi.specs.declared.info_changes.Changed.{Changed}
use Rattle.gl_uapi.specs.declared.line_events.Event.{Event}
use Rattle.gl_uapi.specs.Fields.{number_at, stretch}
use Rattle.gl_uapi.specs.InfoChanged.{changed_in}
use Rattle.gl_uapi.specs.LineEvent.{event_in}

-- the number and the text of a result
abbrev pub number_of : Got → ℕ
number_of (Number n) = n
number_of _ = 0

abbrev pub text_of : Got → List ℕ
text_of (Text value) = value
text_of _ = []

-- a line's value, or its pull
abbrev pub level_text : Bool → ℕ → List ℕ
level_text true level = if level == 0 then codes "pull-down" else codes "pull-up"
level_text false level = if level == 0 then codes "0" else codes "1"

-- what is ready: bit 2 is HUP
abbrev pub ready_text : ℕ → List ℕ
ready_text bits = if bits == 0 then codes "-" else if has_bit bits 2 then codes "HUP ERR" else codes "IN"

-- `TIMESTAMP rising OFFSET SEQNO LINE_SEQNO`, or `falling`
abbrev pub edge_word : ℕ → List ℕ
edge_word id = if id == 1 then codes " rising " else codes " falling "

abbrev pub edge_line : Event → List ℕ
edge_line event =
    line (decimal event.timestamp ++ edge_word event.id ++ decimal event.offset ++ codes " " ++ decimal event.seqno ++ codes " " ++ decimal event.line_seqno)

-- the lines of the n edges from the one at place i on
abbrev pub edge_lines : List ℕ → ℕ → ℕ → List ℕ
edge_lines bytes i zero = []
edge_lines bytes i (suc n) = edge_line (event_in (stretch (48 * i) 48 bytes)) ++ edge_lines bytes (i + 1) n

-- no read of a statement asks for more than 49152 bytes
abbrev pub edges_text : List ℕ → List ℕ
edges_text bytes = if nat_le (length bytes) 49152 then edge_lines bytes 0 (length bytes / 48) else []

-- `TIMESTAMP KIND OFFSET 0xFLAGS`
abbrev pub kind_word : ℕ → List ℕ
kind_word kind = if kind == 1 then codes " requested " else if kind == 2 then codes " released " else codes " config "

abbrev pub info_line : Changed → List ℕ
info_line changed =
    line (decimal changed.timestamp ++ kind_word changed.kind ++ decimal changed.info.offset ++ codes " 0x" ++ digits 16 false changed.info.flags)

abbrev pub info_lines : List ℕ → ℕ → ℕ → List ℕ
info_lines bytes i zero = []
info_lines bytes i (suc n) = info_line (changed_in (stretch (288 * i) 288 bytes)) ++ info_lines bytes (i + 1) n

abbrev pub infos_text : List ℕ → List ℕ
infos_text bytes = if nat_le (length bytes) 49152 then info_lines bytes 0 (length bytes / 288) else []

-- the bytes of a command's structure
abbrev pub size_or : Option Command → ℕ
size_or None = 0
size_or (Some command) = size_of command

abbrev pub structure_text : ℕ → List ℕ → List ℕ
structure_text command bytes = line (bytes_text (take (size_or (command_of command)) bytes))

-- the number of the file in the bytes of a request; 0 where they are too short
abbrev pub fd_of : List ℕ → ℕ
fd_of bytes = if nat_le 592 (length bytes) then cast_unsigned w32 (cast_signed w32 (number_at 4 588 (take 592 bytes))) else 0

-- `fd N`
abbrev pub fd_text : List ℕ → List ℕ
fd_text bytes = line (codes "fd " ++ decimal (fd_of bytes))
