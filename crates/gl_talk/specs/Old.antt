-- The statements of the first uAPI: which call of v2 each makes, and how its result goes back. This project's choice.
use Rattle.std.specs.Prelude.{ℕ, zero, suc, ◌+◌, ◌*◌, ◌/◌, Bool, ◌&&◌, ◌==◌, nat_le, if◌then◌else◌, List, [], ◌++◌, length, min, take, is_some, Option, Some, None, codes}
use Rattle.gl_base.specs.BytesText.{bytes_text}
use Rattle.gl_base.specs.Decimal.{decimal}
use Rattle.gl_base.specs.Padded.{padded}
use Rattle.gl_base.specs.Words.{Span, text_at}
use Rattle.gl_base.specs.declared.command.TheConstants.{GET_CHIPINFO, GET_LINEINFO, GET_LINE, LINE_GET_VALUES}
use Rattle.gl_lines.specs.Texts.{line}
use Rattle.gl_uapi.specs.Fields.{number_at, stretch, zeros}
use Rattle.gl_v1.specs.declared.commands.CommandV1.{CommandV1}
use Rattle.gl_v1.specs.declared.commands.KindV1.{KindV1}
use Rattle.gl_v1.specs.declared.commands.KindV1.TheVariants.{Chip as OldChip, Handle, Event}
use Rattle.gl_v1.specs.declared.commands.TheConstants.{LINE_EVENT}
use Rattle.gl_v1.specs.declared.layout.TheConstants.{V1_DATA_ID, V1_DATA_TIMESTAMP, V1_EVENT_DATA_SIZE, V1_HANDLE_LINES}
use Rattle.gl_v1.specs.declared.sending.Sent.{Sent}
use Rattle.gl_v1.specs.Back.{back, events_back}
use Rattle.gl_v1.specs.Commands.{command_for, size_of}
use Rattle.gl_v1.specs.To.{to, without_bytes}
use Rattle.gl_v1.specs.Words.{makes_file, old_number_of}
use Rattle.gl_talk.specs.declared.files.TalkFileKind.{TalkFileKind}
use Rattle.gl_talk.specs.declared.files.TalkFileKind.TheVariants.{Chip, Request, Old}
use Rattle.gl_talk.specs.Formats.{ResultFormat, Silent, OldBytes, OldMade}
use Rattle.gl_talk.specs.Open.{File, file_of}
use Rattle.gl_talk.specs.Words.{made_name, or_else}

-- the number of a command of the first uAPI
abbrev pub old_command_word : List ℕ → ℕ
old_command_word word = or_else 0 (old_number_of word)

-- the bytes that a statement says, as many as a structure has at most, and then zeros
abbrev pub first_bytes : List ℕ → List ℕ
first_bytes bytes = padded 592 (take 592 bytes)

-- what `ioctl` sends: a file of the first uAPI has no command of v2
abbrev pub sent_new : TalkFileKind → ℕ → List ℕ → Sent
sent_new Chip command bytes = record { cmd = command; len = min (length bytes) 1024; bytes = first_bytes bytes }
sent_new Request command bytes = record { cmd = command; len = min (length bytes) 1024; bytes = first_bytes bytes }
sent_new (Old kind) command bytes = without_bytes 0

-- what `ioctl1` sends: a request of v2 has no command of the first uAPI
abbrev pub sent_old : TalkFileKind → ℕ → List ℕ → Sent
sent_old Chip command bytes = to OldChip command bytes
sent_old Request command bytes = without_bytes 0
sent_old (Old kind) command bytes = to kind command bytes

-- the kind of a file in the first uAPI; a chip's file is the same in both, and a request of v2 has none
abbrev pub kind_v1 : TalkFileKind → KindV1
kind_v1 (Old kind) = kind
kind_v1 _ = OldChip

-- how the result is told goes by what was sent
abbrev pub old_reply : TalkFileKind → ℕ → ResultFormat
old_reply kind number =
    if number == GET_LINE then OldMade
    else if number == GET_CHIPINFO then OldBytes (kind_v1 kind)
    else if number == GET_LINEINFO then OldBytes (kind_v1 kind)
    else if number == LINE_GET_VALUES then OldBytes (kind_v1 kind)
    else Silent

-- the name after `as` is one that the actor has
abbrev pub takes_old_name : List Span → List File → Bool
takes_old_name words files = makes_file (old_number_of (text_at 2 words)) && is_some (file_of (made_name words) files)

-- the kind of the file that is made: a handle has the lines that its request says
abbrev pub made_kind : ℕ → List ℕ → TalkFileKind
made_kind command said = if command == LINE_EVENT then Old Event else Old (Handle (number_at 4 V1_HANDLE_LINES (first_bytes said)))

-- the bytes of a structure, where those that went over are these and those that came back in v2 are those
abbrev pub old_structure : Option CommandV1 → KindV1 → ℕ → List ℕ → List ℕ → List ℕ
old_structure None kind command said got = []
old_structure (Some found) kind command said got = bytes_text (back kind command (first_bytes got) (take (size_of found) (first_bytes said)))

abbrev pub old_structure_text : KindV1 → ℕ → List ℕ → List ℕ → List ℕ
old_structure_text kind command said got = line (old_structure (command_for kind command) kind command said got)

-- `TIMESTAMP rising`, or `falling`
abbrev pub old_edge_word : ℕ → List ℕ
old_edge_word id = if id == 1 then codes " rising" else codes " falling"

abbrev pub old_edge_line : List ℕ → List ℕ
old_edge_line event = line (decimal (number_at 8 V1_DATA_TIMESTAMP event) ++ old_edge_word (number_at 4 V1_DATA_ID event))

-- the lines of n edges from the one at place i on, each as it goes back
abbrev pub old_edge_lines : List ℕ → ℕ → ℕ → List ℕ
old_edge_lines bytes i zero = []
old_edge_lines bytes i (suc n) = old_edge_line (events_back (stretch (48 * i) 48 bytes) (zeros V1_EVENT_DATA_SIZE)) ++ old_edge_lines bytes (i + 1) n

-- no read of a statement asks for more than 49152 bytes
abbrev pub old_edges_text : List ℕ → List ℕ
old_edges_text bytes = if nat_le (length bytes) 49152 then old_edge_lines bytes 0 (length bytes / 48) else []
