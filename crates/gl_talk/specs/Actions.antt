-- What each statement that is no tool's asks of the device, or how it is refused without a call; and how its result is told.
-- This project's choice.
use Rattle.std.specs.List.{list_any}
use Rattle.std.specs.Prelude.{ℕ, ◌-◌, ◌*◌, ◌/◌, Bool, true, false, not, ◌&&◌, ◌==◌, nat_eq, if◌then◌else◌, List, [], ◌∷◌, length, is_some, Option, Some, None, codes}
use Rattle.std.specs.Str.{bytes_eq}
use Rattle.gl_base.specs.Padded.{padded}
use Rattle.gl_base.specs.Words.{Span, text_at}
use Rattle.gl_base.specs.declared.command.TheConstants.{GET_CHIPINFO, GET_LINEINFO, GET_LINEINFO_WATCH, GET_LINE, LINE_GET_VALUES}
use Rattle.gl_base.specs.declared.errno.Errno.TheVariants.{BadF, Exist, Inval, Perm}
use Rattle.gl_base.specs.declared.limits.TheConstants.{LINES_MAX}
use Rattle.gl_base.specs.declared.operation.Do.TheVariants.{Probe as DoProbe, Unplug as DoUnplug, MakeDir as DoMakeDir, RemoveDir as DoRemoveDir, Write as DoWrite, Read as DoRead, Live as DoLive, Tick as DoTick, Pin as DoPin, Irq as DoIrq, Pull as DoPull, Level as DoLevel, OpenChip as DoOpenChip, Ioctl as DoIoctl, ReadFile as DoReadFile, Poll as DoPoll, Close as DoClose, Plan as DoPlan, Accept as DoAccept, Aggregate as DoAggregate}
use Rattle.gl_base.specs.declared.pin.PinDo.{PinDo}
use Rattle.gl_base.specs.declared.pin.PinDo.TheVariants.{Range, Hold, Release}
use Rattle.gl_script.specs.Cost.{is_aggregate}
use Rattle.gl_script.specs.Table.{keyword_of}
use Rattle.gl_script.specs.declared.table.Keyword.{Keyword}
use Rattle.gl_script.specs.declared.table.Keyword.TheVariants.{Probe, Unplug, MakeDir, RemoveDir, Write, Read, Clock, Fault, Accept, Aggregate, Pin, Irq, Open, Ioctl, Events, OldIoctl, OldEvents, Changes, Poll, Close, Detect, Info, Get, Set, Start, Step, Stop}
use Rattle.gl_talk.specs.declared.paths.LineFile.{LineFile}
use Rattle.gl_v1.specs.declared.sending.Sent.{Sent}
use Rattle.gl_talk.specs.declared.files.TalkFileKind.{TalkFileKind}
use Rattle.gl_script.specs.declared.limits.TheConstants.{JOINED_MAX}
use Rattle.gl_talk.specs.Formats.{Action, Nothing, Refuse, Ask, ResultFormat, Silent, Value, Level, Bytes, Edges, Infos, Ready, Opened, Closed, Made, OldEdges}
use Rattle.gl_talk.specs.Old.{old_command_word, old_reply, sent_new, sent_old, takes_old_name}
use Rattle.gl_talk.specs.Open.{File, file_of, is_chip, is_chip_file, is_old_event, is_request}
use Rattle.gl_talk.specs.Paths.{line_file, live_device}
use Rattle.gl_talk.specs.Words.{label_word, name_word, path_word, number_word, place_word, command_word, irq_word, pull_word, live_word, behind_two, behind_three, bytes_said, made_name}

-- a number of 32 bits
abbrev pub small_word : List ℕ → ℕ
small_word word = number_word 0 0xFFFFFFFF word

-- `probe LABEL N`
abbrev pub probes : List ℕ → List ℕ → Action
probes label lines = Ask (DoProbe (label_word label) (number_word 1 LINES_MAX lines)) Silent

-- `clock N N`
abbrev pub clocks : List ℕ → List ℕ → Action
clocks mono real = Ask (DoTick (number_word 0 0xFFFFFFFFFFFFFFFF mono) (number_word 0 0xFFFFFFFFFFFFFFFF real)) Silent

-- `fault N`
abbrev pub faults : List ℕ → Action
faults nth = Ask (DoPlan (number_word 1 1000000 nth)) Silent

-- `accept N`
abbrev pub accepts : List ℕ → Action
accepts bits = Ask (DoAccept (number_word 0 0xFFFFFFFFFFFFFFFF bits)) Silent

-- `aggregate LABEL NAME [NAME [NAME [NAME]]]`: the files of the first names, in order, where they are there; the slots of these; and what is asked for. A
-- request that a statement of the first uAPI made is a request too.
abbrev pub files_named : ℕ → List Span → List File → List (Option File)
files_named most [] files = []
files_named most (word ∷ words) files = if nat_eq most 0 then [] else file_of word.text files ∷ files_named (most - 1) words files

abbrev pub slots_of : List (Option File) → List ℕ
slots_of [] = []
slots_of (None ∷ named) = slots_of named
slots_of (Some file ∷ named) = file.slot ∷ slots_of named

abbrev pub aggregates : List ℕ → List (Option File) → Action
aggregates label named =
    if list_any (λ file. not (is_some file)) named then Refuse BadF
    else if list_any is_chip_file named then Refuse Inval
    else Ask (DoAggregate label (padded JOINED_MAX (slots_of named)) (length (slots_of named))) Silent

-- `unplug CHIP`
abbrev pub unplugs : ℕ → Action
unplugs place = Ask (DoUnplug place) Silent

-- `pin range CHIP N N N`, `pin hold CHIP N`, `pin drop CHIP N`
abbrev pub pin_said : List Span → PinDo
pin_said words =
    if bytes_eq (text_at 1 words) (codes "range") then Range (small_word (text_at 3 words)) (small_word (text_at 4 words)) (small_word (text_at 5 words))
    else if bytes_eq (text_at 1 words) (codes "hold") then Hold (small_word (text_at 3 words))
    else Release (small_word (text_at 3 words))

abbrev pub pins : ℕ → List Span → Action
pins place words = Ask (DoPin place (pin_said words)) Silent

-- `irq lock CHIP N`
abbrev pub irqs : ℕ → List Span → Action
irqs place words = Ask (DoIrq place (small_word (text_at 3 words)) (irq_word (text_at 1 words))) Silent

-- `read PATH`: a line's file goes to its chip, every other path to the tree
abbrev pub reads : Option LineFile → List ℕ → Action
reads None path = Ask (DoRead (path_word path)) Value
reads (Some file) path = Ask (DoLevel file.chip file.offset file.is_pull) (Level file.is_pull)

-- `write PATH VALUE`: `value` is no file to write; a pull goes to the chip, a device's `live` is a call of its own, every other path goes to the tree
abbrev pub pulls : LineFile → Option Bool → Action
pulls file None = Refuse Inval
pulls file (Some up) = Ask (DoPull file.chip file.offset up) Silent

abbrev pub writes_line : LineFile → List ℕ → Action
writes_line file value = if file.is_pull then pulls file (pull_word value) else Refuse Perm

abbrev pub lives : List ℕ → Option Bool → Action
lives device None = Refuse Inval
lives device (Some up) = Ask (DoLive (name_word device) up) Silent

abbrev pub writes_tree : Option (List ℕ) → List ℕ → List ℕ → Action
writes_tree None path value = Ask (DoWrite (path_word path) value) Silent
writes_tree (Some device) path value = lives device (live_word value)

abbrev pub writes : Option LineFile → List ℕ → List ℕ → Action
writes (Some file) path value = writes_line file value
writes None path value = writes_tree (live_device path) path value

-- `open NAME WORD`
abbrev pub opens : Bool → ℕ → List ℕ → Action
opens true slot word = Refuse Exist
opens false slot word = Ask (DoOpenChip slot (path_word word)) Opened

-- how the result of a command is told
abbrev pub command_reply : ℕ → ResultFormat
command_reply number =
    if number == GET_LINE then Made
    else if number == GET_CHIPINFO then Bytes
    else if number == GET_LINEINFO then Bytes
    else if number == GET_LINEINFO_WATCH then Bytes
    else if number == LINE_GET_VALUES then Bytes
    else Silent

-- the name after `as` is one that the actor has
abbrev pub takes_name : List Span → List File → Bool
takes_name words files = (command_word (text_at 2 words) == GET_LINE) && is_some (file_of (made_name words) files)

-- a call of v2 on a file
abbrev pub asks_for : File → ℕ → Sent → ResultFormat → Action
asks_for file slot sent reply = Ask (DoIoctl file.slot sent.cmd sent.len sent.bytes slot) reply

-- `ioctl NAME COMMAND PIECES.. [as NAME]`
abbrev pub ioctls_bytes : File → ℕ → ℕ → List ℕ → Action
ioctls_bytes file slot command bytes =
    asks_for file slot (sent_new file.kind command bytes) (command_reply (sent_new file.kind command bytes).cmd)

abbrev pub ioctls : Option File → Bool → ℕ → List Span → Action
ioctls None taken slot words = Refuse BadF
ioctls (Some file) taken slot words =
    if taken then Refuse Exist else ioctls_bytes file slot (command_word (text_at 2 words)) (bytes_said (behind_three words))

-- `ioctl1 NAME COMMAND PIECES.. [as NAME]`
abbrev pub old_ioctls_bytes : File → ℕ → ℕ → List ℕ → Action
old_ioctls_bytes file slot command bytes =
    asks_for file slot (sent_old file.kind command bytes) (old_reply file.kind (sent_old file.kind command bytes).cmd)

abbrev pub old_ioctls : Option File → Bool → ℕ → List Span → Action
old_ioctls None taken slot words = Refuse BadF
old_ioctls (Some file) taken slot words =
    if taken then Refuse Exist else old_ioctls_bytes file slot (old_command_word (text_at 2 words)) (bytes_said (behind_three words))

-- `events NAME N` of a request, `events1 NAME N` of a request for edges of the first uAPI, and `changes NAME N` of a chip's file
abbrev pub read_if : Bool → ℕ → ℕ → ResultFormat → Action
read_if can_be_read slot len reply = if can_be_read then Ask (DoReadFile slot len) reply else Refuse Inval

abbrev pub reads_file : Option File → (TalkFileKind → Bool) → ℕ → ResultFormat → Action
reads_file None can_be_read len reply = Refuse BadF
reads_file (Some file) can_be_read len reply = read_if (can_be_read file.kind) file.slot len reply

-- `poll NAME`
abbrev pub polls : Option File → Action
polls None = Refuse BadF
polls (Some file) = Ask (DoPoll file.slot) Ready

-- `close NAME`
abbrev pub closes : Option File → Action
closes None = Refuse BadF
closes (Some file) = Ask (DoClose file.slot) Closed

-- one row a statement; those of tools have none here
abbrev pub action_of : Option Keyword → List File → ℕ → List Span → Action
action_of None files slot words = Nothing
action_of (Some Probe) files slot words = probes (text_at 1 words) (text_at 2 words)
action_of (Some Unplug) files slot words = unplugs (place_word (text_at 1 words))
action_of (Some MakeDir) files slot words = Ask (DoMakeDir (path_word (text_at 1 words))) Silent
action_of (Some RemoveDir) files slot words = Ask (DoRemoveDir (path_word (text_at 1 words))) Silent
action_of (Some Write) files slot words = writes (line_file (text_at 1 words)) (text_at 1 words) (label_word (text_at 2 words))
action_of (Some Read) files slot words = reads (line_file (text_at 1 words)) (text_at 1 words)
action_of (Some Clock) files slot words = clocks (text_at 1 words) (text_at 2 words)
action_of (Some Fault) files slot words = faults (text_at 1 words)
action_of (Some Accept) files slot words = accepts (text_at 1 words)
action_of (Some Aggregate) files slot words = aggregates (label_word (text_at 1 words)) (files_named JOINED_MAX (behind_two words) files)
action_of (Some Pin) files slot words = pins (place_word (text_at 2 words)) words
action_of (Some Irq) files slot words = irqs (place_word (text_at 2 words)) words
action_of (Some Open) files slot words = opens (is_some (file_of (text_at 1 words) files)) slot (text_at 2 words)
action_of (Some Ioctl) files slot words = ioctls (file_of (text_at 1 words) files) (takes_name words files) slot words
action_of (Some Events) files slot words = reads_file (file_of (text_at 1 words) files) is_request (number_word 0 49152 (text_at 2 words)) Edges
action_of (Some OldIoctl) files slot words = old_ioctls (file_of (text_at 1 words) files) (takes_old_name words files) slot words
action_of (Some OldEvents) files slot words = reads_file (file_of (text_at 1 words) files) is_old_event (48 * (number_word 0 16384 (text_at 2 words) / 16)) OldEdges
action_of (Some Changes) files slot words = reads_file (file_of (text_at 1 words) files) is_chip (number_word 0 9216 (text_at 2 words)) Infos
action_of (Some Poll) files slot words = polls (file_of (text_at 1 words) files)
action_of (Some Close) files slot words = closes (file_of (text_at 1 words) files)
action_of (Some Detect) files slot words = Nothing
action_of (Some Info) files slot words = Nothing
action_of (Some Get) files slot words = Nothing
action_of (Some Set) files slot words = Nothing
action_of (Some Start) files slot words = Nothing
action_of (Some Step) files slot words = Nothing
action_of (Some Stop) files slot words = Nothing

-- `aggregate` is a statement of `setup` alone: in another section it is refused before its names are looked at
abbrev pub is_out_of_place : Bool → Option Keyword → Bool
is_out_of_place in_setup keyword = is_aggregate keyword && not in_setup

abbrev pub only_in_setup : Bool → Option Keyword → Action → Action
only_in_setup in_setup keyword action = if is_out_of_place in_setup keyword then Refuse Inval else action

-- what a statement that is no tool's does first in its section, with these files there
abbrev pub action_here : Bool → List File → ℕ → List Span → Action
action_here in_setup files slot words = only_in_setup in_setup (keyword_of (text_at 0 words)) (action_of (keyword_of (text_at 0 words)) files slot words)
