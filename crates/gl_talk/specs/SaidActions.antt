-- What a statement that is no tool's asks of the device, by what it says: as `action_here`, with no number, command, name, path or word
-- of an interrupt read again. This project's choice.
use Rattle.std.specs.List.{list_any}
use Rattle.std.specs.Prelude.{◌≡◌, ℕ, ◌*◌, ◌/◌, Bool, true, false, not, ◌==◌, if◌then◌else◌, List, length, is_some, Option, Some, None}
use Rattle.gl_base.specs.Padded.{padded}
use Rattle.gl_base.specs.Words.{Span, text_at}
use Rattle.gl_base.specs.declared.command.TheConstants.{GET_CHIPINFO, GET_LINEINFO, GET_LINEINFO_WATCH, GET_LINE, LINE_GET_VALUES}
use Rattle.gl_base.specs.declared.errno.Errno.TheVariants.{BadF, Exist, Inval, Perm}
use Rattle.gl_base.specs.declared.operation.Do.TheVariants.{Probe as DoProbe, Unplug as DoUnplug, MakeDir as DoMakeDir, RemoveDir as DoRemoveDir, Write as DoWrite, Read as DoRead, Live as DoLive, Tick as DoTick, Pin as DoPin, Irq as DoIrq, Pull as DoPull, Level as DoLevel, OpenChip as DoOpenChip, Ioctl as DoIoctl, ReadFile as DoReadFile, Poll as DoPoll, Close as DoClose, Plan as DoPlan, Accept as DoAccept, Aggregate as DoAggregate}
use Rattle.gl_script.specs.Said.{Spells, keyword_said}
use Rattle.gl_script.specs.declared.said.Said.{Said}
use Rattle.gl_script.specs.declared.said.Said.TheVariants.{Probe, Unplug, MakeDir, RemoveDir, Write, Read, Clock, Fault, Accept, Aggregate, Pin, Irq, Open, Ioctl, Events, OldIoctl, OldEvents, Changes, Poll, Close, Detect, Info, Get, Set, Start, Step, Stop}
use Rattle.gl_v1.specs.declared.sending.Sent.{Sent}
use Rattle.gl_talk.specs.declared.actions.SaidAction.{SaidAction}
use Rattle.gl_talk.specs.declared.actions.SaidAction.TheVariants.{Nothing, Refuse, Ask}
use Rattle.gl_talk.specs.declared.actions.SaidFormat.{SaidFormat}
use Rattle.gl_talk.specs.declared.actions.SaidFormat.TheVariants.{Silent, Value, Level, Bytes, Edges, Infos, Ready, Opened, Closed, Made, OldBytes, OldEdges, OldMade}
use Rattle.gl_talk.specs.declared.files.TalkFileKind.{TalkFileKind}
use Rattle.gl_script.specs.declared.limits.TheConstants.{JOINED_MAX}
use Rattle.gl_talk.specs.declared.paths.LineFile.{LineFile}
use Rattle.gl_talk.specs.declared.tools.StatementKind.TheVariants.{Plain}
use Rattle.gl_talk.specs.Actions.{files_named, is_out_of_place, slots_of}
use Rattle.gl_talk.specs.Old.{kind_v1, made_kind, sent_new, sent_old}
use Rattle.gl_talk.specs.Open.{File, Names, file_of, is_chip, is_chip_file, is_old_event, is_request}
use Rattle.gl_talk.specs.Paths.{line_file, live_device}
use Rattle.gl_talk.specs.SaidTalk.{acts_said}
use Rattle.gl_talk.specs.Talk.{does}
use Rattle.gl_talk.specs.ToolWords.{kind_of}
use Rattle.gl_talk.specs.Words.{behind_two, behind_three, bytes_said, live_word, pull_word}

-- `read PATH`
abbrev pub reads_said : Option LineFile → List ℕ → SaidAction
reads_said None path = Ask (DoRead path) Value
reads_said (Some file) path = Ask (DoLevel file.chip file.offset file.is_pull) (Level file.is_pull)

-- `write PATH VALUE`
abbrev pub pulls_said : LineFile → Option Bool → SaidAction
pulls_said file None = Refuse Inval
pulls_said file (Some up) = Ask (DoPull file.chip file.offset up) Silent

abbrev pub writes_line_said : LineFile → List ℕ → SaidAction
writes_line_said file value = if file.is_pull then pulls_said file (pull_word value) else Refuse Perm

abbrev pub lives_said : List ℕ → Option Bool → SaidAction
lives_said device None = Refuse Inval
lives_said device (Some up) = Ask (DoLive device up) Silent

abbrev pub writes_tree_said : Option (List ℕ) → List ℕ → List ℕ → SaidAction
writes_tree_said None path value = Ask (DoWrite path value) Silent
writes_tree_said (Some device) path value = lives_said device (live_word value)

abbrev pub writes_said : Option LineFile → List ℕ → List ℕ → SaidAction
writes_said (Some file) path value = writes_line_said file value
writes_said None path value = writes_tree_said (live_device path) path value

-- `open NAME WORD`
abbrev pub opens_said : Bool → ℕ → List ℕ → List ℕ → SaidAction
opens_said true slot name word = Refuse Exist
opens_said false slot name word = Ask (DoOpenChip slot word) (Opened name)

-- where a command makes a file, its name is one that the actor has
abbrev pub takes : Option (List ℕ) → List File → Bool
takes None files = false
takes (Some name) files = is_some (file_of name files)

-- how the result of a command is told that makes no file, and of one that may make a file, which has this name
abbrev pub bytes_reply_said : ℕ → SaidFormat
bytes_reply_said number =
    if number == GET_CHIPINFO then Bytes number
    else if number == GET_LINEINFO then Bytes number
    else if number == GET_LINEINFO_WATCH then Bytes number
    else if number == LINE_GET_VALUES then Bytes number
    else Silent

abbrev pub command_reply_said : ℕ → List ℕ → SaidFormat
command_reply_said number name = if number == GET_LINE then Made name else bytes_reply_said number

-- only a command with a name behind `as` makes a file
abbrev pub reply_said : Option (List ℕ) → ℕ → SaidFormat
reply_said None number = bytes_reply_said number
reply_said (Some name) number = command_reply_said number name

-- a call of v2 on a file
abbrev pub asks_for_said : File → ℕ → Sent → SaidFormat → SaidAction
asks_for_said file slot sent reply = Ask (DoIoctl file.slot sent.cmd sent.len sent.bytes slot) reply

-- `ioctl NAME COMMAND PIECES.. [as NAME]`
abbrev pub ioctls_bytes_said : File → ℕ → ℕ → Option (List ℕ) → List ℕ → SaidAction
ioctls_bytes_said file slot command made bytes =
    asks_for_said file slot (sent_new file.kind command bytes) (reply_said made (sent_new file.kind command bytes).cmd)

abbrev pub ioctls_said : Option File → ℕ → ℕ → Option (List ℕ) → List File → List ℕ → SaidAction
ioctls_said None slot command made files bytes = Refuse BadF
ioctls_said (Some file) slot command made files bytes = if takes made files then Refuse Exist else ioctls_bytes_said file slot command made bytes

-- how the result of a command of the first uAPI is told that makes no file, and of one that may make a file, which has this name
abbrev pub old_bytes_reply_said : TalkFileKind → ℕ → ℕ → SaidFormat
old_bytes_reply_said kind command number =
    if number == GET_CHIPINFO then OldBytes (kind_v1 kind) command
    else if number == GET_LINEINFO then OldBytes (kind_v1 kind) command
    else if number == LINE_GET_VALUES then OldBytes (kind_v1 kind) command
    else Silent

abbrev pub old_command_reply_said : TalkFileKind → ℕ → List ℕ → List ℕ → ℕ → SaidFormat
old_command_reply_said kind command said name number = if number == GET_LINE then OldMade (made_kind command said) name else old_bytes_reply_said kind command number

abbrev pub old_reply_said : Option (List ℕ) → TalkFileKind → ℕ → List ℕ → ℕ → SaidFormat
old_reply_said None kind command said number = old_bytes_reply_said kind command number
old_reply_said (Some name) kind command said number = old_command_reply_said kind command said name number

-- `ioctl1 NAME COMMAND PIECES.. [as NAME]`
abbrev pub old_ioctls_bytes_said : File → ℕ → ℕ → Option (List ℕ) → List ℕ → SaidAction
old_ioctls_bytes_said file slot command made bytes =
    asks_for_said file slot (sent_old file.kind command bytes) (old_reply_said made file.kind command bytes (sent_old file.kind command bytes).cmd)

abbrev pub old_ioctls_said : Option File → ℕ → ℕ → Option (List ℕ) → List File → List ℕ → SaidAction
old_ioctls_said None slot command made files bytes = Refuse BadF
old_ioctls_said (Some file) slot command made files bytes = if takes made files then Refuse Exist else old_ioctls_bytes_said file slot command made bytes

-- `events NAME N`, `events1 NAME N` and `changes NAME N`
abbrev pub read_if_said : Bool → ℕ → ℕ → SaidFormat → SaidAction
read_if_said can_be_read slot len reply = if can_be_read then Ask (DoReadFile slot len) reply else Refuse Inval

abbrev pub reads_file_said : Option File → (TalkFileKind → Bool) → ℕ → SaidFormat → SaidAction
reads_file_said None can_be_read len reply = Refuse BadF
reads_file_said (Some file) can_be_read len reply = read_if_said (can_be_read file.kind) file.slot len reply

-- `poll NAME`
abbrev pub polls_said : Option File → SaidAction
polls_said None = Refuse BadF
polls_said (Some file) = Ask (DoPoll file.slot) Ready

-- `close NAME`
abbrev pub closes_said : Option File → SaidAction
closes_said None = Refuse BadF
closes_said (Some file) = Ask (DoClose file.slot) Closed

-- `aggregate LABEL NAME [NAME [NAME [NAME]]]`
abbrev pub aggregates_said : List ℕ → List (Option File) → SaidAction
aggregates_said label named =
    if list_any (λ file. not (is_some file)) named then Refuse BadF
    else if list_any is_chip_file named then Refuse Inval
    else Ask (DoAggregate label (padded JOINED_MAX (slots_of named)) (length (slots_of named))) Silent

-- one row a statement; those of tools have none here
abbrev pub action_said : Said → List File → ℕ → List Span → SaidAction
action_said (Probe label lines) files slot words = Ask (DoProbe label lines) Silent
action_said (Unplug chip) files slot words = Ask (DoUnplug chip) Silent
action_said (MakeDir path) files slot words = Ask (DoMakeDir path) Silent
action_said (RemoveDir path) files slot words = Ask (DoRemoveDir path) Silent
action_said (Write path value) files slot words = writes_said (line_file path) path value
action_said (Read path) files slot words = reads_said (line_file path) path
action_said (Clock mono real) files slot words = Ask (DoTick mono real) Silent
action_said (Fault nth) files slot words = Ask (DoPlan nth) Silent
action_said (Accept bits) files slot words = Ask (DoAccept bits) Silent
action_said (Aggregate label) files slot words = aggregates_said label (files_named JOINED_MAX (behind_two words) files)
action_said (Pin chip what) files slot words = Ask (DoPin chip what) Silent
action_said (Irq what chip offset) files slot words = Ask (DoIrq chip offset what) Silent
action_said (Open name word) files slot words = opens_said (is_some (file_of name files)) slot name word
action_said (Ioctl command made) files slot words = ioctls_said (file_of (text_at 1 words) files) slot command made files (bytes_said (behind_three words))
action_said (Events len) files slot words = reads_file_said (file_of (text_at 1 words) files) is_request len Edges
action_said (OldIoctl command made) files slot words = old_ioctls_said (file_of (text_at 1 words) files) slot command made files (bytes_said (behind_three words))
action_said (OldEvents len) files slot words = reads_file_said (file_of (text_at 1 words) files) is_old_event (48 * (len / 16)) OldEdges
action_said (Changes len) files slot words = reads_file_said (file_of (text_at 1 words) files) is_chip len Infos
action_said Poll files slot words = polls_said (file_of (text_at 1 words) files)
action_said Close files slot words = closes_said (file_of (text_at 1 words) files)
action_said Detect files slot words = Nothing
action_said Info files slot words = Nothing
action_said Get files slot words = Nothing
action_said Set files slot words = Nothing
action_said (Start name) files slot words = Nothing
action_said (Step name turns) files slot words = Nothing
action_said (Stop name) files slot words = Nothing

-- the same in its section
abbrev pub action_said_here : Bool → Said → List File → ℕ → List Span → SaidAction
action_said_here in_setup said files slot words = if is_out_of_place in_setup (Some (keyword_said said)) then Refuse Inval else action_said said files slot words

-- A statement that is no tool's does what it says: its words are read as nothing else, and no default is taken in a word's place. What it
-- asks, what it prints of the result, and the names that it gives are the same.
abbrev pub StatementsAskWhatTheySay : Type 0
StatementsAskWhatTheySay = (said : Said) (words : List Span) (names : Names) (slot : ℕ) → Spells words said → kind_of (Some (keyword_said said)) ≡ Plain
    → does names slot words ≡ acts_said (action_said_here names.in_setup said names.files slot words) names slot words
