-- What each statement does: which operations it asks for, by their results so far, and what it prints; and what a whole talk
-- does, a statement at a time. A statement is a program that gives the names after it. This project's choice.
use Rattle.std.specs.Prelude.{◌≡◌, ℕ, ◌+◌, ◌*◌, Bool, true, false, List, [], ◌∷◌, ◌++◌, map, Option, Some, None}
use Rattle.gl_base.specs.Operation.{refusal, bytes_of, ready_of}
use Rattle.gl_base.specs.Words.{Span, text_at}
use Rattle.gl_base.specs.declared.errno.Errno.{Errno}
use Rattle.gl_base.specs.declared.errno.Errno.TheVariants.{BadF, Exist, Inval}
use Rattle.gl_base.specs.declared.operation.Do.{Do}
use Rattle.gl_base.specs.declared.operation.Do.TheVariants.{Close as DoClose}
use Rattle.gl_base.specs.declared.operation.Got.{Got}
use Rattle.gl_args.specs.Options.{SaidTool, SaidSet, SaidWatch, SaidNotify}
use Rattle.gl_client.specs.Program.{Program, done, print, ask, then_by, Left, goes_on, waits, then_left}
use Rattle.gl_args.specs.Tools.{tool_said}
use Rattle.gl_lines.specs.Texts.{line}
use Rattle.gl_monitor.specs.declared.monitor.Monitor.{Monitor}
use Rattle.gl_monitor.specs.Monitor.{Watched, monitor_left, monitor_program, steps_held, watched_by}
use Rattle.gl_monitor.specs.Monitor.{stops as stops_watching}
use Rattle.gl_script.specs.Table.{keyword_of}
use Rattle.gl_values.specs.Client.{tool_program, held_program, client_left}
use Rattle.gl_values.specs.Set.{Held}
use Rattle.gl_values.specs.Set.{stops as stops_holding}
use Rattle.gl_talk.specs.declared.talk.Stage.{Stage}
use Rattle.gl_talk.specs.declared.talk.Stage.TheVariants.{Idle, Begun, Waiting, Running, Holding, Watching, Quitting, Closing}
use Rattle.gl_talk.specs.declared.talk.Talk.{Talk}
use Rattle.gl_talk.specs.declared.tools.StatementKind.{StatementKind}
use Rattle.gl_talk.specs.declared.tools.StatementKind.TheVariants.{Plain, ToolAlone, Starting, Stepping, Stopping}
use Rattle.gl_talk.specs.declared.files.TalkFileKind.{TalkFileKind}
use Rattle.gl_talk.specs.declared.files.TalkFileKind.TheVariants.{Chip, Request}
pub use Rattle.gl_talk.specs.Doing.{Does, refused, shows}
use Rattle.gl_talk.specs.Formats.{Action, Nothing, Refuse, Ask, ResultFormat, Silent, Value, Level, Bytes, Edges, Infos, Ready, Opened, Closed, Made, OldBytes, OldEdges, OldMade}
use Rattle.gl_talk.specs.Old.{made_kind, old_command_word, old_edges_text, old_structure_text}
use Rattle.gl_talk.specs.Open.{File, Names, no_names, file_in, set_in, monitor_in, has_tool, held_of_name, watched_of_name, with_file, without_file, with_set, with_monitor, without_set, without_monitor, slots_in_order}
use Rattle.gl_talk.specs.Actions.{action_here}
use Rattle.gl_talk.specs.Copied.{words_under_way}
use Rattle.gl_talk.specs.Replies.{number_of, text_of, level_text, ready_text, structure_text, fd_text, edges_text, infos_text}
use Rattle.gl_talk.specs.SaidTalk.{replied_said}
use Rattle.gl_talk.specs.ToolWords.{kind_of, usage_text, word_texts}
use Rattle.gl_talk.specs.Words.{behind_three, behind_two, bytes_said, command_word, made_name, name_word, turns_word}

-- an open file of this name
abbrev pub file : List ℕ → ℕ → TalkFileKind → File
file name slot kind = record { name = name_word name; slot = slot; kind = kind }

-- how a result that is no refusal is told
abbrev pub told : ResultFormat → Names → ℕ → List Span → Got → Does
told Silent names slot words got = done names
told Value names slot words got = shows (line (text_of got)) names
told (Level is_pull) names slot words got = shows (line (level_text is_pull (number_of got))) names
told Bytes names slot words got = shows (structure_text (command_word (text_at 2 words)) (bytes_of got)) names
told Edges names slot words got = shows (edges_text (bytes_of got)) names
told Infos names slot words got = shows (infos_text (bytes_of got)) names
told Ready names slot words got = shows (line (ready_text (ready_of got))) names
told Opened names slot words got = done (with_file (file (text_at 1 words) slot Chip) names)
told Closed names slot words got = done (without_file (text_at 1 words) names)
told Made names slot words got = shows (fd_text (bytes_of got)) (with_file (file (made_name words) slot Request) names)
told (OldBytes kind) names slot words got =
    shows (old_structure_text kind (old_command_word (text_at 2 words)) (bytes_said (behind_three words)) (bytes_of got)) names
told OldEdges names slot words got = shows (old_edges_text (bytes_of got)) names
told OldMade names slot words got =
    shows (fd_text (bytes_of got)) (with_file (file (made_name words) slot (made_kind (old_command_word (text_at 2 words)) (bytes_said (behind_three words)))) names)

abbrev pub replied_by : Option Errno → ResultFormat → Names → ℕ → List Span → Got → Does
replied_by (Some errno) reply names slot words got = refused errno names
replied_by None reply names slot words got = told reply names slot words got

-- how a result is told
abbrev pub replied : ResultFormat → Names → ℕ → List Span → Got → Does
replied reply names slot words got = replied_by (refusal got) reply names slot words got

-- what a statement does that is no tool's
abbrev pub acts : Action → Names → ℕ → List Span → Does
acts Nothing names slot words = done names
acts (Refuse errno) names slot words = refused errno names
acts (Ask what reply) names slot words = ask what (λ got. replied reply names slot words got)

-- a tool as a statement leaves the names as they were; where the words say none, its usage is printed
abbrev pub runs : Option SaidTool → Names → ℕ → List Span → Does
runs None names slot words = shows (usage_text (text_at 0 words)) names
runs (Some tool) names slot words = then_by (tool_program tool slot) (λ _. done names)

-- after its start, its step or its stop a tool has its name where it goes on
abbrev pub keeps_set : List ℕ → Names → Held → Does
keeps_set name names held = done (with_set name held names)

abbrev pub keeps_monitor : List ℕ → Names → Watched → Does
keeps_monitor name names watched = done (with_monitor name watched names)

-- `start NAME TOOL ..`: gpioset requests its lines, a monitor finds or requests its own; no other tool is started
abbrev pub starts_tool : SaidTool → Names → ℕ → List ℕ → Does
starts_tool (SaidSet opts) names slot name = then_by (held_program (SaidSet opts) slot) (keeps_set name names)
starts_tool (SaidWatch opts) names slot name = then_by (monitor_program (SaidWatch opts) slot) (keeps_monitor name names)
starts_tool (SaidNotify opts) names slot name = then_by (monitor_program (SaidNotify opts) slot) (keeps_monitor name names)
starts_tool _ names slot name = done names

abbrev pub starts_said : Option SaidTool → Names → ℕ → List Span → Does
starts_said None names slot words = shows (usage_text (text_at 2 words)) names
starts_said (Some tool) names slot words = starts_tool tool names slot (text_at 1 words)

-- a name that a tool has is refused before the tool's words are looked at
abbrev pub starts : Bool → Names → ℕ → List Span → Does
starts true names slot words = refused Exist names
starts false names slot words = starts_said (tool_said (word_texts (behind_two words))) names slot words

-- `step NAME N`: a monitor makes so many turns; gpioset has none
abbrev pub steps : Option Watched → Option Held → Names → List Span → Does
steps (Some watched) held names words =
    then_by (steps_held watched (turns_word (text_at 2 words))) (keeps_monitor (text_at 1 words) (without_monitor (text_at 1 words) names))
steps None (Some held) names words = refused Inval names
steps None None names words = refused BadF names

-- `stop NAME`: the tool's file is closed, and the name is free
abbrev pub stops : Option Watched → Option Held → Names → List Span → Does
stops (Some watched) held names words = then_by (stops_watching watched) (keeps_monitor (text_at 1 words) (without_monitor (text_at 1 words) names))
stops None (Some held) names words = then_by (stops_holding held) (keeps_set (text_at 1 words) (without_set (text_at 1 words) names))
stops None None names words = refused BadF names

abbrev pub does_by : StatementKind → Names → ℕ → List Span → Does
does_by Plain names slot words = acts (action_here names.in_setup names.files slot words) names slot words
does_by ToolAlone names slot words = runs (tool_said (word_texts words)) names slot words
does_by Starting names slot words = starts (has_tool (text_at 1 words) names) names slot words
does_by Stepping names slot words = steps (watched_of_name (text_at 1 words) names.monitors) (held_of_name (text_at 1 words) names.sets) names words
does_by Stopping names slot words = stops (watched_of_name (text_at 1 words) names.monitors) (held_of_name (text_at 1 words) names.sets) names words

-- What a statement with these words does, where these names are there before it, with the slots `slot` and `slot + 1` of its
-- own.
abbrev pub does : Names → ℕ → List Span → Does
does names slot words = does_by (kind_of (keyword_of (text_at 0 words))) names slot words

-- files are closed one after the other; what is answered changes nothing
abbrev pub closes_all : List ℕ → Does
closes_all [] = done no_names
closes_all (slot ∷ slots) = ask (DoClose slot) (λ _. closes_all slots)

-- at the end all open files are closed, those of tools among them
abbrev pub quits : Names → Does
quits names = closes_all (slots_in_order names)

-- the slots of a statement's own, by how many were begun before it
abbrev pub slot_behind : ℕ → ℕ
slot_behind begun = 2 * (begun + 1)

-- Statements in a row, each by the names that the one before it gives; after the last comes what `after` says of the names
-- that are there then. `begun` statements were begun before.
abbrev pub says : {A : Type 0} → ℕ → List (List Span) → (Names → Program A) → Names → Program A
says begun [] behind names = behind names
says begun (words ∷ statements) behind names = then_by (does names (slot_behind begun) words) (says (begun + 1) statements behind)

-- A whole talk, read a statement at a time: the statements in a row, and then the end.
abbrev pub talks : ℕ → List (List Span) → Names → Does
talks begun statements names = says begun statements quits names

-- the operations that a talk asks for, and its text
pub record Talked : Type 0 where
  pub operations : List Do
  pub text : List ℕ

abbrev pub nothing_talked : Talked
nothing_talked = record { operations = []; text = [] }

abbrev pub behind_text : List ℕ → Talked → Talked
behind_text text talked = record talked { text = text ++ talked.text }

abbrev pub behind_operation : Do → Talked → Talked
behind_operation what talked = record talked { operations = what ∷ talked.operations }

-- what a program asks and prints over these results, in order; it stops where none is left
abbrev pub talked : {A : Type 0} → Program A → List Got → Talked
talked (done value) results = nothing_talked
talked (print text p) results = behind_text text (talked p results)
talked (ask what p) [] = record { operations = what ∷ []; text = [] }
talked (ask what p) (got ∷ results) = behind_operation what (talked (p got) results)

-- Talk: the operations and the text of an actor's statements, by their words and the results
abbrev pub talk : List (List Span) → List Got → Talked
talk statements results = talked (talks 0 statements no_names) results

abbrev pub some_left : Option Monitor → Left Watched
some_left None = goes_on (done None)
some_left (Some monitor) = monitor_left monitor

-- what the monitor of a statement watches
abbrev pub some_watched : Option Monitor → Watched
some_watched None = None
some_watched (Some monitor) = watched_by monitor

-- what is left; one line a stage
abbrev pub left_at : Talk → Names → ℕ → List Span → Stage → Left Names
left_at t names slot words Idle = goes_on (done names)
left_at t names slot words Begun = goes_on (does names slot words)
left_at t names slot words (Waiting reply) = waits (λ got. replied_said reply names slot words got)
left_at t names slot words Running = then_left (client_left t.client) (λ _. done names)
left_at t names slot words (Holding name) = then_left (client_left t.client) (keeps_set name names)
left_at t names slot words (Watching name) = then_left (some_left t.monitor) (keeps_monitor name names)
left_at t names slot words Quitting = goes_on (quits names)
left_at t names slot words Closing = waits (λ _. closes_all t.closing.items)

abbrev pub names_in : Talk → Names
names_in t = record { files = map file_in t.files.items; sets = map set_in t.sets.items; monitors = map monitor_in t.monitors.items; in_setup = t.in_setup }

abbrev pub slot_in : Talk → ℕ
slot_in t = 2 * t.begun

abbrev pub words_in : Talk → List Span
words_in t = words_under_way t.line

abbrev pub left : Talk → Left Names
left t = left_at t (names_in t) (slot_in t) (words_in t) t.stage

-- what is left of a whole talk, with these statements after the one that is under way
abbrev pub talk_left : Talk → List (List Span) → Left Names
talk_left t statements = then_left (left t) (talks t.begun statements)

-- where a talk stands: all of which what is left is made
pub record StaysLeft (old new : Talk) : Type 0 where
  pub stage : new.stage ≡ old.stage
  pub begun : new.begun ≡ old.begun
  pub line : new.line ≡ old.line
  pub names : names_in new ≡ names_in old
  pub client : client_left new.client ≡ client_left old.client
  pub monitor : some_left new.monitor ≡ some_left old.monitor
  pub closing : new.closing.items ≡ old.closing.items

-- the same of a statement that hasn't made its first step, which has no tool yet
pub record StaysBegun (old new : Talk) : Type 0 where
  pub stage : new.stage ≡ old.stage
  pub begun : new.begun ≡ old.begun
  pub line : new.line ≡ old.line
  pub names : names_in new ≡ names_in old
