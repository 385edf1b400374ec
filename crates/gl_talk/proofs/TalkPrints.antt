-- Statements and whole talks print whole lines.
use Rattle.std.proofs.Common.{◌≡◌, ◌+◌, ◌*◌, ◌/◌, ℕ, zero, suc, Bool, true, false, cond, List, [], ◌∷◌, ◌++◌, length, Option, None, Some, refl}
use Rattle.std.specs.Prelude.{codes, nat_le, take}
use Rattle.std.specs.Fmt.{digits}
use Rattle.gl_base.specs.BytesText.{bytes_text}
use Rattle.gl_base.specs.Decimal.{decimal}
use Rattle.gl_base.specs.Errno.{errno_name}
use Rattle.gl_base.specs.Operation.{bytes_of, ready_of, refusal}
use Rattle.gl_base.specs.Words.{Span, text_at}
use Rattle.gl_base.specs.declared.errno.Errno.{Errno}
use Rattle.gl_base.specs.declared.errno.Errno.TheVariants.{BadF, Exist, Inval}
use Rattle.gl_base.specs.declared.operation.Got.{Got}
use Rattle.gl_args.specs.Options.{SaidTool, SaidDetect, SaidInfo, SaidGet, SaidSet, SaidWatch, SaidNotify}
use Rattle.gl_base.specs.TextLines.{ends_lines}
use Rattle.gl_base.proofs.TextLines.{line_ends, lines_end}
use Rattle.gl_client.specs.Printing.{PrintsLines}
use Rattle.gl_client.specs.Program.{Program, done}
use Rattle.gl_args.specs.Tools.{tool_said}
use Rattle.gl_client.proofs.Printing.{prints_then}
use Rattle.gl_lines.proofs.FindingPrints.{line_ended}
use Rattle.gl_monitor.specs.Monitor.{Watched, monitor_program, steps_held}
use Rattle.gl_monitor.specs.Monitor.{stops as stops_watching}
use Rattle.gl_monitor.proofs.MonitorPrints.{monitor_lines, stepped_lines}
use Rattle.gl_monitor.proofs.MonitorPrints.{stops_lines as watched_stops_lines}
use Rattle.gl_script.specs.Table.{keyword_of}
use Rattle.gl_v1.specs.Back.{events_back}
use Rattle.gl_v1.specs.Commands.{command_for}
use Rattle.gl_v1.specs.declared.layout.TheConstants.{V1_DATA_ID, V1_DATA_TIMESTAMP}
use Rattle.gl_uapi.specs.Command.{command_of}
use Rattle.gl_uapi.specs.Fields.{number_at, stretch, zeros}
use Rattle.gl_uapi.specs.InfoChanged.{changed_in}
use Rattle.gl_uapi.specs.LineEvent.{event_in}
use Rattle.gl_uapi.specs.declared.info_changes.Changed.{Changed}
use Rattle.gl_uapi.specs.declared.line_events.Event.{Event}
use Rattle.gl_values.specs.Client.{held_program, tool_program}
use Rattle.gl_values.specs.Set.{Held}
use Rattle.gl_values.specs.Set.{stops as stops_holding}
use Rattle.gl_values.proofs.ToolPrints.{held_lines, tool_lines}
use Rattle.gl_values.proofs.ToolPrints.{stops_lines as held_stops_lines}
use Rattle.gl_talk.specs.Formats.{Action, Nothing, Refuse, Ask, ResultFormat, Silent, Value, Level, Bytes, Edges, Infos, Ready, Opened, Closed, Made, OldBytes, OldEdges, OldMade}
use Rattle.gl_talk.specs.declared.tools.StatementKind.{StatementKind}
use Rattle.gl_talk.specs.declared.tools.StatementKind.TheVariants.{Plain, ToolAlone, Starting, Stepping, Stopping}
use Rattle.gl_talk.specs.Old.{old_command_word, old_edge_line, old_edge_lines, old_edge_word, old_edges_text, old_structure}
use Rattle.gl_talk.specs.Open.{Names, has_tool, held_of_name, slots_in_order, watched_of_name, without_monitor, without_set}
use Rattle.gl_talk.specs.Actions.{action_here}
use Rattle.gl_talk.specs.Printed.{StatementsPrintLines, TalksPrintLines}
use Rattle.gl_talk.specs.Replies.{edge_line, edge_lines, edge_word, edges_text, fd_of, info_line, info_lines, infos_text, kind_word, level_text, number_of, ready_text, size_or, structure_text, text_of}
use Rattle.gl_talk.specs.Talk.{acts, closes_all, does_by, keeps_monitor, keeps_set, quits, refused, replied_by, runs, says, slot_behind, starts, starts_said, starts_tool, steps, stops, does}
use Rattle.gl_talk.specs.ToolWords.{kind_of, word_texts}
use Rattle.gl_talk.specs.Words.{behind_three, behind_two, bytes_said, command_word, turns_word}

-- the lines of edges and of changes, and none where the bytes are too many
edge_ends : (event : Event) → ends_lines (edge_line event) ≡ true
edge_ends event =
    line_ends (decimal event.timestamp ++ edge_word event.id ++ decimal event.offset ++ codes " " ++ decimal event.seqno ++ codes " " ++ decimal event.line_seqno)

info_ends : (changed : Changed) → ends_lines (info_line changed) ≡ true
info_ends changed = line_ends (decimal changed.timestamp ++ kind_word changed.kind ++ decimal changed.info.offset ++ codes " 0x" ++ digits 16 false changed.info.flags)

old_edge_ends : (event : List ℕ) → ends_lines (old_edge_line event) ≡ true
old_edge_ends event = line_ends (decimal (number_at 8 V1_DATA_TIMESTAMP event) ++ old_edge_word (number_at 4 V1_DATA_ID event))

structure_ends : (command : ℕ) (bytes : List ℕ) → ends_lines (structure_text command bytes) ≡ true
structure_ends command bytes = line_ends (bytes_text (take (size_or (command_of command)) bytes))

edges_end : (bytes : List ℕ) (i n : ℕ) → ends_lines (edge_lines bytes i n) ≡ true
edges_end bytes i zero = refl
edges_end bytes i (suc n) =
    let event = event_in (stretch (48 * i) 48 bytes) in
    lines_end (edge_line event) (edge_lines bytes (i + 1) n) (edge_ends event) (edges_end bytes (i + 1) n)

infos_end : (bytes : List ℕ) (i n : ℕ) → ends_lines (info_lines bytes i n) ≡ true
infos_end bytes i zero = refl
infos_end bytes i (suc n) =
    let changed = changed_in (stretch (288 * i) 288 bytes) in
    lines_end (info_line changed) (info_lines bytes (i + 1) n) (info_ends changed) (infos_end bytes (i + 1) n)

old_edges_end : (bytes : List ℕ) (i n : ℕ) → ends_lines (old_edge_lines bytes i n) ≡ true
old_edges_end bytes i zero = refl
old_edges_end bytes i (suc n) =
    let event = events_back (stretch (48 * i) 48 bytes) (zeros 16) in
    lines_end (old_edge_line event) (old_edge_lines bytes (i + 1) n) (old_edge_ends event) (old_edges_end bytes (i + 1) n)

few_end : (few : Bool) (text : List ℕ) → ends_lines text ≡ true → ends_lines (cond few text []) ≡ true
few_end true text h = h
few_end false text h = refl

edges_text_ends : (bytes : List ℕ) → ends_lines (edges_text bytes) ≡ true
edges_text_ends bytes = few_end (nat_le (length bytes) 49152) (edge_lines bytes 0 (length bytes / 48)) (edges_end bytes 0 (length bytes / 48))

infos_text_ends : (bytes : List ℕ) → ends_lines (infos_text bytes) ≡ true
infos_text_ends bytes = few_end (nat_le (length bytes) 49152) (info_lines bytes 0 (length bytes / 288)) (infos_end bytes 0 (length bytes / 288))

old_edges_text_ends : (bytes : List ℕ) → ends_lines (old_edges_text bytes) ≡ true
old_edges_text_ends bytes = few_end (nat_le (length bytes) 49152) (old_edge_lines bytes 0 (length bytes / 48)) (old_edges_end bytes 0 (length bytes / 48))

-- what is told of a result
refused_lines : (errno : Errno) (names : Names) → PrintsLines (refused errno names)
refused_lines errno names = (line_ended (errno_name errno), tt)

told_lines : (fault : Option Errno) (reply : ResultFormat) (names : Names) (slot : ℕ) (words : List Span) (got : Got) → PrintsLines (replied_by fault reply names slot words got)
told_lines (Some errno) reply names slot words got = refused_lines errno names
told_lines None Silent names slot words got = tt
told_lines None Value names slot words got = (line_ended (text_of got), tt)
told_lines None (Level is_pull) names slot words got = (line_ended (level_text is_pull (number_of got)), tt)
told_lines None Bytes names slot words got = (structure_ends (command_word (text_at 2 words)) (bytes_of got), tt)
told_lines None Edges names slot words got = (edges_text_ends (bytes_of got), tt)
told_lines None Infos names slot words got = (infos_text_ends (bytes_of got), tt)
told_lines None Ready names slot words got = (line_ended (ready_text (ready_of got)), tt)
told_lines None Opened names slot words got = tt
told_lines None Closed names slot words got = tt
told_lines None Made names slot words got = (line_ended (codes "fd " ++ decimal (fd_of (bytes_of got))), tt)
told_lines None (OldBytes kind) names slot words got =
    let number = old_command_word (text_at 2 words) in
    (line_ended (old_structure (command_for kind number) kind number (bytes_said (behind_three words)) (bytes_of got)), tt)
told_lines None OldEdges names slot words got = (old_edges_text_ends (bytes_of got), tt)
told_lines None OldMade names slot words got = (line_ended (codes "fd " ++ decimal (fd_of (bytes_of got))), tt)

acts_lines : (action : Action) (names : Names) (slot : ℕ) (words : List Span) → PrintsLines (acts action names slot words)
acts_lines Nothing names slot words = tt
acts_lines (Refuse errno) names slot words = refused_lines errno names
acts_lines (Ask what reply) names slot words = λ got. told_lines (refusal got) reply names slot words got

-- a tool's statement, and one that is started, stepped or stopped
runs_lines : (tool : Option SaidTool) (names : Names) (slot : ℕ) (words : List Span) → PrintsLines (runs tool names slot words)
runs_lines None names slot words = (line_ended (text_at 0 words ++ codes ": usage"), tt)
runs_lines (Some tool) names slot words = prints_then (tool_program tool slot) (λ _. done names) (tool_lines tool slot) (λ value. tt)

starts_tool_lines : (tool : SaidTool) (names : Names) (slot : ℕ) (name : List ℕ) → PrintsLines (starts_tool tool names slot name)
starts_tool_lines (SaidDetect texts) names slot name = tt
starts_tool_lines (SaidInfo opts) names slot name = tt
starts_tool_lines (SaidGet opts) names slot name = tt
starts_tool_lines (SaidSet opts) names slot name = prints_then (held_program (SaidSet opts) slot) (keeps_set name names) (held_lines (SaidSet opts) slot) (λ value. tt)
starts_tool_lines (SaidWatch opts) names slot name =
    prints_then (monitor_program (SaidWatch opts) slot) (keeps_monitor name names) (monitor_lines (SaidWatch opts) slot) (λ value. tt)
starts_tool_lines (SaidNotify opts) names slot name =
    prints_then (monitor_program (SaidNotify opts) slot) (keeps_monitor name names) (monitor_lines (SaidNotify opts) slot) (λ value. tt)

said_lines : (tool : Option SaidTool) (names : Names) (slot : ℕ) (words : List Span) → PrintsLines (starts_said tool names slot words)
said_lines None names slot words = (line_ended (text_at 2 words ++ codes ": usage"), tt)
said_lines (Some tool) names slot words = starts_tool_lines tool names slot (text_at 1 words)

starts_lines : (taken : Bool) (names : Names) (slot : ℕ) (words : List Span) → PrintsLines (starts taken names slot words)
starts_lines true names slot words = refused_lines Exist names
starts_lines false names slot words = said_lines (tool_said (word_texts (behind_two words))) names slot words

steps_lines : (watched : Option Watched) (held : Option Held) (names : Names) (words : List Span) → PrintsLines (steps watched held names words)
steps_lines None None names words = refused_lines BadF names
steps_lines None (Some held) names words = refused_lines Inval names
steps_lines (Some watched) held names words =
    let turns = turns_word (text_at 2 words) in
    prints_then (steps_held watched turns) (keeps_monitor (text_at 1 words) (without_monitor (text_at 1 words) names)) (stepped_lines watched turns) (λ value. tt)

stops_lines : (watched : Option Watched) (held : Option Held) (names : Names) (words : List Span) → PrintsLines (stops watched held names words)
stops_lines None None names words = refused_lines BadF names
stops_lines None (Some held) names words =
    prints_then (stops_holding held) (keeps_set (text_at 1 words) (without_set (text_at 1 words) names)) (held_stops_lines held) (λ value. tt)
stops_lines (Some watched) held names words =
    prints_then (stops_watching watched) (keeps_monitor (text_at 1 words) (without_monitor (text_at 1 words) names)) (watched_stops_lines watched) (λ value. tt)

kind_lines : (kind : StatementKind) (names : Names) (slot : ℕ) (words : List Span) → PrintsLines (does_by kind names slot words)
kind_lines Plain names slot words = acts_lines (action_here names.in_setup names.files slot words) names slot words
kind_lines ToolAlone names slot words = runs_lines (tool_said (word_texts words)) names slot words
kind_lines Starting names slot words = starts_lines (has_tool (text_at 1 words) names) names slot words
kind_lines Stepping names slot words = steps_lines (watched_of_name (text_at 1 words) names.monitors) (held_of_name (text_at 1 words) names.sets) names words
kind_lines Stopping names slot words = stops_lines (watched_of_name (text_at 1 words) names.monitors) (held_of_name (text_at 1 words) names.sets) names words

pub statements_print_lines : StatementsPrintLines
statements_print_lines names slot words = kind_lines (kind_of (keyword_of (text_at 0 words))) names slot words

-- the end prints nothing
closes_lines : (slots : List ℕ) → PrintsLines (closes_all slots)
closes_lines [] = tt
closes_lines (slot ∷ slots) = λ got. closes_lines slots

pub end_lines : (names : Names) → PrintsLines (quits names)
end_lines names = closes_lines (slots_in_order names)

-- statements in a row, where what comes after them does too
pub says_lines : {A : Type 0} (begun : ℕ) (statements : List (List Span)) (behind : Names → Program A) → ((names : Names) → PrintsLines (behind names)) → (names : Names)
    → PrintsLines (says begun statements behind names)
says_lines begun [] behind h names = h names
says_lines begun (words ∷ statements) behind h names =
    prints_then (does names (slot_behind begun) words) (says (begun + 1) statements behind) (statements_print_lines names (slot_behind begun) words)
    (λ after. says_lines (begun + 1) statements behind h after)

pub talks_print_lines : TalksPrintLines
talks_print_lines begun statements names = says_lines begun statements quits end_lines names
