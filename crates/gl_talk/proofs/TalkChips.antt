-- Statements other than `aggregate`, and talks of them, ask for no chip over requests.
use Rattle.std.proofs.Common.{◌≡◌, ◌+◌, ℕ, Bool, true, false, ◌||◌, List, [], ◌∷◌, Option, None, Some, refl}
use Rattle.std.specs.List.{list_any}
use Rattle.std.specs.Prelude.{if◌then◌else◌, is_some}
use Rattle.std.proofs.lemmas.Bool.{true≢false}
use Rattle.gl_base.specs.Operation.{refusal}
use Rattle.gl_base.specs.Words.{Span, text_at}
use Rattle.gl_base.specs.declared.errno.Errno.{Errno}
use Rattle.gl_base.specs.declared.errno.Errno.TheVariants.{Inval, Perm}
use Rattle.gl_base.specs.declared.operation.Got.{Got}
use Rattle.gl_args.specs.Options.{SaidTool, SaidDetect, SaidInfo, SaidGet, SaidSet, SaidWatch, SaidNotify}
use Rattle.gl_args.specs.Tools.{tool_said}
use Rattle.gl_client.specs.Chips.{AsksNoChips, IsPlain}
use Rattle.gl_client.specs.Program.{Program, done}
use Rattle.gl_client.proofs.Chips.{asks_then}
use Rattle.gl_monitor.specs.Monitor.{Watched, monitor_program, steps_held}
use Rattle.gl_monitor.specs.Monitor.{stops as stops_watching}
use Rattle.gl_monitor.proofs.MonitorChips.{monitor_none, stepped_none}
use Rattle.gl_monitor.proofs.MonitorChips.{stops_none as watched_stops_none}
use Rattle.gl_script.specs.Cost.{is_aggregate, words_aggregate}
use Rattle.gl_script.specs.Table.{keyword_of}
use Rattle.gl_script.specs.declared.table.Keyword.{Keyword}
use Rattle.gl_script.specs.declared.table.Keyword.TheVariants.{Probe, Unplug, MakeDir, RemoveDir, Write, Read, Clock, Fault, Accept, Aggregate, Pin, Irq, Open, Ioctl, Events, OldIoctl, OldEvents, Changes, Poll, Close, Detect, Info, Get, Set, Start, Step, Stop}
use Rattle.gl_values.specs.Client.{held_program, tool_program}
use Rattle.gl_values.specs.Set.{Held}
use Rattle.gl_values.specs.Set.{stops as stops_holding}
use Rattle.gl_values.proofs.ToolChips.{held_none, tool_none}
use Rattle.gl_values.proofs.ToolChips.{stops_none as held_stops_none}
use Rattle.gl_talk.specs.declared.files.TalkFileKind.{TalkFileKind}
use Rattle.gl_talk.specs.declared.paths.LineFile.{LineFile}
use Rattle.gl_talk.specs.declared.tools.StatementKind.{StatementKind}
use Rattle.gl_talk.specs.declared.tools.StatementKind.TheVariants.{Plain, ToolAlone, Starting, Stepping, Stopping}
use Rattle.gl_talk.specs.Actions.{action_here, action_of, closes, ioctls, is_out_of_place, lives, old_ioctls, opens, polls, pulls, read_if, reads, reads_file, takes_name, writes, writes_tree}
use Rattle.gl_talk.specs.Formats.{Action, Nothing, Refuse, Ask, ResultFormat, Silent, Value, Level, Bytes, Edges, Infos, Ready, Opened, Closed, Made, OldBytes, OldEdges, OldMade}
use Rattle.gl_talk.specs.Old.{takes_old_name}
use Rattle.gl_talk.specs.Open.{File, Names, file_of, has_tool, held_of_name, is_chip, is_old_event, is_request, slots_in_order, watched_of_name, without_monitor, without_set}
use Rattle.gl_talk.specs.Paths.{line_file, live_device}
use Rattle.gl_talk.specs.Talk.{acts, closes_all, does, does_by, keeps_monitor, keeps_set, quits, replied_by, runs, says, slot_behind, starts, starts_said, starts_tool, steps, stops}
use Rattle.gl_talk.specs.ToolWords.{kind_of, word_texts}
use Rattle.gl_talk.specs.Words.{behind_two, label_word, live_word, pull_word, turns_word}

-- what a statement that is no tool's does
abbrev IsPlainAction : Action → Type 0
IsPlainAction Nothing = Unit {0}
IsPlainAction (Refuse errno) = Unit {0}
IsPlainAction (Ask what reply) = IsPlain what

either_plain : (b : Bool) (first second : Action) → IsPlainAction first → IsPlainAction second → IsPlainAction (if b then first else second)
either_plain true first second h k = h
either_plain false first second h k = k

reads_plain : (file : Option LineFile) (path : List ℕ) → IsPlainAction (reads file path)
reads_plain None path = tt
reads_plain (Some file) path = tt

pulls_plain : (file : LineFile) (up : Option Bool) → IsPlainAction (pulls file up)
pulls_plain file None = tt
pulls_plain file (Some up) = tt

lives_plain : (device : List ℕ) (up : Option Bool) → IsPlainAction (lives device up)
lives_plain device None = tt
lives_plain device (Some up) = tt

tree_plain : (device : Option (List ℕ)) (path value : List ℕ) → IsPlainAction (writes_tree device path value)
tree_plain None path value = tt
tree_plain (Some device) path value = lives_plain device (live_word value)

writes_plain : (file : Option LineFile) (path value : List ℕ) → IsPlainAction (writes file path value)
writes_plain (Some file) path value = either_plain file.is_pull (pulls file (pull_word value)) (Refuse Perm) (pulls_plain file (pull_word value)) tt
writes_plain None path value = tree_plain (live_device path) path value

opens_plain : (taken : Bool) (slot : ℕ) (word : List ℕ) → IsPlainAction (opens taken slot word)
opens_plain true slot word = tt
opens_plain false slot word = tt

ioctls_plain : (file : Option File) (taken : Bool) (slot : ℕ) (words : List Span) → IsPlainAction (ioctls file taken slot words)
ioctls_plain None taken slot words = tt
ioctls_plain (Some file) true slot words = tt
ioctls_plain (Some file) false slot words = tt

old_ioctls_plain : (file : Option File) (taken : Bool) (slot : ℕ) (words : List Span) → IsPlainAction (old_ioctls file taken slot words)
old_ioctls_plain None taken slot words = tt
old_ioctls_plain (Some file) true slot words = tt
old_ioctls_plain (Some file) false slot words = tt

read_plain : (can_be_read : Bool) (slot len : ℕ) (reply : ResultFormat) → IsPlainAction (read_if can_be_read slot len reply)
read_plain true slot len reply = tt
read_plain false slot len reply = tt

reads_file_plain : (file : Option File) (can_be_read : TalkFileKind → Bool) (len : ℕ) (reply : ResultFormat) → IsPlainAction (reads_file file can_be_read len reply)
reads_file_plain None can_be_read len reply = tt
reads_file_plain (Some file) can_be_read len reply = read_plain (can_be_read file.kind) file.slot len reply

polls_plain : (file : Option File) → IsPlainAction (polls file)
polls_plain None = tt
polls_plain (Some file) = tt

closes_plain : (file : Option File) → IsPlainAction (closes file)
closes_plain None = tt
closes_plain (Some file) = tt

action_plain : (keyword : Option Keyword) (files : List File) (slot : ℕ) (words : List Span) → is_aggregate keyword ≡ false → IsPlainAction (action_of keyword files slot words)
action_plain None files slot words is = tt
action_plain (Some Probe) files slot words is = tt
action_plain (Some Unplug) files slot words is = tt
action_plain (Some MakeDir) files slot words is = tt
action_plain (Some RemoveDir) files slot words is = tt
action_plain (Some Write) files slot words is = writes_plain (line_file (text_at 1 words)) (text_at 1 words) (label_word (text_at 2 words))
action_plain (Some Read) files slot words is = reads_plain (line_file (text_at 1 words)) (text_at 1 words)
action_plain (Some Clock) files slot words is = tt
action_plain (Some Fault) files slot words is = tt
action_plain (Some Accept) files slot words is = tt
action_plain (Some Aggregate) files slot words is = absurd (true≢false is)
action_plain (Some Pin) files slot words is = tt
action_plain (Some Irq) files slot words is = tt
action_plain (Some Open) files slot words is = opens_plain (is_some (file_of (text_at 1 words) files)) slot (text_at 2 words)
action_plain (Some Ioctl) files slot words is = ioctls_plain (file_of (text_at 1 words) files) (takes_name words files) slot words
action_plain (Some Events) files slot words is = reads_file_plain (file_of (text_at 1 words) files) is_request _ Edges
action_plain (Some OldIoctl) files slot words is = old_ioctls_plain (file_of (text_at 1 words) files) (takes_old_name words files) slot words
action_plain (Some OldEvents) files slot words is = reads_file_plain (file_of (text_at 1 words) files) is_old_event _ OldEdges
action_plain (Some Changes) files slot words is = reads_file_plain (file_of (text_at 1 words) files) is_chip _ Infos
action_plain (Some Poll) files slot words is = polls_plain (file_of (text_at 1 words) files)
action_plain (Some Close) files slot words is = closes_plain (file_of (text_at 1 words) files)
action_plain (Some Detect) files slot words is = tt
action_plain (Some Info) files slot words is = tt
action_plain (Some Get) files slot words is = tt
action_plain (Some Set) files slot words is = tt
action_plain (Some Start) files slot words is = tt
action_plain (Some Step) files slot words is = tt
action_plain (Some Stop) files slot words is = tt

here_plain : (names : Names) (slot : ℕ) (words : List Span) → words_aggregate words ≡ false → IsPlainAction (action_here names.in_setup names.files slot words)
here_plain names slot words is =
    either_plain (is_out_of_place names.in_setup (keyword_of (text_at 0 words))) (Refuse Inval) (action_of (keyword_of (text_at 0 words)) names.files slot words) tt
    (action_plain (keyword_of (text_at 0 words)) names.files slot words is)

-- what is told of a result
told_none : (fault : Option Errno) (reply : ResultFormat) (names : Names) (slot : ℕ) (words : List Span) (got : Got) → AsksNoChips (replied_by fault reply names slot words got)
told_none (Some errno) reply names slot words got = tt
told_none None Silent names slot words got = tt
told_none None Value names slot words got = tt
told_none None (Level is_pull) names slot words got = tt
told_none None Bytes names slot words got = tt
told_none None Edges names slot words got = tt
told_none None Infos names slot words got = tt
told_none None Ready names slot words got = tt
told_none None Opened names slot words got = tt
told_none None Closed names slot words got = tt
told_none None Made names slot words got = tt
told_none None (OldBytes kind) names slot words got = tt
told_none None OldEdges names slot words got = tt
told_none None OldMade names slot words got = tt

acts_none : (action : Action) (names : Names) (slot : ℕ) (words : List Span) → IsPlainAction action → AsksNoChips (acts action names slot words)
acts_none Nothing names slot words plain = tt
acts_none (Refuse errno) names slot words plain = tt
acts_none (Ask what reply) names slot words plain = (plain, λ got. told_none (refusal got) reply names slot words got)

-- a tool's statement, and one that is started, stepped or stopped
runs_none : (tool : Option SaidTool) (names : Names) (slot : ℕ) (words : List Span) → AsksNoChips (runs tool names slot words)
runs_none None names slot words = tt
runs_none (Some tool) names slot words = asks_then (tool_program tool slot) (λ _. done names) (tool_none tool slot) (λ value. tt)

starts_tool_none : (tool : SaidTool) (names : Names) (slot : ℕ) (name : List ℕ) → AsksNoChips (starts_tool tool names slot name)
starts_tool_none (SaidDetect texts) names slot name = tt
starts_tool_none (SaidInfo opts) names slot name = tt
starts_tool_none (SaidGet opts) names slot name = tt
starts_tool_none (SaidSet opts) names slot name = asks_then (held_program (SaidSet opts) slot) (keeps_set name names) (held_none (SaidSet opts) slot) (λ value. tt)
starts_tool_none (SaidWatch opts) names slot name = asks_then (monitor_program (SaidWatch opts) slot) (keeps_monitor name names) (monitor_none (SaidWatch opts) slot) (λ value. tt)
starts_tool_none (SaidNotify opts) names slot name = asks_then (monitor_program (SaidNotify opts) slot) (keeps_monitor name names) (monitor_none (SaidNotify opts) slot) (λ value. tt)

said_none : (tool : Option SaidTool) (names : Names) (slot : ℕ) (words : List Span) → AsksNoChips (starts_said tool names slot words)
said_none None names slot words = tt
said_none (Some tool) names slot words = starts_tool_none tool names slot (text_at 1 words)

starts_none : (taken : Bool) (names : Names) (slot : ℕ) (words : List Span) → AsksNoChips (starts taken names slot words)
starts_none true names slot words = tt
starts_none false names slot words = said_none (tool_said (word_texts (behind_two words))) names slot words

steps_none : (watched : Option Watched) (held : Option Held) (names : Names) (words : List Span) → AsksNoChips (steps watched held names words)
steps_none None None names words = tt
steps_none None (Some held) names words = tt
steps_none (Some watched) held names words =
    let turns = turns_word (text_at 2 words) in
    asks_then (steps_held watched turns) (keeps_monitor (text_at 1 words) (without_monitor (text_at 1 words) names)) (stepped_none watched turns) (λ value. tt)

stops_none : (watched : Option Watched) (held : Option Held) (names : Names) (words : List Span) → AsksNoChips (stops watched held names words)
stops_none None None names words = tt
stops_none None (Some held) names words =
    asks_then (stops_holding held) (keeps_set (text_at 1 words) (without_set (text_at 1 words) names)) (held_stops_none held) (λ value. tt)
stops_none (Some watched) held names words =
    asks_then (stops_watching watched) (keeps_monitor (text_at 1 words) (without_monitor (text_at 1 words) names)) (watched_stops_none watched) (λ value. tt)

kind_none : (kind : StatementKind) (names : Names) (slot : ℕ) (words : List Span) → words_aggregate words ≡ false → AsksNoChips (does_by kind names slot words)
kind_none Plain names slot words is = acts_none (action_here names.in_setup names.files slot words) names slot words (here_plain names slot words is)
kind_none ToolAlone names slot words is = runs_none (tool_said (word_texts words)) names slot words
kind_none Starting names slot words is = starts_none (has_tool (text_at 1 words) names) names slot words
kind_none Stepping names slot words is = steps_none (watched_of_name (text_at 1 words) names.monitors) (held_of_name (text_at 1 words) names.sets) names words
kind_none Stopping names slot words is = stops_none (watched_of_name (text_at 1 words) names.monitors) (held_of_name (text_at 1 words) names.sets) names words

-- the end
closes_none : (slots : List ℕ) → AsksNoChips (closes_all slots)
closes_none [] = tt
closes_none (slot ∷ slots) = (tt, λ got. closes_none slots)

pub end_none : (names : Names) → AsksNoChips (quits names)
end_none names = closes_none (slots_in_order names)

pub neither : (b c : Bool) → (b || c) ≡ false → (b ≡ false) × (c ≡ false)
neither true c none = absurd (true≢false none)
neither false c none = (refl, none)

-- statements in a row, none of them `aggregate`, where what comes after them asks for none either
pub says_none : {A : Type 0} (begun : ℕ) (statements : List (List Span)) (behind : Names → Program A) → list_any words_aggregate statements ≡ false → ((names : Names) → AsksNoChips (behind names)) → (names : Names)
    → AsksNoChips (says begun statements behind names)
says_none begun [] behind none h names = h names
says_none begun (words ∷ statements) behind none h names = let both = neither (words_aggregate words) (list_any words_aggregate statements) none in
    asks_then (does names (slot_behind begun) words) (says (begun + 1) statements behind) (kind_none (kind_of (keyword_of (text_at 0 words))) names (slot_behind begun) words both.0)
    (λ after. says_none (begun + 1) statements behind both.1 h after)
