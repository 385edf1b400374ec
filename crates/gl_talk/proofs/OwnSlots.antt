-- Behind a statement no file is open but in slots that were open before it and in the statement's own.
use Rattle.std.proofs.Common.{◌≡◌, ◌+◌, ℕ, Bool, true, false, cond, List, [], ◌∷◌, ◌++◌, Option, None, Some, refl, subst}
use Rattle.std.specs.Prelude.{find, option_map}
use Rattle.gl_base.specs.Operation.{refusal}
use Rattle.gl_base.specs.Rows.{Each, without_first}
use Rattle.gl_base.specs.Words.{Span, text_at}
use Rattle.gl_base.specs.declared.errno.Errno.{Errno}
use Rattle.gl_base.specs.declared.operation.Got.{Got}
use Rattle.gl_base.proofs.FirstRows.{Each-push, Each-without_first}
use Rattle.gl_client.specs.Gives.{Gives}
use Rattle.gl_args.specs.Options.{SaidTool, SaidDetect, SaidInfo, SaidGet, SaidSet, SaidWatch, SaidNotify}
use Rattle.gl_client.specs.Program.{done, then_by}
use Rattle.gl_args.specs.Tools.{tool_said}
use Rattle.gl_client.proofs.Costs.{gives_any, gives_then}
use Rattle.gl_lines.specs.OwnSlots.{SlotPasses}
use Rattle.gl_monitor.specs.Monitor.{Watched, monitor_program, steps_held}
use Rattle.gl_monitor.specs.Monitor.{stops as stops_watching}
use Rattle.gl_monitor.specs.WatchedSlots.{WatchedPasses}
use Rattle.gl_monitor.proofs.MonitorSlots.{monitor_slots, stepped_slots}
use Rattle.gl_monitor.proofs.MonitorSlots.{stopped_slots as watching_stopped}
use Rattle.gl_script.specs.Table.{keyword_of}
use Rattle.gl_talk.specs.declared.files.TalkFileKind.{TalkFileKind}
use Rattle.gl_talk.specs.declared.files.TalkFileKind.TheVariants.{Chip, Request}
use Rattle.gl_talk.specs.Formats.{Action, Nothing, Refuse, Ask, ResultFormat, Silent, Value, Level, Bytes, Edges, Infos, Ready, Opened, Closed, Made, OldBytes, OldEdges, OldMade}
use Rattle.gl_talk.specs.declared.tools.StatementKind.{StatementKind}
use Rattle.gl_talk.specs.declared.tools.StatementKind.TheVariants.{Plain, ToolAlone, Starting, Stepping, Stopping}
use Rattle.gl_talk.specs.Old.{made_kind, old_command_word}
use Rattle.gl_talk.specs.Open.{File, MonitorTool, Names, SetTool, has_tool, held_of_name, is_file, is_monitor, is_set, watched_of_name, without_monitor, without_set}
use Rattle.gl_talk.specs.Actions.{action_here}
use Rattle.gl_talk.specs.Slots.{OpenPass, SlotsAreOwn}
use Rattle.gl_talk.specs.Talk.{acts, does_by, file, keeps_monitor, keeps_set, replied_by, runs, starts, starts_said, starts_tool, steps, stops}
use Rattle.gl_talk.specs.ToolWords.{kind_of, word_texts}
use Rattle.gl_talk.specs.Words.{behind_three, behind_two, bytes_said, made_name, name_word, turns_word}
use Rattle.gl_values.specs.Client.{held_program, tool_program}
use Rattle.gl_values.specs.Set.{Held}
use Rattle.gl_values.specs.Set.{stops as stops_holding}
use Rattle.gl_values.proofs.ToolSlots.{held_slots}
use Rattle.gl_values.proofs.ToolSlots.{stopped_slots as holding_stopped}

module _ (test : ℕ → Bool) where
  -- what a tool of a name keeps passes, where all do
  found_if : {X Y : Type 0} (P : Y → Type 0) (f : X → Y) (b : Bool) (x : X) (o : Option X) (y : Y) → option_map f (cond b (Some x) o) ≡ Some y → P (f x) → (option_map f o ≡ Some y → P y) → P y
  found_if P f true x o y e p h = let same : f x ≡ y = cc in subst P same p
  found_if P f false x o y e p h = h e

  found_passes : {X Y : Type 0} (P : Y → Type 0) (f : X → Y) (is_one : X → Bool) (xs : List X) (y : Y) → option_map f (find is_one xs) ≡ Some y → Each (λ x. P (f x)) xs → P y
  found_passes P f is_one [] y e h = cc
  found_passes P f is_one (x ∷ xs) y e h = found_if P f (is_one x) x (find is_one xs) y e h.0 (λ more. found_passes P f is_one xs y more h.1)

  keeps_set_pass : (names : Names) (name : List ℕ) (held : Held) → OpenPass test names → SlotPasses test held → Gives (OpenPass test) (keeps_set name names held)
  keeps_set_pass names name None held_open h = held_open
  keeps_set_pass names name (Some slot) held_open h =
      record { files = held_open.files; sets = Each-push (λ (tool : SetTool). SlotPasses test tool.held) names.sets (record { name = name_word name; held = Some slot }) held_open.sets h; monitors = held_open.monitors }

  keeps_monitor_pass : (names : Names) (name : List ℕ) (watched : Watched) → OpenPass test names → WatchedPasses test watched → Gives (OpenPass test) (keeps_monitor name names watched)
  keeps_monitor_pass names name None held_open h = held_open
  keeps_monitor_pass names name (Some w) held_open h = record {
    files = held_open.files;
    sets = held_open.sets;
    monitors = Each-push (λ (tool : MonitorTool). WatchedPasses test tool.watched) names.monitors (record { name = name_word name; watched = Some w }) held_open.monitors h;
  }

  without_set_pass : (names : Names) (name : List ℕ) → OpenPass test names → OpenPass test (without_set name names)
  without_set_pass names name held_open =
      record { files = held_open.files; sets = Each-without_first (λ (tool : SetTool). SlotPasses test tool.held) (is_set name) names.sets held_open.sets; monitors = held_open.monitors }

  without_monitor_pass : (names : Names) (name : List ℕ) → OpenPass test names → OpenPass test (without_monitor name names)
  without_monitor_pass names name held_open =
      record { files = held_open.files; sets = held_open.sets; monitors = Each-without_first (λ (tool : MonitorTool). WatchedPasses test tool.watched) (is_monitor name) names.monitors held_open.monitors }

  module _ (names : Names) (slot : ℕ) (held_open : OpenPass test names) (own : test slot ≡ true) (next : test (slot + 1) ≡ true) where
    file_more : (name : List ℕ) (kind : TalkFileKind) → OpenPass test (record names { files = names.files ++ file name slot kind ∷ [] })
    file_more name kind =
        record { files = Each-push (λ (f : File). test f.slot ≡ true) names.files (file name slot kind) held_open.files own; sets = held_open.sets; monitors = held_open.monitors }

    file_less : (name : List ℕ) → OpenPass test (record names { files = without_first (is_file name) names.files })
    file_less name = record { files = Each-without_first (λ (f : File). test f.slot ≡ true) (is_file name) names.files held_open.files; sets = held_open.sets; monitors = held_open.monitors }

    replied_pass : (fault : Option Errno) (reply : ResultFormat) (words : List Span) (got : Got) → Gives (OpenPass test) (replied_by fault reply names slot words got)
    replied_pass (Some errno) reply words got = held_open
    replied_pass None Silent words got = held_open
    replied_pass None Value words got = held_open
    replied_pass None (Level is_pull) words got = held_open
    replied_pass None Bytes words got = held_open
    replied_pass None Edges words got = held_open
    replied_pass None Infos words got = held_open
    replied_pass None Ready words got = held_open
    replied_pass None Opened words got = file_more (text_at 1 words) Chip
    replied_pass None Closed words got = file_less (text_at 1 words)
    replied_pass None Made words got = file_more (made_name words) Request
    replied_pass None (OldBytes kind) words got = held_open
    replied_pass None OldEdges words got = held_open
    replied_pass None OldMade words got = file_more (made_name words) (made_kind (old_command_word (text_at 2 words)) (bytes_said (behind_three words)))

    acts_pass : (action : Action) (words : List Span) → Gives (OpenPass test) (acts action names slot words)
    acts_pass Nothing words = held_open
    acts_pass (Refuse errno) words = held_open
    acts_pass (Ask what reply) words = λ got. replied_pass (refusal got) reply words got

    runs_pass : (tool : Option SaidTool) (words : List Span) → Gives (OpenPass test) (runs tool names slot words)
    runs_pass None words = held_open
    runs_pass (Some tool) words = gives_any (OpenPass test) (tool_program tool slot) (λ _. done names) (λ held. held_open)

    set_started : (tool : SaidTool) (name : List ℕ) → Gives (OpenPass test) (then_by (held_program tool slot) (keeps_set name names))
    set_started tool name =
        gives_then (SlotPasses test) (OpenPass test) (held_program tool slot) (keeps_set name names) (held_slots test tool slot next) (λ held h. keeps_set_pass names name held held_open h)

    monitor_started : (tool : SaidTool) (name : List ℕ) → Gives (OpenPass test) (then_by (monitor_program tool slot) (keeps_monitor name names))
    monitor_started tool name =
        gives_then (WatchedPasses test) (OpenPass test) (monitor_program tool slot) (keeps_monitor name names) (monitor_slots test tool slot own next)
        (λ watched h. keeps_monitor_pass names name watched held_open h)

    starts_tool_pass : (tool : SaidTool) (name : List ℕ) → Gives (OpenPass test) (starts_tool tool names slot name)
    starts_tool_pass (SaidDetect texts) name = held_open
    starts_tool_pass (SaidInfo opts) name = held_open
    starts_tool_pass (SaidGet opts) name = held_open
    starts_tool_pass (SaidSet opts) name = set_started (SaidSet opts) name
    starts_tool_pass (SaidWatch opts) name = monitor_started (SaidWatch opts) name
    starts_tool_pass (SaidNotify opts) name = monitor_started (SaidNotify opts) name

    said_pass : (tool : Option SaidTool) (words : List Span) → Gives (OpenPass test) (starts_said tool names slot words)
    said_pass None words = held_open
    said_pass (Some tool) words = starts_tool_pass tool (text_at 1 words)

    starts_pass : (taken : Bool) (words : List Span) → Gives (OpenPass test) (starts taken names slot words)
    starts_pass true words = held_open
    starts_pass false words = said_pass (tool_said (word_texts (behind_two words))) words

    watched_pass : (name : List ℕ) (watched : Watched) → watched_of_name name names.monitors ≡ Some watched → WatchedPasses test watched
    watched_pass name watched e = found_passes (WatchedPasses test) (λ (tool : MonitorTool). tool.watched) (is_monitor name) names.monitors watched e held_open.monitors

    steps_pass : (watched : Option Watched) (held : Option Held) (words : List Span) → watched_of_name (text_at 1 words) names.monitors ≡ watched
        → Gives (OpenPass test) (steps watched held names words)
    steps_pass None None words e = held_open
    steps_pass None (Some held) words e = held_open
    steps_pass (Some watched) held words e =
        let name = text_at 1 words in
        let turns = turns_word (text_at 2 words) in
        gives_then (WatchedPasses test) (OpenPass test) (steps_held watched turns) (keeps_monitor name (without_monitor name names)) (stepped_slots test watched turns (watched_pass name watched e))
        (λ after h. keeps_monitor_pass (without_monitor name names) name after (without_monitor_pass names name held_open) h)

    stops_pass : (watched : Option Watched) (held : Option Held) (words : List Span) → Gives (OpenPass test) (stops watched held names words)
    stops_pass None None words = held_open
    stops_pass None (Some held) words =
        let name = text_at 1 words in
        gives_then (SlotPasses test) (OpenPass test) (stops_holding held) (keeps_set name (without_set name names)) (holding_stopped test held)
        (λ after h. keeps_set_pass (without_set name names) name after (without_set_pass names name held_open) h)
    stops_pass (Some watched) held words =
        let name = text_at 1 words in
        gives_then (WatchedPasses test) (OpenPass test) (stops_watching watched) (keeps_monitor name (without_monitor name names)) (watching_stopped test watched)
        (λ after h. keeps_monitor_pass (without_monitor name names) name after (without_monitor_pass names name held_open) h)

    kind_pass : (kind : StatementKind) (words : List Span) → Gives (OpenPass test) (does_by kind names slot words)
    kind_pass Plain words = acts_pass (action_here names.in_setup names.files slot words) words
    kind_pass ToolAlone words = runs_pass (tool_said (word_texts words)) words
    kind_pass Starting words = starts_pass (has_tool (text_at 1 words) names) words
    kind_pass Stepping words = steps_pass (watched_of_name (text_at 1 words) names.monitors) (held_of_name (text_at 1 words) names.sets) words refl
    kind_pass Stopping words = stops_pass (watched_of_name (text_at 1 words) names.monitors) (held_of_name (text_at 1 words) names.sets) words

pub slots_are_own : SlotsAreOwn
slots_are_own test names slot words held_open own next = kind_pass test names slot held_open own next (kind_of (keyword_of (text_at 0 words))) words
