-- What a statement asks costs no more than the statement, and a talk no more than its statements.
use Rattle.std.proofs.Common.{◌≡◌, ◌≤◌, ◌+◌, ◌-◌, ℕ, suc, Bool, true, false, cond, List, [], ◌∷◌, length, Option, None, Some, refl, sym, subst, arith}
use Rattle.std.specs.List.{list_any}
use Rattle.std.specs.Prelude.{if◌then◌else◌, ◌==◌, nat_lt, is_some, not, sum_by}
use Rattle.std.proofs.Math.Nat.{le_refl}
use Rattle.std.proofs.lemmas.List.Sums.{sum_by-cons}
use Rattle.gl_base.specs.CommandWord.{command_number_of}
use Rattle.gl_base.specs.Operation.{refusal}
use Rattle.gl_base.specs.Words.{Span, text_at}
use Rattle.gl_base.specs.declared.errno.Errno.{Errno}
use Rattle.gl_base.specs.declared.operation.Got.{Got}
use Rattle.gl_client.specs.Costs.{CostsAtMost, entries_of, command_entries}
use Rattle.gl_args.specs.Options.{SaidTool, SaidDetect, SaidInfo, SaidGet, SaidSet, SaidWatch, SaidNotify}
use Rattle.gl_client.specs.Program.{Program, done, then_by}
use Rattle.gl_args.specs.Tools.{tool_said}
use Rattle.gl_client.proofs.Costs.{costs_more, costs_then}
use Rattle.gl_monitor.specs.Costs.{monitor_cost}
use Rattle.gl_monitor.specs.Monitor.{Watched, monitor_program, steps_held}
use Rattle.gl_monitor.specs.Monitor.{stops as stops_watching}
use Rattle.gl_monitor.proofs.MonitorCosts.{monitor_within}
use Rattle.gl_monitor.proofs.MonitorCosts.{held_within as steps_within, stops_within as watched_stops_within}
use Rattle.gl_script.specs.Cost.{cost, cost_by, start_cost, words_cost}
use Rattle.gl_script.specs.Faults.{is_get_line}
use Rattle.gl_script.specs.Table.{keyword_of}
use Rattle.gl_script.specs.declared.table.Keyword.{Keyword}
use Rattle.gl_script.specs.declared.table.Keyword.TheVariants.{Probe, Unplug, MakeDir, RemoveDir, Write, Read, Clock, Fault, Accept, Aggregate, Pin, Irq, Open, Ioctl, Events, OldIoctl, OldEvents, Changes, Poll, Close, Detect, Info, Get, Set, Start, Step, Stop}
use Rattle.gl_v1.specs.declared.commands.CommandV1.{CommandV1}
use Rattle.gl_v1.specs.declared.commands.CommandV1.TheVariants.{ChipInfo, LineInfo, LineHandle, LineEvent, GetValues, SetValues, SetConfig}
use Rattle.gl_v1.specs.declared.commands.KindV1.TheVariants.{Chip as OldChip, Handle, Event}
use Rattle.gl_v1.specs.declared.sending.Sent.{Sent}
use Rattle.gl_v1.specs.Commands.{command_for, sent_as, size_of}
use Rattle.gl_v1.specs.To.{sent_for, sent_if, whole, without_bytes}
use Rattle.gl_v1.specs.Words.{makes as makes_old, makes_file as makes_old_file, old_number_of}
use Rattle.gl_script.specs.declared.limits.TheConstants.{JOINED_MAX}
use Rattle.gl_talk.specs.declared.files.TalkFileKind.{TalkFileKind}
use Rattle.gl_talk.specs.declared.files.TalkFileKind.TheVariants.{Chip, Request, Old}
use Rattle.gl_talk.specs.declared.paths.LineFile.{LineFile}
use Rattle.gl_talk.specs.Formats.{Action, Nothing, Refuse, Ask, ResultFormat, Silent, Value, Level, Bytes, Edges, Infos, Ready, Opened, Closed, Made, OldBytes, OldEdges, OldMade}
use Rattle.gl_talk.specs.declared.tools.StatementKind.TheVariants.{Plain}
use Rattle.gl_talk.specs.Costs.{StatementsKeepWithinCost, TalksKeepWithinCost}
use Rattle.gl_talk.specs.Old.{sent_new, sent_old, takes_old_name}
use Rattle.gl_talk.specs.Open.{File, Names, file_of, has_tool, held_of_name, is_chip, is_chip_file, is_old_event, is_request, watched_of_name, slots_in_order, without_monitor, without_set}
use Rattle.gl_talk.specs.Paths.{line_file, live_device}
use Rattle.gl_talk.specs.Actions.{aggregates, closes, files_named, ioctls, irqs, is_out_of_place, lives, old_ioctls, only_in_setup, opens, pins, action_of, polls, pulls, reads, reads_file, takes_name, unplugs, writes, writes_tree}
use Rattle.gl_talk.specs.Talk.{acts, closes_all, does, does_by, keeps_monitor, keeps_set, replied_by, runs, quits, says, slot_behind, starts, starts_said, starts_tool, steps, stops}
use Rattle.gl_talk.specs.ToolWords.{kind_of, word_texts}
use Rattle.gl_talk.specs.Words.{behind_three, behind_two, bytes_said, label_word, live_word, or_else, place_word, pull_word, turns_word}
use Rattle.gl_talk.proofs.ToolParts.{detect_said, get_said, info_said, set_said, started_cost, started_fits}
use Rattle.gl_values.specs.Client.{held_program, tool_program}
use Rattle.gl_values.specs.Costs.{held_cost, tool_cost}
use Rattle.gl_values.specs.Set.{Held}
use Rattle.gl_values.specs.Set.{stops as stops_holding}
use Rattle.gl_values.proofs.ToolCosts.{held_within, tool_within}
use Rattle.gl_values.proofs.ToolCosts.{stops_within as held_stops_within}

-- the operation of an action, if it asks one, makes at most so many entries
abbrev ActionCosts : ℕ → Action → Type 0
ActionCosts n Nothing = Unit {0}
ActionCosts n (Refuse errno) = Unit {0}
ActionCosts n (Ask what reply) = entries_of what ≤ n

one_of_two : 1 ≤ 2
one_of_two = omega arith

one_of_three : 1 ≤ 3
one_of_three = omega arith

action_if : (n : ℕ) (test : Bool) (a b : Action) → ActionCosts n a → ActionCosts n b → ActionCosts n (if test then a else b)
action_if n true a b p q = p
action_if n false a b p q = q

-- what is told of a result asks nothing
told_free : (n : ℕ) (fault : Option Errno) (reply : ResultFormat) (names : Names) (slot : ℕ) (words : List Span) (got : Got) → CostsAtMost n (replied_by fault reply names slot words got)
told_free n (Some errno) reply names slot words got = tt
told_free n None Silent names slot words got = tt
told_free n None Value names slot words got = tt
told_free n None (Level is_pull) names slot words got = tt
told_free n None Bytes names slot words got = tt
told_free n None Edges names slot words got = tt
told_free n None Infos names slot words got = tt
told_free n None Ready names slot words got = tt
told_free n None Opened names slot words got = tt
told_free n None Closed names slot words got = tt
told_free n None Made names slot words got = tt
told_free n None (OldBytes kind) names slot words got = tt
told_free n None OldEdges names slot words got = tt
told_free n None OldMade names slot words got = tt

acts_cost : (n : ℕ) (action : Action) (names : Names) (slot : ℕ) (words : List Span) → ActionCosts n action → CostsAtMost n (acts action names slot words)
acts_cost n Nothing names slot words h = tt
acts_cost n (Refuse errno) names slot words h = tt
acts_cost n (Ask what reply) names slot words h = (h, λ got. told_free (n - entries_of what) (refusal got) reply names slot words got)

unplugs_cost : (place : ℕ) → ActionCosts 2 (unplugs place)
unplugs_cost place = le_refl 2

pins_cost : (place : ℕ) (words : List Span) → ActionCosts 1 (pins place words)
pins_cost place words = le_refl 1

irqs_cost : (place : ℕ) (words : List Span) → ActionCosts 1 (irqs place words)
irqs_cost place words = le_refl 1

reads_cost : (file : Option LineFile) (path : List ℕ) → ActionCosts 1 (reads file path)
reads_cost None path = le_refl 1
reads_cost (Some file) path = le_refl 1

pulls_cost : (file : LineFile) (up : Option Bool) → ActionCosts 2 (pulls file up)
pulls_cost file None = tt
pulls_cost file (Some up) = one_of_two

lives_cost : (device : List ℕ) (up : Option Bool) → ActionCosts 2 (lives device up)
lives_cost device None = tt
lives_cost device (Some up) = le_refl 2

tree_cost : (device : Option (List ℕ)) (path value : List ℕ) → ActionCosts 2 (writes_tree device path value)
tree_cost None path value = one_of_two
tree_cost (Some device) path value = lives_cost device (live_word value)

writes_cost : (file : Option LineFile) (path value : List ℕ) → ActionCosts 2 (writes file path value)
writes_cost None path value = tree_cost (live_device path) path value
writes_cost (Some file) path value = action_if 2 file.is_pull _ _ (pulls_cost file (pull_word value)) tt

opens_cost : (taken : Bool) (slot : ℕ) (word : List ℕ) → ActionCosts 2 (opens taken slot word)
opens_cost true slot word = tt
opens_cost false slot word = le_refl 2

aggregates_cost : (label : List ℕ) (named : List (Option File)) → ActionCosts 1 (aggregates label named)
aggregates_cost label named =
    action_if 1 (list_any (λ file. not (is_some file)) named) _ _ tt (action_if 1 (list_any is_chip_file named) _ _ tt (le_refl 1))

file_cost : (file : Option File) (can_be_read : TalkFileKind → Bool) (len : ℕ) (reply : ResultFormat) → ActionCosts 1 (reads_file file can_be_read len reply)
file_cost None can_be_read len reply = tt
file_cost (Some file) can_be_read len reply = action_if 1 (can_be_read file.kind) _ _ (le_refl 1) tt

polls_cost : (file : Option File) → ActionCosts 1 (polls file)
polls_cost None = tt
polls_cost (Some file) = le_refl 1

closes_cost : (file : Option File) → ActionCosts 0 (closes file)
closes_cost None = tt
closes_cost (Some file) = le_refl 0

-- a command's entries
two_if : (a b c : Bool) → cond a 2 (cond b 2 (cond c 2 1)) ≤ 2
two_if true b c = le_refl 2
two_if false true c = le_refl 2
two_if false false true = le_refl 2
two_if false false false = one_of_two

three_if : (get a b c : Bool) → cond get 3 (cond a 2 (cond b 2 (cond c 2 1))) ≤ cond get 3 2
three_if true a b c = le_refl 3
three_if false a b c = two_if a b c

entries_fit : (number : Option ℕ) → command_entries (or_else 0 number) ≤ (if is_get_line number then 3 else 2)
entries_fit None = one_of_two
entries_fit (Some number) = three_if (number == 0xC250B407) (number == 0xC110B40D) (number == 0xC010B40E) (number == 0xC010B40F)

-- what is sent makes no more entries than the command that was said; no command makes one
none_fits : (b : Bool) → 1 ≤ cond b 3 2
none_fits true = one_of_three
none_fits false = one_of_two

two_fits : (b : Bool) (n : ℕ) → n ≤ 2 → n ≤ cond b 3 2
two_fits true n h = omega (arith, h)
two_fits false n h = h

new_fits : (kind : TalkFileKind) (number : Option ℕ) (bytes : List ℕ) → command_entries (sent_new kind (or_else 0 number) bytes).cmd ≤ (if is_get_line number then 3 else 2)
new_fits Chip number bytes = entries_fit number
new_fits Request number bytes = entries_fit number
new_fits (Old kind) number bytes = none_fits (is_get_line number)

cmd_if : (b : Bool) (x y : Sent) (n : ℕ) → x.cmd ≡ n → y.cmd ≡ n → (if b then x else y).cmd ≡ n
cmd_if true x y n p q = p
cmd_if false x y n p q = q

pub sent_cmd : (command : CommandV1) (lines : ℕ) (bytes : List ℕ) → (sent_for command lines bytes).cmd ≡ sent_as command
sent_cmd command lines bytes = cmd_if (nat_lt (length bytes) (size_of command)) (without_bytes (sent_as command)) (whole command lines bytes) (sent_as command) refl refl

by_command : (command : CommandV1) → command_entries (sent_as command) ≤ cond (makes_old (Some command)) 3 2
by_command ChipInfo = omega arith
by_command LineInfo = omega arith
by_command LineHandle = omega arith
by_command LineEvent = omega arith
by_command GetValues = omega arith
by_command SetValues = omega arith
by_command SetConfig = omega arith

chip_fits : (command : Option CommandV1) (lines : ℕ) (bytes : List ℕ) → command_entries (sent_if command lines bytes).cmd ≤ cond (makes_old command) 3 2
chip_fits None lines bytes = omega arith
chip_fits (Some command) lines bytes = subst (λ n. command_entries n ≤ cond (makes_old (Some command)) 3 2) (sym (sent_cmd command lines bytes)) (by_command command)

command_fits : (command : CommandV1) (lines : ℕ) (bytes : List ℕ) → command_entries (sent_as command) ≤ 2 → command_entries (sent_if (Some command) lines bytes).cmd ≤ 2
command_fits command lines bytes h = subst (λ n. command_entries n ≤ 2) (sym (sent_cmd command lines bytes)) h

handle_fits : (a b c : Bool) (lines : ℕ) (bytes : List ℕ)
    → command_entries (sent_if (cond a (Some GetValues) (cond b (Some SetValues) (cond c (Some SetConfig) None))) lines bytes).cmd ≤ 2
handle_fits true b c lines bytes = command_fits GetValues lines bytes (omega arith)
handle_fits false true c lines bytes = command_fits SetValues lines bytes (omega arith)
handle_fits false false true lines bytes = command_fits SetConfig lines bytes (omega arith)
handle_fits false false false lines bytes = omega arith

event_fits : (a : Bool) (bytes : List ℕ) → command_entries (sent_if (cond a (Some GetValues) None) 1 bytes).cmd ≤ 2
event_fits true bytes = command_fits GetValues 1 bytes (omega arith)
event_fits false bytes = omega arith

old_fits_some : (kind : TalkFileKind) (number : ℕ) (bytes : List ℕ) → command_entries (sent_old kind number bytes).cmd ≤ cond (makes_old (command_for OldChip number)) 3 2
old_fits_some Chip number bytes = chip_fits (command_for OldChip number) 0 bytes
old_fits_some Request number bytes = none_fits (makes_old (command_for OldChip number))
old_fits_some (Old OldChip) number bytes = chip_fits (command_for OldChip number) 0 bytes
old_fits_some (Old (Handle lines)) number bytes =
    two_fits (makes_old (command_for OldChip number)) _ (handle_fits (0xC040B408 == number) (0xC040B409 == number) (0xC054B40A == number) lines bytes)
old_fits_some (Old Event) number bytes = two_fits (makes_old (command_for OldChip number)) _ (event_fits (0xC040B408 == number) bytes)

old_fits : (kind : TalkFileKind) (number : Option ℕ) (bytes : List ℕ) → command_entries (sent_old kind (or_else 0 number) bytes).cmd ≤ (if makes_old_file number then 3 else 2)
old_fits Chip None bytes = omega arith
old_fits Request None bytes = omega arith
old_fits (Old OldChip) None bytes = omega arith
old_fits (Old (Handle lines)) None bytes = omega arith
old_fits (Old Event) None bytes = omega arith
old_fits kind (Some number) bytes = old_fits_some kind number bytes

old_ioctls_cost : (file : Option File) (taken : Bool) (slot : ℕ) (first : Span) (words : List Span) → ActionCosts (cost OldIoctl words) (old_ioctls file taken slot (first ∷ words))
old_ioctls_cost None taken slot first words = tt
old_ioctls_cost (Some file) taken slot first words =
    action_if (cost OldIoctl words) taken _ _ tt (old_fits file.kind (old_number_of (text_at 1 words)) (bytes_said (behind_three (first ∷ words))))

ioctls_cost : (file : Option File) (taken : Bool) (slot : ℕ) (first : Span) (words : List Span) → ActionCosts (cost Ioctl words) (ioctls file taken slot (first ∷ words))
ioctls_cost None taken slot first words = tt
ioctls_cost (Some file) taken slot first words = action_if (cost Ioctl words) taken _ _ tt (new_fits file.kind (command_number_of (text_at 1 words)) (bytes_said (behind_three (first ∷ words))))

action_cost : (keyword : Keyword) (files : List File) (slot : ℕ) (first : Span) (words : List Span) → ActionCosts (cost keyword words) (action_of (Some keyword) files slot (first ∷ words))
action_cost Probe files slot first words = le_refl 1
action_cost Unplug files slot first words = unplugs_cost (place_word (text_at 0 words))
action_cost MakeDir files slot first words = le_refl 1
action_cost RemoveDir files slot first words = le_refl 1
action_cost Write files slot first words = writes_cost (line_file (text_at 0 words)) (text_at 0 words) (label_word (text_at 1 words))
action_cost Read files slot first words = reads_cost (line_file (text_at 0 words)) (text_at 0 words)
action_cost Clock files slot first words = le_refl 1
action_cost Fault files slot first words = le_refl 0
action_cost Accept files slot first words = le_refl 0
action_cost Aggregate files slot first words = aggregates_cost (label_word (text_at 0 words)) (files_named JOINED_MAX (behind_two (first ∷ words)) files)
action_cost Pin files slot first words = pins_cost (place_word (text_at 1 words)) (first ∷ words)
action_cost Irq files slot first words = irqs_cost (place_word (text_at 1 words)) (first ∷ words)
action_cost Open files slot first words = opens_cost (is_some (file_of (text_at 0 words) files)) slot (text_at 1 words)
action_cost Ioctl files slot first words = ioctls_cost (file_of (text_at 0 words) files) (takes_name (first ∷ words) files) slot first words
action_cost Events files slot first words = file_cost (file_of (text_at 0 words) files) is_request _ Edges
action_cost OldIoctl files slot first words = old_ioctls_cost (file_of (text_at 0 words) files) (takes_old_name (first ∷ words) files) slot first words
action_cost OldEvents files slot first words = file_cost (file_of (text_at 0 words) files) is_old_event _ OldEdges
action_cost Changes files slot first words = file_cost (file_of (text_at 0 words) files) is_chip _ Infos
action_cost Poll files slot first words = polls_cost (file_of (text_at 0 words) files)
action_cost Close files slot first words = closes_cost (file_of (text_at 0 words) files)
action_cost keyword files slot first words = tt

-- a tool's statement
runs_cost : (most : ℕ) (tool : Option SaidTool) (names : Names) (slot : ℕ) (first : Span) (words : List Span)
    → ((said : SaidTool) → tool_said (word_texts (first ∷ words)) ≡ Some said → tool_cost said ≤ most) → tool_said (word_texts (first ∷ words)) ≡ tool
    → CostsAtMost most (runs tool names slot (first ∷ words))
runs_cost most None names slot first words fits s = tt
runs_cost most (Some tool) names slot first words fits s =
    costs_more (runs (Some tool) names slot (first ∷ words)) (tool_cost tool + 0) most (omega (arith, fits tool s))
    (costs_then (tool_program tool slot) (λ _. done names) (tool_cost tool) 0 (tool_within tool slot) (λ value. tt))

-- a tool that is started
starts_tool_cost : (tool : SaidTool) (names : Names) (slot : ℕ) (name : List ℕ) → CostsAtMost (started_cost tool) (starts_tool tool names slot name)
starts_tool_cost (SaidDetect texts) names slot name = tt
starts_tool_cost (SaidInfo opts) names slot name = tt
starts_tool_cost (SaidGet opts) names slot name = tt
starts_tool_cost (SaidSet opts) names slot name =
    costs_more (starts_tool (SaidSet opts) names slot name) (held_cost (SaidSet opts) + 0) (started_cost (SaidSet opts)) (omega arith)
    (costs_then (held_program (SaidSet opts) slot) (keeps_set name names) (held_cost (SaidSet opts)) 0 (held_within (SaidSet opts) slot) (λ value. tt))
starts_tool_cost (SaidWatch opts) names slot name =
    costs_more (starts_tool (SaidWatch opts) names slot name) (monitor_cost (SaidWatch opts) + 0) (started_cost (SaidWatch opts)) (omega arith)
    (costs_then (monitor_program (SaidWatch opts) slot) (keeps_monitor name names) (monitor_cost (SaidWatch opts)) 0 (monitor_within (SaidWatch opts) slot) (λ value. tt))
starts_tool_cost (SaidNotify opts) names slot name =
    costs_more (starts_tool (SaidNotify opts) names slot name) (monitor_cost (SaidNotify opts) + 0) (started_cost (SaidNotify opts)) (omega arith)
    (costs_then (monitor_program (SaidNotify opts) slot) (keeps_monitor name names) (monitor_cost (SaidNotify opts)) 0 (monitor_within (SaidNotify opts) slot) (λ value. tt))

said_cost : (tool : Option SaidTool) (names : Names) (slot : ℕ) (first name word : Span) (words : List Span) → tool_said (word_texts (word ∷ words)) ≡ tool
    → CostsAtMost (start_cost word.text (length words)) (starts_said tool names slot (first ∷ name ∷ word ∷ words))
said_cost None names slot first name word words e = tt
said_cost (Some tool) names slot first name word words e =
    costs_more (starts_tool tool names slot name.text) (started_cost tool) (start_cost word.text (length words)) (started_fits word words tool e) (starts_tool_cost tool names slot name.text)

words_start : (names : Names) (slot : ℕ) (first : Span) (words : List Span)
    → CostsAtMost (cost Start words) (starts_said (tool_said (word_texts (behind_two (first ∷ words)))) names slot (first ∷ words))
words_start names slot first [] = tt
words_start names slot first (name ∷ []) = tt
words_start names slot first (name ∷ word ∷ words) =
    costs_more (starts_said (tool_said (word_texts (word ∷ words))) names slot (first ∷ name ∷ word ∷ words)) (start_cost word.text (length words)) (cost Start (name ∷ word ∷ words))
    (same_count word.text (length words)) (said_cost (tool_said (word_texts (word ∷ words))) names slot first name word words refl)
  where
    same_count : (text : List ℕ) (n : ℕ) → start_cost text n ≤ start_cost text (suc (suc n) - 2)
    same_count text n =
        let same : n ≡ suc (suc n) - 2 = omega arith in
        subst (λ m. start_cost text n ≤ start_cost text m) same (omega arith)

starts_cost : (taken : Bool) (names : Names) (slot : ℕ) (first : Span) (words : List Span) → CostsAtMost (cost Start words) (starts taken names slot (first ∷ words))
starts_cost true names slot first words = tt
starts_cost false names slot first words = words_start names slot first words

-- a step, and a stop
steps_cost : (watched : Option Watched) (held : Option Held) (names : Names) (first : Span) (words : List Span) → CostsAtMost (cost Step words) (steps watched held names (first ∷ words))
steps_cost None None names first words = tt
steps_cost None (Some held) names first words = tt
steps_cost (Some watched) held names first words =
    let turns = turns_word (text_at 1 words) in
    let behind = keeps_monitor (text_at 0 words) (without_monitor (text_at 0 words) names) in
    costs_more (then_by (steps_held watched turns) behind) (turns + 1 + 0) (cost Step words) (omega arith)
    (costs_then (steps_held watched turns) behind (turns + 1) 0 (steps_within watched turns) (λ value. tt))

stops_cost : (watched : Option Watched) (held : Option Held) (names : Names) (first : Span) (words : List Span) → CostsAtMost 0 (stops watched held names (first ∷ words))
stops_cost None None names first words = tt
stops_cost None (Some held) names first words =
    costs_then (stops_holding held) (keeps_set (text_at 0 words) (without_set (text_at 0 words) names)) 0 0 (held_stops_within held) (λ value. tt)
stops_cost (Some watched) held names first words =
    costs_then (stops_watching watched) (keeps_monitor (text_at 0 words) (without_monitor (text_at 0 words) names)) 0 0 (watched_stops_within watched) (λ value. tt)

-- what a keyword begins
plain_cost : (keyword : Keyword) (names : Names) (slot : ℕ) (first : Span) (words : List Span) → keyword_of first.text ≡ Some keyword
    → CostsAtMost (cost keyword words) (does_by Plain names slot (first ∷ words))
plain_cost keyword names slot first words k =
    subst (λ o. CostsAtMost (cost keyword words) (acts (only_in_setup names.in_setup o (action_of o names.files slot (first ∷ words))) names slot (first ∷ words))) (sym k)
    (acts_cost (cost keyword words) (only_in_setup names.in_setup (Some keyword) (action_of (Some keyword) names.files slot (first ∷ words))) names slot (first ∷ words)
    (action_if (cost keyword words) (is_out_of_place names.in_setup (Some keyword)) _ _ tt (action_cost keyword names.files slot first words)))

keyword_cost : (keyword : Keyword) (names : Names) (slot : ℕ) (first : Span) (words : List Span) → keyword_of first.text ≡ Some keyword
    → CostsAtMost (cost keyword words) (does_by (kind_of (Some keyword)) names slot (first ∷ words))
keyword_cost Detect names slot first words k =
    runs_cost (cost Detect words) (tool_said (word_texts (first ∷ words))) names slot first words (λ tool h. detect_said first words tool k h) refl
keyword_cost Info names slot first words k =
    runs_cost (cost Info words) (tool_said (word_texts (first ∷ words))) names slot first words (λ tool h. info_said first words tool k h) refl
keyword_cost Get names slot first words k =
    runs_cost (cost Get words) (tool_said (word_texts (first ∷ words))) names slot first words (λ tool h. get_said first words tool k h) refl
keyword_cost Set names slot first words k =
    runs_cost (cost Set words) (tool_said (word_texts (first ∷ words))) names slot first words (λ tool h. set_said first words tool k h) refl
keyword_cost Start names slot first words k = starts_cost (has_tool (text_at 0 words) names) names slot first words
keyword_cost Step names slot first words k = steps_cost (watched_of_name (text_at 0 words) names.monitors) (held_of_name (text_at 0 words) names.sets) names first words
keyword_cost Stop names slot first words k = stops_cost (watched_of_name (text_at 0 words) names.monitors) (held_of_name (text_at 0 words) names.sets) names first words
keyword_cost keyword names slot first words k = plain_cost keyword names slot first words k

some_keyword_cost : (keyword : Option Keyword) (names : Names) (slot : ℕ) (first : Span) (words : List Span) → keyword_of first.text ≡ keyword
    → CostsAtMost (cost_by keyword words) (does_by (kind_of keyword) names slot (first ∷ words))
some_keyword_cost None names slot first words k = subst (λ o. CostsAtMost 0 (acts (only_in_setup names.in_setup o (action_of o names.files slot (first ∷ words))) names slot (first ∷ words))) (sym k) tt
some_keyword_cost (Some keyword) names slot first words k = keyword_cost keyword names slot first words k

pub statements_keep_within_cost : StatementsKeepWithinCost
statements_keep_within_cost names slot [] = tt
statements_keep_within_cost names slot (first ∷ words) = some_keyword_cost (keyword_of first.text) names slot first words refl

closes_all_cost : (n : ℕ) (slots : List ℕ) → CostsAtMost n (closes_all slots)
closes_all_cost n [] = tt
closes_all_cost n (slot ∷ slots) = (omega arith, λ got. closes_all_cost (n - 0) slots)

pub end_cost : (names : Names) → CostsAtMost 0 (quits names)
end_cost names = closes_all_cost 0 (slots_in_order names)

pub says_cost : {A : Type 0} (begun : ℕ) (statements : List (List Span)) (behind : Names → Program A) → ((names : Names) → CostsAtMost 0 (behind names)) → (names : Names)
    → CostsAtMost (sum_by words_cost statements) (says begun statements behind names)
says_cost begun [] behind h names = h names
says_cost begun (words ∷ statements) behind h names =
    costs_more (then_by (does names (slot_behind begun) words) (says (begun + 1) statements behind)) (words_cost words + sum_by words_cost statements) (sum_by words_cost (words ∷ statements))
    (omega (arith, sum_by-cons words_cost words statements))
    (costs_then (does names (slot_behind begun) words) (says (begun + 1) statements behind) (words_cost words) (sum_by words_cost statements) (statements_keep_within_cost names (slot_behind begun) words)
    (λ after. says_cost (begun + 1) statements behind h after))

pub talks_keep_within_cost : TalksKeepWithinCost
talks_keep_within_cost begun statements names = says_cost begun statements quits end_cost names
