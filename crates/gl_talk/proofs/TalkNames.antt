-- Each operation of a talk names the slot of a file that is open, followed for one slot at a time.
use Rattle.std.proofs.Common.{◌≡◌, ◌≤◌, ◌+◌, ◌-◌, ℕ, Bool, true, false, cond, List, [], ◌∷◌, ◌++◌, map, Option, None, Some, refl, sym, ap, subst, arith}
use Rattle.std.specs.List.{list_any}
use Rattle.std.specs.Prelude.{if◌then◌else◌, ◌==◌, ◌||◌, find, is_some, length, nat_eq, not, option_map, replicate, take}
use Rattle.std.proofs.lemmas.Bool.Decides.{nat_tests}
use Rattle.gl_base.specs.Operation.{refusal}
use Rattle.gl_base.specs.Rows.{without_first}
use Rattle.gl_base.specs.Words.{Span, text_at}
use Rattle.gl_base.specs.declared.command.TheConstants.{GET_CHIPINFO, GET_LINEINFO, GET_LINEINFO_WATCH, GET_LINE, LINE_GET_VALUES}
use Rattle.gl_base.specs.declared.errno.Errno.{Errno}
use Rattle.gl_base.specs.declared.operation.Do.{Do}
use Rattle.gl_base.specs.declared.operation.Do.TheVariants.{OpenChip, Ioctl as DoIoctl, Close as DoClose}
use Rattle.gl_base.specs.declared.operation.Got.{Got}
use Rattle.gl_client.specs.OpenSlots.{Where, is_open, one_if, times}
use Rattle.gl_args.specs.Options.{SaidTool, SaidDetect, SaidInfo, SaidGet, SaidSet, SaidWatch, SaidNotify}
use Rattle.gl_client.specs.Program.{Program, done, then_by}
use Rattle.gl_args.specs.Tools.{tool_said}
use Rattle.gl_client.proofs.OpenSlots.{Fits, Follows, behind, counts, counts_with, follows_at, follows_then, times_append, with_one}
use Rattle.gl_monitor.specs.Monitor.{Watched, monitor_program, steps_held, watched_slot}
use Rattle.gl_monitor.specs.Monitor.{stops as stops_watching}
use Rattle.gl_monitor.proofs.MonitorNames.{monitor_at, steps_held_at}
use Rattle.gl_monitor.proofs.MonitorNames.{stops_at as watching_stops_at}
use Rattle.gl_script.specs.Table.{keyword_of}
use Rattle.gl_script.specs.declared.table.Keyword.{Keyword}
use Rattle.gl_script.specs.declared.table.Keyword.TheVariants.{Probe, Unplug, MakeDir, RemoveDir, Write, Read, Clock, Fault, Accept, Aggregate, Pin, Irq, Open, Ioctl, Events, OldIoctl, OldEvents, Changes, Poll, Close}
use Rattle.gl_v1.specs.declared.commands.KindV1.{KindV1}
use Rattle.gl_v1.specs.declared.sending.Sent.{Sent}
use Rattle.gl_script.specs.declared.limits.TheConstants.{JOINED_MAX}
use Rattle.gl_talk.specs.declared.files.TalkFileKind.TheVariants.{Chip, Request}
use Rattle.gl_talk.specs.declared.paths.LineFile.{LineFile}
use Rattle.gl_talk.specs.Formats.{Action, Nothing, Refuse, Ask, ResultFormat, Silent, Value, Level, Bytes, Edges, Infos, Ready, Opened, Closed, Made, OldBytes, OldEdges, OldMade}
use Rattle.gl_talk.specs.declared.tools.StatementKind.{StatementKind}
use Rattle.gl_talk.specs.declared.tools.StatementKind.TheVariants.{Plain, ToolAlone, Starting, Stepping, Stopping}
use Rattle.gl_talk.specs.Old.{kind_v1, made_kind, old_command_word, old_reply, sent_new, sent_old, takes_old_name}
use Rattle.gl_talk.specs.Open.{File, Names, SetTool, MonitorTool, file_of, has_tool, held_of_name, is_chip, is_chip_file, is_file, is_old_event, is_request, is_monitor, is_set, monitor_slots, open_slots, set_slots, watched_of_name, without_monitor, without_set}
use Rattle.gl_talk.specs.Paths.{line_file, live_device}
use Rattle.gl_talk.specs.Actions.{action_here, aggregates, asks_for, closes, files_named, command_reply, ioctls, ioctls_bytes, irqs, is_out_of_place, lives, old_ioctls, opens, pins, action_of, polls, pulls, reads, reads_file, slots_of, takes_name, unplugs, writes, writes_tree}
use Rattle.gl_talk.specs.Talk.{acts, does_by, file, keeps_monitor, keeps_set, replied_by, runs, starts, starts_said, starts_tool, steps, stops}
use Rattle.gl_talk.specs.ToolWords.{word_texts}
use Rattle.gl_talk.specs.Words.{behind_two, bytes_said, behind_three, command_word, label_word, live_word, made_name, name_word, place_word, pull_word, turns_word}
use Rattle.gl_values.specs.Client.{held_program, tool_program}
use Rattle.gl_values.specs.Set.{Held}
use Rattle.gl_values.specs.Set.{stops as stops_holding}
use Rattle.gl_values.proofs.ToolNames.{tool_at, held_at}
use Rattle.gl_values.proofs.ToolNames.{stops_at as holding_stops_at}

-- how often a slot is that of a file
abbrev pub file_times : ℕ → List File → ℕ
file_times s files = times s (map (λ file. file.slot) files)

abbrev pub open_times : ℕ → Names → ℕ
open_times s names = file_times s names.files + (times s (set_slots names.sets) + times s (monitor_slots names.monitors))

pub times_are : (s : ℕ) (names : Names) → times s (open_slots names) ≡ open_times s names
times_are s names =
    omega (arith, times_append s (map (λ file. file.slot) names.files) (set_slots names.sets ++ monitor_slots names.monitors), times_append s (set_slots names.sets) (monitor_slots names.monitors))

module _ (s : ℕ) where
  -- a file more, and one less
  pub one_more : (files : List File) (f : File) → file_times s (files ++ f ∷ []) ≡ file_times s files + one_if (nat_eq s f.slot)
  one_more [] f = omega arith
  one_more (x ∷ files) f = omega (arith, one_more files f)

  less_if : (b : Bool) (x f : File) (o : Option File) (xs rest : List File) → cond b (Some x) o ≡ Some f → (o ≡ Some f → file_times s rest + one_if (nat_eq s f.slot) ≡ file_times s xs)
      → file_times s (cond b xs (x ∷ rest)) + one_if (nat_eq s f.slot) ≡ one_if (nat_eq s x.slot) + file_times s xs
  less_if true x f o xs rest e h = let same : x ≡ f = cc in omega (arith, ap (λ (y : File). one_if (nat_eq s y.slot)) same)
  less_if false x f o xs rest e h = omega (arith, h e)

  one_less : (name : List ℕ) (files : List File) (f : File) → file_of name files ≡ Some f → file_times s (without_first (is_file name) files) + one_if (nat_eq s f.slot) ≡ file_times s files
  one_less name [] f e = cc
  one_less name (x ∷ xs) f e = less_if (is_file name x) x f (file_of name xs) xs (without_first (is_file name) xs) e (one_less name xs f)

  -- a tool more, and one less
  pub set_more : (tools : List SetTool) (tool : SetTool) → times s (set_slots (tools ++ tool ∷ [])) ≡ times s (set_slots tools) + counts s tool.held
  set_more [] tool = omega (arith, counts_with s tool.held [])
  set_more (first ∷ tools) tool = omega (arith, counts_with s first.held (set_slots (tools ++ tool ∷ [])), counts_with s first.held (set_slots tools), set_more tools tool)

  set_less_if : (b : Bool) (x : SetTool) (held : Held) (o : Option SetTool) (xs rest : List SetTool) → option_map (λ tool. tool.held) (cond b (Some x) o) ≡ Some held
      → (option_map (λ tool. tool.held) o ≡ Some held → times s (set_slots rest) + counts s held ≡ times s (set_slots xs))
      → times s (set_slots (cond b xs (x ∷ rest))) + counts s held ≡ times s (set_slots (x ∷ xs))
  set_less_if true x held o xs rest e h =
      let same : x.held ≡ held = cc in
      omega (arith, counts_with s x.held (set_slots xs), ap (counts s) same)
  set_less_if false x held o xs rest e h = omega (arith, counts_with s x.held (set_slots xs), counts_with s x.held (set_slots rest), h e)

  set_less : (name : List ℕ) (tools : List SetTool) (held : Held) → held_of_name name tools ≡ Some held
      → times s (set_slots (without_first (is_set name) tools)) + counts s held ≡ times s (set_slots tools)
  set_less name [] held e = cc
  set_less name (x ∷ xs) held e = set_less_if (is_set name x) x held (find (is_set name) xs) xs (without_first (is_set name) xs) e (set_less name xs held)

  pub monitor_more : (tools : List MonitorTool) (tool : MonitorTool) → times s (monitor_slots (tools ++ tool ∷ [])) ≡ times s (monitor_slots tools) + counts s (watched_slot tool.watched)
  monitor_more [] tool = omega (arith, counts_with s (watched_slot tool.watched) [])
  monitor_more (first ∷ tools) tool =
      omega (arith, counts_with s (watched_slot first.watched) (monitor_slots (tools ++ tool ∷ [])), counts_with s (watched_slot first.watched) (monitor_slots tools), monitor_more tools tool)

  monitor_less_if : (b : Bool) (x : MonitorTool) (watched : Watched) (o : Option MonitorTool) (xs rest : List MonitorTool) → option_map (λ tool. tool.watched) (cond b (Some x) o) ≡ Some watched
      → (option_map (λ tool. tool.watched) o ≡ Some watched → times s (monitor_slots rest) + counts s (watched_slot watched) ≡ times s (monitor_slots xs))
      → times s (monitor_slots (cond b xs (x ∷ rest))) + counts s (watched_slot watched) ≡ times s (monitor_slots (x ∷ xs))
  monitor_less_if true x watched o xs rest e h =
      let same : x.watched ≡ watched = cc in
      omega (arith, counts_with s (watched_slot x.watched) (monitor_slots xs), ap (λ w. counts s (watched_slot w)) same)
  monitor_less_if false x watched o xs rest e h =
      omega (arith, counts_with s (watched_slot x.watched) (monitor_slots xs), counts_with s (watched_slot x.watched) (monitor_slots rest), h e)

  monitor_less : (name : List ℕ) (tools : List MonitorTool) (watched : Watched) → watched_of_name name tools ≡ Some watched
      → times s (monitor_slots (without_first (is_monitor name) tools)) + counts s (watched_slot watched) ≡ times s (monitor_slots tools)
  monitor_less name [] watched e = cc
  monitor_less name (x ∷ xs) watched e =
      monitor_less_if (is_monitor name x) x watched (find (is_monitor name) xs) xs (without_first (is_monitor name) xs) e (monitor_less name xs watched)

-- the slot s is open at most k times
module _ (s k : ℕ) where
  abbrev Keeps : ℕ → Program Names → Type 0
  Keeps m p = Follows s k (open_times s) m p

  -- what a statement keeps of its tool
  keeps_set_at : (names : Names) (name : List ℕ) (held : Held) → Keeps (counts s held + open_times s names) (keeps_set name names held)
  keeps_set_at names name None = omega arith
  keeps_set_at names name (Some slot) = omega (arith, set_more s names.sets (record { name = name_word name; held = Some slot }))

  keeps_monitor_at : (names : Names) (name : List ℕ) (watched : Watched) → Keeps (counts s (watched_slot watched) + open_times s names) (keeps_monitor name names watched)
  keeps_monitor_at names name None = omega arith
  keeps_monitor_at names name (Some w) = omega (arith, monitor_more s names.monitors (record { name = name_word name; watched = Some w }))

  -- what a plan's operation does to files is what its reply tells of
  module _ (names : Names) (slot : ℕ) (words : List Span) where
    abbrev pub FileTaken : ℕ → Type 0
    FileTaken chip = file_times s (without_first (is_file (text_at 1 words)) names.files) + one_if (nat_eq s chip) ≡ file_times s names.files

    -- it opens nothing, and closes nothing
    abbrev pub LeavesAll : Do → Type 0
    LeavesAll what = Fits s k (open_times s names) what × ((got : Got) → behind s k (open_times s names) what got ≡ open_times s names)

    abbrev pub Makes : Do → ℕ → ℕ → ℕ → List ℕ → Type 0
    Makes what chip command len bytes = (what ≡ DoIoctl chip command len bytes slot) × ((command == GET_LINE) ≡ true) × (one_if (nat_eq s chip) ≤ open_times s names)

    abbrev pub AskFits : ResultFormat → Do → Type 0
    AskFits Opened what = (word : List ℕ) × (what ≡ OpenChip slot word)
    AskFits Closed what = (chip : ℕ) × (what ≡ DoClose chip) × FileTaken chip
    AskFits Made what = (chip : ℕ) × (command : ℕ) × (len : ℕ) × (bytes : List ℕ) × Makes what chip command len bytes
    AskFits OldMade what = (chip : ℕ) × (command : ℕ) × (len : ℕ) × (bytes : List ℕ) × Makes what chip command len bytes
    AskFits _ what = LeavesAll what

    abbrev pub ActionFits : Action → Type 0
    ActionFits Nothing = Unit {0}
    ActionFits (Refuse errno) = Unit {0}
    ActionFits (Ask what reply) = AskFits reply what

    -- a reply that changes no names
    abbrev IsPlainFormat : ResultFormat → Type 0
    IsPlainFormat Opened = ⊥
    IsPlainFormat Closed = ⊥
    IsPlainFormat Made = ⊥
    IsPlainFormat OldMade = ⊥
    IsPlainFormat _ = Unit {0}

    plain_at : (fault : Option Errno) (reply : ResultFormat) (got : Got) → IsPlainFormat reply → Keeps (open_times s names) (replied_by fault reply names slot words got)
    plain_at (Some errno) reply got plain = refl
    plain_at None Silent got plain = refl
    plain_at None Value got plain = refl
    plain_at None (Level is_pull) got plain = refl
    plain_at None Bytes got plain = refl
    plain_at None Edges got plain = refl
    plain_at None Infos got plain = refl
    plain_at None Ready got plain = refl
    plain_at None Opened got plain = absurd plain
    plain_at None Closed got plain = absurd plain
    plain_at None Made got plain = absurd plain
    plain_at None (OldBytes kind) got plain = refl
    plain_at None OldEdges got plain = refl
    plain_at None OldMade got plain = absurd plain

    opened_at : (fault : Option Errno) (got : Got) → Keeps (with_one s k fault slot (open_times s names)) (replied_by fault Opened names slot words got)
    opened_at (Some errno) got = refl
    opened_at None got = omega (arith, one_more s names.files (file (text_at 1 words) slot Chip))

    made_at : (fault : Option Errno) (got : Got) → Keeps (with_one s k fault slot (open_times s names)) (replied_by fault Made names slot words got)
    made_at (Some errno) got = refl
    made_at None got = omega (arith, one_more s names.files (file (made_name words) slot Request))

    old_made_at : (fault : Option Errno) (got : Got) → Keeps (with_one s k fault slot (open_times s names)) (replied_by fault OldMade names slot words got)
    old_made_at (Some errno) got = refl
    old_made_at None got =
        omega (arith, one_more s names.files (file (made_name words) slot (made_kind (old_command_word (text_at 2 words)) (bytes_said (behind_three words)))))

    closed_at : (chip : ℕ) (fault : Option Errno) (got : Got) → FileTaken chip → fault ≡ None → Keeps (open_times s names - one_if (nat_eq s chip)) (replied_by fault Closed names slot words got)
    closed_at chip (Some errno) got taken kept = cc
    closed_at chip None got taken kept = omega (arith, taken)

    ask_plain : (what : Do) (reply : ResultFormat) → IsPlainFormat reply → LeavesAll what → Keeps (open_times s names) (acts (Ask what reply) names slot words)
    ask_plain what reply plain fits =
        (fits.0, λ got kept. follows_at s k (open_times s) (replied_by (refusal got) reply names slot words got) (open_times s names) (behind s k (open_times s names) what got) (sym (fits.1 got)) (plain_at (refusal got) reply got plain))

    made_if : (b : Bool) (got : Got) → b ≡ true → Keeps (cond b (with_one s k (refusal got) slot (open_times s names)) (open_times s names)) (replied_by (refusal got) Made names slot words got)
    made_if true got e = made_at (refusal got) got
    made_if false got e = cc

    old_made_if : (b : Bool) (got : Got) → b ≡ true → Keeps (cond b (with_one s k (refusal got) slot (open_times s names)) (open_times s names)) (replied_by (refusal got) OldMade names slot words got)
    old_made_if true got e = old_made_at (refusal got) got
    old_made_if false got e = cc

    where_so : (b : Bool) (P : Type 0) → P → Where b P
    where_so true P h = h
    where_so false P h = tt

    taken_le : (chip : ℕ) → FileTaken chip → one_if (nat_eq s chip) ≤ open_times s names
    taken_le chip taken = omega (arith, taken)

    module _ (room : open_times s names + one_if (nat_eq s slot) ≤ k) where
      acts_at : (action : Action) → ActionFits action → Keeps (open_times s names) (acts action names slot words)
      acts_at Nothing fits = refl
      acts_at (Refuse errno) fits = refl
      acts_at (Ask what Silent) fits = ask_plain what Silent tt fits
      acts_at (Ask what Value) fits = ask_plain what Value tt fits
      acts_at (Ask what (Level is_pull)) fits = ask_plain what (Level is_pull) tt fits
      acts_at (Ask what Bytes) fits = ask_plain what Bytes tt fits
      acts_at (Ask what Edges) fits = ask_plain what Edges tt fits
      acts_at (Ask what Infos) fits = ask_plain what Infos tt fits
      acts_at (Ask what Ready) fits = ask_plain what Ready tt fits
      acts_at (Ask what Opened) fits =
          subst (λ w. Keeps (open_times s names) (acts (Ask w Opened) names slot words)) (sym fits.1) (room, λ got kept. opened_at (refusal got) got)
      acts_at (Ask what Closed) fits =
          subst (λ w. Keeps (open_times s names) (acts (Ask w Closed) names slot words)) (sym fits.1) (taken_le fits.0 fits.2, λ got kept. closed_at fits.0 (refusal got) got fits.2 kept)
      acts_at (Ask what Made) fits =
          let command = fits.1 in
          let makes = fits.4 in
          subst (λ w. Keeps (open_times s names) (acts (Ask w Made) names slot words)) (sym makes.0)
          ((makes.2, where_so (nat_eq command GET_LINE) (open_times s names + one_if (nat_eq s slot) ≤ k) room), λ got kept. made_if (command == GET_LINE) got makes.1)
      acts_at (Ask what (OldBytes kind)) fits = ask_plain what (OldBytes kind) tt fits
      acts_at (Ask what OldEdges) fits = ask_plain what OldEdges tt fits
      acts_at (Ask what OldMade) fits =
          let command = fits.1 in
          let makes = fits.4 in
          subst (λ w. Keeps (open_times s names) (acts (Ask w OldMade) names slot words)) (sym makes.0)
          ((makes.2, where_so (nat_eq command GET_LINE) (open_times s names + one_if (nat_eq s slot) ≤ k) room), λ got kept. old_made_if (command == GET_LINE) got makes.1)

  -- each row
  module _ (names : Names) (slot : ℕ) (words : List Span) where
    abbrev ActionsFit : Action → Type 0
    ActionsFit action = ActionFits names slot words action

    action_if : (test : Bool) (a b : Action) → ActionsFit a → ActionsFit b → ActionsFit (if test then a else b)
    action_if true a b p q = p
    action_if false a b p q = q

    unplugs_at : (place : ℕ) → ActionsFit (unplugs place)
    unplugs_at place = (tt, λ got. refl)

    pins_at : (place : ℕ) → ActionsFit (pins place words)
    pins_at place = (tt, λ got. refl)

    irqs_at : (place : ℕ) → ActionsFit (irqs place words)
    irqs_at place = (tt, λ got. refl)

    reads_at : (found : Option LineFile) (path : List ℕ) → ActionsFit (reads found path)
    reads_at None path = (tt, λ got. refl)
    reads_at (Some found) path = (tt, λ got. refl)

    pulls_at : (found : LineFile) (up : Option Bool) → ActionsFit (pulls found up)
    pulls_at found None = tt
    pulls_at found (Some up) = (tt, λ got. refl)

    lives_at : (device : List ℕ) (up : Option Bool) → ActionsFit (lives device up)
    lives_at device None = tt
    lives_at device (Some up) = (tt, λ got. refl)

    tree_at : (device : Option (List ℕ)) (path value : List ℕ) → ActionsFit (writes_tree device path value)
    tree_at None path value = (tt, λ got. refl)
    tree_at (Some device) path value = lives_at device (live_word value)

    writes_at : (found : Option LineFile) (path value : List ℕ) → ActionsFit (writes found path value)
    writes_at None path value = tree_at (live_device path) path value
    writes_at (Some found) path value = action_if found.is_pull _ _ (pulls_at found (pull_word value)) tt

    opens_at : (taken : Bool) (word : List ℕ) → ActionsFit (opens taken slot word)
    opens_at true word = tt
    opens_at false word = (_, refl)

    -- a file of the names is open
    there : (name : List ℕ) (found : File) → file_of name names.files ≡ Some found → one_if (nat_eq s found.slot) ≤ open_times s names
    there name found e = omega (arith, one_less s name names.files found e)

    not_where : (b : Bool) (P : Type 0) → b ≡ false → Where b P
    not_where true P e = cc
    not_where false P e = tt

    not_made : (b : Bool) (n m : ℕ) → b ≡ false → cond b n m ≡ m
    not_made true n m e = cc
    not_made false n m e = refl

    plain_command : (chip command len : ℕ) (bytes : List ℕ) → (command == GET_LINE) ≡ false → one_if (nat_eq s chip) ≤ open_times s names → LeavesAll names slot words (DoIoctl chip command len bytes slot)
    plain_command chip command len bytes other le =
        ((le, not_where (nat_eq command GET_LINE) (open_times s names + one_if (nat_eq s slot) ≤ k) other), λ got. not_made (nat_eq command GET_LINE) (with_one s k (refusal got) slot (open_times s names)) (open_times s names) other)

    reply_if : (chip command len : ℕ) (bytes : List ℕ) (a b c d e : Bool) → (command == GET_LINE) ≡ a → one_if (nat_eq s chip) ≤ open_times s names
        → AskFits names slot words (cond a Made (cond b Bytes (cond c Bytes (cond d Bytes (cond e Bytes Silent))))) (DoIoctl chip command len bytes slot)
    reply_if chip command len bytes true b c d e same le = (chip, command, len, bytes, (refl, same, le))
    reply_if chip command len bytes false true c d e same le = plain_command chip command len bytes same le
    reply_if chip command len bytes false false true d e same le = plain_command chip command len bytes same le
    reply_if chip command len bytes false false false true e same le = plain_command chip command len bytes same le
    reply_if chip command len bytes false false false false true same le = plain_command chip command len bytes same le
    reply_if chip command len bytes false false false false false same le = plain_command chip command len bytes same le

    by_sent : (found : File) (sent : Sent) → one_if (nat_eq s found.slot) ≤ open_times s names → ActionsFit (asks_for found slot sent (command_reply sent.cmd))
    by_sent found sent le =
        reply_if found.slot sent.cmd sent.len sent.bytes (sent.cmd == GET_LINE) (sent.cmd == GET_CHIPINFO) (sent.cmd == GET_LINEINFO) (sent.cmd == GET_LINEINFO_WATCH) (sent.cmd == LINE_GET_VALUES) refl le

    -- what a statement of the first uAPI sends
    old_reply_if : (kind : KindV1) (chip command len : ℕ) (bytes : List ℕ) (a b c d : Bool) → (command == GET_LINE) ≡ a → one_if (nat_eq s chip) ≤ open_times s names
        → AskFits names slot words (cond a OldMade (cond b (OldBytes kind) (cond c (OldBytes kind) (cond d (OldBytes kind) Silent)))) (DoIoctl chip command len bytes slot)
    old_reply_if kind chip command len bytes true b c d same le = (chip, command, len, bytes, (refl, same, le))
    old_reply_if kind chip command len bytes false true c d same le = plain_command chip command len bytes same le
    old_reply_if kind chip command len bytes false false true d same le = plain_command chip command len bytes same le
    old_reply_if kind chip command len bytes false false false true same le = plain_command chip command len bytes same le
    old_reply_if kind chip command len bytes false false false false same le = plain_command chip command len bytes same le

    by_old_sent : (found : File) (sent : Sent) → one_if (nat_eq s found.slot) ≤ open_times s names → ActionsFit (asks_for found slot sent (old_reply found.kind sent.cmd))
    by_old_sent found sent le =
        old_reply_if (kind_v1 found.kind) found.slot sent.cmd sent.len sent.bytes (sent.cmd == GET_LINE) (sent.cmd == GET_CHIPINFO) (sent.cmd == GET_LINEINFO) (sent.cmd == LINE_GET_VALUES) refl le

    old_ioctls_at : (o : Option File) (taken : Bool) → file_of (text_at 1 words) names.files ≡ o → ActionsFit (old_ioctls o taken slot words)
    old_ioctls_at None taken e = tt
    old_ioctls_at (Some found) taken e =
        action_if taken _ _ tt (by_old_sent found (sent_old found.kind (old_command_word (text_at 2 words)) (bytes_said (behind_three words))) (there (text_at 1 words) found e))

    bytes_at : (found : File) (command : ℕ) (bytes : List ℕ) → one_if (nat_eq s found.slot) ≤ open_times s names → ActionsFit (ioctls_bytes found slot command bytes)
    bytes_at found command bytes le = by_sent found (sent_new found.kind command bytes) le

    ioctls_at : (o : Option File) (taken : Bool) → file_of (text_at 1 words) names.files ≡ o → ActionsFit (ioctls o taken slot words)
    ioctls_at None taken e = tt
    ioctls_at (Some found) taken e = action_if taken _ _ tt (bytes_at found (command_word (text_at 2 words)) (bytes_said (behind_three words)) (there (text_at 1 words) found e))

    events_at : (o : Option File) (len : ℕ) → file_of (text_at 1 words) names.files ≡ o → ActionsFit (reads_file o is_request len Edges)
    events_at None len e = tt
    events_at (Some found) len e = action_if (is_request found.kind) _ _ (there (text_at 1 words) found e, λ got. refl) tt

    old_events_at : (o : Option File) (len : ℕ) → file_of (text_at 1 words) names.files ≡ o → ActionsFit (reads_file o is_old_event len OldEdges)
    old_events_at None len e = tt
    old_events_at (Some found) len e = action_if (is_old_event found.kind) _ _ (there (text_at 1 words) found e, λ got. refl) tt

    changes_at : (o : Option File) (len : ℕ) → file_of (text_at 1 words) names.files ≡ o → ActionsFit (reads_file o is_chip len Infos)
    changes_at None len e = tt
    changes_at (Some found) len e = action_if (is_chip found.kind) _ _ (there (text_at 1 words) found e, λ got. refl) tt

    -- the slots of named files are open
    or_most : (a b : Bool) (n : ℕ) → one_if a ≤ n → one_if b ≤ n → one_if (a || b) ≤ n
    or_most true b n p q = p
    or_most false b n p q = q

    one_named : (name : List ℕ) (o : Option File) (rest : List (Option File)) → file_of name names.files ≡ o → one_if (is_open s (slots_of rest)) ≤ open_times s names
        → one_if (is_open s (slots_of (o ∷ rest))) ≤ open_times s names
    one_named name None rest e h = h
    one_named name (Some f) rest e h = or_most (nat_eq s f.slot) (is_open s (slots_of rest)) (open_times s names) (there name f e) h

    some_named : (b : Bool) (named : List (Option File)) → one_if (is_open s (slots_of named)) ≤ open_times s names → one_if (is_open s (slots_of (if b then [] else named))) ≤ open_times s names
    some_named true named h = omega arith
    some_named false named h = h

    named_slots : (most : ℕ) (found : List Span) → one_if (is_open s (slots_of (files_named most found names.files))) ≤ open_times s names
    named_slots most [] = omega arith
    named_slots most (word ∷ found) =
        let rest = files_named (most - 1) found names.files in
        some_named (nat_eq most 0) (file_of word.text names.files ∷ rest) (one_named word.text (file_of word.text names.files) rest refl (named_slots (most - 1) found))

    -- and they are few
    few_by : (most : ℕ) (b : Bool) (o : Option File) (rest : List (Option File)) → nat_eq most 0 ≡ b → length (slots_of rest) ≤ most - 1 → length (slots_of (if b then [] else o ∷ rest)) ≤ most
    few_by most true o rest e h = omega arith
    few_by most false None rest e h = omega (arith, h)
    few_by most false (Some f) rest e h = let some : 1 ≤ most = grind (arith, nat_tests) in omega (arith, some, h)

    few_named : (most : ℕ) (found : List Span) → length (slots_of (files_named most found names.files)) ≤ most
    few_named most [] = omega arith
    few_named most (word ∷ found) =
        few_by most (nat_eq most 0) (file_of word.text names.files) (files_named (most - 1) found names.files) refl (few_named (most - 1) found)

    front : (xs ys : List ℕ) → take (length xs) (xs ++ ys) ≡ xs
    front [] ys = refl
    front (x ∷ xs) ys = ap (λ (l : List ℕ). x ∷ l) (front xs ys)

    aggregates_at : (label : List ℕ) (named : List (Option File)) → length (slots_of named) ≤ JOINED_MAX → one_if (is_open s (slots_of named)) ≤ open_times s names → ActionsFit (aggregates label named)
    aggregates_at label named few h =
        action_if (list_any (λ file. not (is_some file)) named) _ _ tt
        (action_if (list_any is_chip_file named) _ _ tt
        ((few, subst (λ (slots : List ℕ). one_if (is_open s slots) ≤ open_times s names) (sym (front (slots_of named) (replicate (JOINED_MAX - length (slots_of named)) 0))) h), λ got. refl))

    polls_at : (o : Option File) → file_of (text_at 1 words) names.files ≡ o → ActionsFit (polls o)
    polls_at None e = tt
    polls_at (Some found) e = (there (text_at 1 words) found e, λ got. refl)

    closes_at : (o : Option File) → file_of (text_at 1 words) names.files ≡ o → ActionsFit (closes o)
    closes_at None e = tt
    closes_at (Some found) e = (found.slot, refl, one_less s (text_at 1 words) names.files found e)

    pub action_at : (keyword : Option Keyword) → ActionsFit (action_of keyword names.files slot words)
    action_at None = tt
    action_at (Some Probe) = (tt, λ got. refl)
    action_at (Some Unplug) = unplugs_at (place_word (text_at 1 words))
    action_at (Some MakeDir) = (tt, λ got. refl)
    action_at (Some RemoveDir) = (tt, λ got. refl)
    action_at (Some Write) = writes_at (line_file (text_at 1 words)) (text_at 1 words) (label_word (text_at 2 words))
    action_at (Some Read) = reads_at (line_file (text_at 1 words)) (text_at 1 words)
    action_at (Some Clock) = (tt, λ got. refl)
    action_at (Some Fault) = (tt, λ got. refl)
    action_at (Some Accept) = (tt, λ got. refl)
    action_at (Some Aggregate) = aggregates_at (label_word (text_at 1 words)) (files_named JOINED_MAX (behind_two words) names.files) (few_named JOINED_MAX (behind_two words)) (named_slots JOINED_MAX (behind_two words))
    action_at (Some Pin) = pins_at (place_word (text_at 2 words))
    action_at (Some Irq) = irqs_at (place_word (text_at 2 words))
    action_at (Some Open) = opens_at (is_some (file_of (text_at 1 words) names.files)) (text_at 2 words)
    action_at (Some Ioctl) = ioctls_at (file_of (text_at 1 words) names.files) (takes_name words names.files) refl
    action_at (Some Events) = events_at (file_of (text_at 1 words) names.files) _ refl
    action_at (Some OldIoctl) = old_ioctls_at (file_of (text_at 1 words) names.files) (takes_old_name words names.files) refl
    action_at (Some OldEvents) = old_events_at (file_of (text_at 1 words) names.files) _ refl
    action_at (Some Changes) = changes_at (file_of (text_at 1 words) names.files) _ refl
    action_at (Some Poll) = polls_at (file_of (text_at 1 words) names.files) refl
    action_at (Some Close) = closes_at (file_of (text_at 1 words) names.files) refl
    action_at (Some keyword) = tt

    pub here_at : ActionsFit (action_here names.in_setup names.files slot words)
    here_at = action_if (is_out_of_place names.in_setup (keyword_of (text_at 0 words))) _ _ tt (action_at (keyword_of (text_at 0 words)))

  -- tools
  module _ (names : Names) (slot : ℕ) (room : open_times s names + one_if (nat_eq s slot) + one_if (nat_eq s (slot + 1)) ≤ k) where
    runs_at : (tool : Option SaidTool) (words : List Span) → Keeps (open_times s names) (runs tool names slot words)
    runs_at None words = refl
    runs_at (Some tool) words =
        follows_then s k (λ _. open_times s names) (open_times s) (tool_program tool slot) (λ _. done names) (open_times s names) (tool_at s k (open_times s names) tool slot room) (λ held. refl)

    started_set : (tool : SaidTool) (name : List ℕ) → Keeps (open_times s names) (then_by (held_program tool slot) (keeps_set name names))
    started_set tool name =
        follows_then s k (λ held. counts s held + open_times s names) (open_times s) (held_program tool slot) (keeps_set name names) (open_times s names) (held_at s k (open_times s names) tool slot room)
        (keeps_set_at names name)

    started_monitor : (tool : SaidTool) (name : List ℕ) → Keeps (open_times s names) (then_by (monitor_program tool slot) (keeps_monitor name names))
    started_monitor tool name =
        follows_then s k (λ watched. counts s (watched_slot watched) + open_times s names) (open_times s) (monitor_program tool slot) (keeps_monitor name names) (open_times s names)
        (monitor_at s k (open_times s names) tool slot room) (keeps_monitor_at names name)

    starts_tool_at : (tool : SaidTool) (name : List ℕ) → Keeps (open_times s names) (starts_tool tool names slot name)
    starts_tool_at (SaidDetect texts) name = refl
    starts_tool_at (SaidInfo opts) name = refl
    starts_tool_at (SaidGet opts) name = refl
    starts_tool_at (SaidSet opts) name = started_set (SaidSet opts) name
    starts_tool_at (SaidWatch opts) name = started_monitor (SaidWatch opts) name
    starts_tool_at (SaidNotify opts) name = started_monitor (SaidNotify opts) name

    said_at : (tool : Option SaidTool) (words : List Span) → Keeps (open_times s names) (starts_said tool names slot words)
    said_at None words = refl
    said_at (Some tool) words = starts_tool_at tool (text_at 1 words)

    starts_at : (taken : Bool) (words : List Span) → Keeps (open_times s names) (starts taken names slot words)
    starts_at true words = refl
    starts_at false words = said_at (tool_said (word_texts (behind_two words))) words

  -- a program of a monitor, or of a gpioset, that was taken out
  monitor_taken : (names : Names) (name : List ℕ) (watched : Watched) (p : Program Watched) → watched_of_name name names.monitors ≡ Some watched
      → ((n : ℕ) → Follows s k (λ after. counts s (watched_slot after) + n) (counts s (watched_slot watched) + n) p) → Keeps (open_times s names) (then_by p (keeps_monitor name (without_monitor name names)))
  monitor_taken names name watched p e h =
      let rest = without_monitor name names in
      follows_at s k (open_times s) (then_by p (keeps_monitor name rest)) (counts s (watched_slot watched) + open_times s rest) (open_times s names) (omega (arith, monitor_less s name names.monitors watched e))
      (follows_then s k (λ after. counts s (watched_slot after) + open_times s rest) (open_times s) p (keeps_monitor name rest) (counts s (watched_slot watched) + open_times s rest) (h (open_times s rest))
      (keeps_monitor_at rest name))

  set_taken : (names : Names) (name : List ℕ) (held : Held) (p : Program Held) → held_of_name name names.sets ≡ Some held
      → ((n : ℕ) → Follows s k (λ after. counts s after + n) (counts s held + n) p) → Keeps (open_times s names) (then_by p (keeps_set name (without_set name names)))
  set_taken names name held p e h =
      let rest = without_set name names in
      follows_at s k (open_times s) (then_by p (keeps_set name rest)) (counts s held + open_times s rest) (open_times s names) (omega (arith, set_less s name names.sets held e))
      (follows_then s k (λ after. counts s after + open_times s rest) (open_times s) p (keeps_set name rest) (counts s held + open_times s rest) (h (open_times s rest)) (keeps_set_at rest name))

  steps_at : (watched : Option Watched) (held : Option Held) (names : Names) (words : List Span) → watched_of_name (text_at 1 words) names.monitors ≡ watched
      → Keeps (open_times s names) (steps watched held names words)
  steps_at None None names words e = refl
  steps_at None (Some held) names words e = refl
  steps_at (Some watched) held names words e =
      let turns = turns_word (text_at 2 words) in
      monitor_taken names (text_at 1 words) watched (steps_held watched turns) e (λ n. steps_held_at s k n watched turns)

  stops_at : (watched : Option Watched) (held : Option Held) (names : Names) (words : List Span) → watched_of_name (text_at 1 words) names.monitors ≡ watched
      → held_of_name (text_at 1 words) names.sets ≡ held → Keeps (open_times s names) (stops watched held names words)
  stops_at None None names words e f = refl
  stops_at None (Some held) names words e f = set_taken names (text_at 1 words) held (stops_holding held) f (λ n. holding_stops_at s k n held)
  stops_at (Some watched) held names words e f = monitor_taken names (text_at 1 words) watched (stops_watching watched) e (λ n. watching_stops_at s k n watched)

  pub kind_at : (kind : StatementKind) (names : Names) (slot : ℕ) (words : List Span) → open_times s names + one_if (nat_eq s slot) + one_if (nat_eq s (slot + 1)) ≤ k → Keeps (open_times s names) (does_by kind names slot words)
  kind_at Plain names slot words room =
      acts_at names slot words (omega (arith, room)) (action_here names.in_setup names.files slot words) (here_at names slot words)
  kind_at ToolAlone names slot words room = runs_at names slot room (tool_said (word_texts words)) words
  kind_at Starting names slot words room = starts_at names slot room (has_tool (text_at 1 words) names) words
  kind_at Stepping names slot words room = steps_at (watched_of_name (text_at 1 words) names.monitors) (held_of_name (text_at 1 words) names.sets) names words refl
  kind_at Stopping names slot words room = stops_at (watched_of_name (text_at 1 words) names.monitors) (held_of_name (text_at 1 words) names.sets) names words refl refl
