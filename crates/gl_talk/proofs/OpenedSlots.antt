-- A statement opens files in its own two slots alone, and leaves one file more open at most.
use Rattle.std.proofs.Common.{◌≡◌, ◌≤◌, ◌+◌, ◌||◌, ℕ, Bool, true, false, cond, List, [], ◌∷◌, ◌++◌, Option, None, Some, refl, sym, ap, subst, arith}
use Rattle.std.specs.Prelude.{nat_eq}
use Rattle.std.proofs.lemmas.Bool.Decides.{nat_tests}
use Rattle.gl_base.specs.Operation.{refusal}
use Rattle.gl_base.specs.Rows.{without_first}
use Rattle.gl_base.specs.Words.{Span, text_at}
use Rattle.gl_base.specs.declared.command.TheConstants.{GET_LINE}
use Rattle.gl_base.specs.declared.errno.Errno.{Errno}
use Rattle.gl_base.specs.declared.operation.Do.{Do}
use Rattle.gl_base.specs.declared.operation.Do.TheVariants.{Probe, Unplug, MakeDir, RemoveDir, Write, Read, Live, Tick, Pin, Irq, Pull, Level, OpenChip, Find, Ioctl, ReadFile, Poll, Close, Plan as PlanPort, Accept as AcceptPort, Aggregate}
use Rattle.gl_base.specs.declared.operation.Got.{Got}
use Rattle.gl_client.specs.Entries.{IsKept}
use Rattle.gl_client.specs.Gives.{Gives}
use Rattle.gl_client.specs.OpenSlots.{Where, one_if, times}
use Rattle.gl_args.specs.Options.{SaidTool, SaidDetect, SaidInfo, SaidGet, SaidSet, SaidWatch, SaidNotify}
use Rattle.gl_client.specs.Program.{Program, done, print, ask, then_by}
use Rattle.gl_args.specs.Tools.{tool_said}
use Rattle.gl_client.proofs.OpenSlots.{Fits, Follows, behind, counts, counts_with, same_number}
use Rattle.gl_monitor.specs.Monitor.{Watched, monitor_program, steps_held, watched_slot}
use Rattle.gl_monitor.specs.Monitor.{stops as stops_watching}
use Rattle.gl_monitor.proofs.MonitorNames.{monitor_at, steps_held_at}
use Rattle.gl_monitor.proofs.MonitorNames.{stops_at as watching_stops_at}
use Rattle.gl_script.specs.Table.{keyword_of}
use Rattle.gl_talk.specs.declared.files.TalkFileKind.{TalkFileKind}
use Rattle.gl_talk.specs.declared.files.TalkFileKind.TheVariants.{Chip, Request}
use Rattle.gl_talk.specs.Formats.{Action, Nothing, Refuse, Ask, ResultFormat, Silent, Value, Level as LevelFormat, Bytes, Edges, Infos, Ready, Opened, Closed, Made, OldBytes, OldEdges, OldMade}
use Rattle.gl_talk.specs.declared.tools.StatementKind.{StatementKind}
use Rattle.gl_talk.specs.declared.tools.StatementKind.TheVariants.{Plain, ToolAlone, Starting, Stepping, Stopping}
use Rattle.gl_talk.specs.Old.{made_kind, old_command_word}
use Rattle.gl_talk.specs.Open.{File, MonitorTool, Names, SetTool, has_tool, held_of_name, is_file, is_monitor, is_set, monitor_slots, set_slots, watched_of_name, without_monitor, without_set}
use Rattle.gl_talk.specs.Actions.{action_here}
use Rattle.gl_talk.specs.Talk.{acts, does, does_by, file, keeps_monitor, keeps_set, replied_by, runs, starts, starts_said, starts_tool, steps, stops}
use Rattle.gl_talk.specs.ToolWords.{kind_of, word_texts}
use Rattle.gl_talk.specs.Words.{behind_three, behind_two, bytes_said, made_name, name_word, turns_word}
use Rattle.gl_talk.proofs.TalkNames.{ActionFits, file_times, monitor_more, one_more, open_times, here_at, set_more}
use Rattle.gl_values.specs.Client.{held_program, tool_program}
use Rattle.gl_values.specs.Set.{Held}
use Rattle.gl_values.specs.Set.{stops as stops_holding}
use Rattle.gl_values.proofs.ToolNames.{tool_at, held_at}
use Rattle.gl_values.proofs.ToolNames.{stops_at as holding_stops_at}

-- the slot of what an operation opens passes a test
abbrev pub Opens : (ℕ → Bool) → Do → Type 0
Opens test (OpenChip slot word) = test slot ≡ true
Opens test (Ioctl slot command len bytes made) = Where (nat_eq command GET_LINE) (test made ≡ true)
Opens test _ = Unit {0}

abbrev pub OpensOnly : {A : Type 0} → (ℕ → Bool) → Program A → Type 0
OpensOnly test (done value) = Unit {0}
OpensOnly test (print text p) = OpensOnly test p
OpensOnly test (ask what p) = Opens test what × ((got : Got) → IsKept what got → OpensOnly test (p got))

pub opens_then : {A B : Type 0} (test : ℕ → Bool) (p : Program A) (f : A → Program B) → OpensOnly test p → ((value : A) → OpensOnly test (f value)) → OpensOnly test (then_by p f)
opens_then test (done value) f h then = then value
opens_then test (print text p) f h then = opens_then test p f h then
opens_then test (ask what p) f h then = (h.0, λ got kept. opens_then test (p got) f (h.1 got kept) then)

-- what may be open no times opens no file in that slot
never : (s n : ℕ) → n + one_if (nat_eq s s) ≤ 0 → ⊥
never s n le = absurd (omega (arith, le, ap one_if (same_number s)))

passes_if : (b : Bool) (s n : ℕ) → (b ≡ false → n + one_if (nat_eq s s) ≤ 0) → b ≡ true
passes_if true s n h = refl
passes_if false s n h = absurd (never s n (h refl))

made_if : (b c : Bool) (s n : ℕ) → (c ≡ false → Where b (n + one_if (nat_eq s s) ≤ 0)) → Where b (c ≡ true)
made_if true c s n h = passes_if c s n h
made_if false c s n h = tt

opens_what : (test : ℕ → Bool) (n : ℕ → ℕ) (what : Do) → ((s : ℕ) → test s ≡ false → Fits s 0 (n s) what) → Opens test what
opens_what test n (Probe label lines) h = tt
opens_what test n (Unplug place) h = tt
opens_what test n (MakeDir path) h = tt
opens_what test n (RemoveDir path) h = tt
opens_what test n (Write path value) h = tt
opens_what test n (Read path) h = tt
opens_what test n (Live device up) h = tt
opens_what test n (Tick mono real) h = tt
opens_what test n (Pin place what) h = tt
opens_what test n (Irq place offset what) h = tt
opens_what test n (Pull place offset up) h = tt
opens_what test n (Level place offset pull) h = tt
opens_what test n (OpenChip slot word) h = passes_if (test slot) slot (n slot) (h slot)
opens_what test n (Find slot name) h = tt
opens_what test n (Ioctl slot command len bytes made) h = made_if (nat_eq command GET_LINE) (test made) made (n made) (λ e. (h made e).1)
opens_what test n (ReadFile slot len) h = tt
opens_what test n (Poll slot) h = tt
opens_what test n (Close slot) h = tt
opens_what test n (PlanPort nth) h = tt
opens_what test n (AcceptPort bits) h = tt
opens_what test n (Aggregate label joined count) h = tt

pub opens_by : {A : Type 0} (test : ℕ → Bool) (count : ℕ → A → ℕ) (p : Program A) (n : ℕ → ℕ) → ((s : ℕ) → test s ≡ false → Follows s 0 (count s) (n s) p) → OpensOnly test p
opens_by test count (done value) n h = tt
opens_by test count (print text p) n h = opens_by test count p n h
opens_by test count (ask what p) n h = (
  opens_what test n what (λ s e. (h s e).0),
  λ got kept. opens_by test count (p got) (λ s. behind s 0 (n s) what got) (λ s e. (h s e).1 got kept),
)

-- one of a statement's own two slots
abbrev pub is_own : ℕ → ℕ → Bool
is_own slot s = nat_eq s slot || nat_eq s (slot + 1)

not_own : (a b : Bool) → (a || b) ≡ false → 0 + one_if a + one_if b ≤ 0
not_own true b e = cc
not_own false true e = cc
not_own false false e = omega arith

module _ (slot : ℕ) where
  abbrev Own : {A : Type 0} → Program A → Type 0
  Own p = OpensOnly (is_own slot) p

  tool_opens : (tool : SaidTool) → Own (tool_program tool slot)
  tool_opens tool = opens_by (is_own slot) (λ s held. 0) (tool_program tool slot) (λ s. 0) (λ s e. tool_at s 0 0 tool slot (not_own (nat_eq s slot) (nat_eq s (slot + 1)) e))

  held_opens : (tool : SaidTool) → Own (held_program tool slot)
  held_opens tool = opens_by (is_own slot) (λ s held. counts s held + 0) (held_program tool slot) (λ s. 0) (λ s e. held_at s 0 0 tool slot (not_own (nat_eq s slot) (nat_eq s (slot + 1)) e))

  monitor_opens : (tool : SaidTool) → Own (monitor_program tool slot)
  monitor_opens tool =
      opens_by (is_own slot) (λ s o. counts s (watched_slot o) + 0) (monitor_program tool slot) (λ s. 0) (λ s e. monitor_at s 0 0 tool slot (not_own (nat_eq s slot) (nat_eq s (slot + 1)) e))

  steps_open : (o : Watched) (turns : ℕ) → Own (steps_held o turns)
  steps_open o turns = opens_by (is_own slot) (λ s after. counts s (watched_slot after) + 0) (steps_held o turns) (λ s. counts s (watched_slot o) + 0) (λ s e. steps_held_at s 0 0 o turns)

  watching_stops_open : (o : Watched) → Own (stops_watching o)
  watching_stops_open o = opens_by (is_own slot) (λ s after. counts s (watched_slot after) + 0) (stops_watching o) (λ s. counts s (watched_slot o) + 0) (λ s e. watching_stops_at s 0 0 o)

  holding_stops_open : (held : Held) → Own (stops_holding held)
  holding_stops_open held = opens_by (is_own slot) (λ s after. counts s after + 0) (stops_holding held) (λ s. counts s held + 0) (λ s e. holding_stops_at s 0 0 held)

  keeps_set_opens : (name : List ℕ) (names : Names) (held : Held) → Own (keeps_set name names held)
  keeps_set_opens name names held = tt

  keeps_monitor_opens : (name : List ℕ) (names : Names) (watched : Watched) → Own (keeps_monitor name names watched)
  keeps_monitor_opens name names watched = tt

  module _ (names : Names) (words : List Span) where
    replied_opens : (fault : Option Errno) (reply : ResultFormat) (got : Got) → Own (replied_by fault reply names slot words got)
    replied_opens (Some errno) reply got = tt
    replied_opens None Silent got = tt
    replied_opens None Value got = tt
    replied_opens None (LevelFormat is_pull) got = tt
    replied_opens None Bytes got = tt
    replied_opens None Edges got = tt
    replied_opens None Infos got = tt
    replied_opens None Ready got = tt
    replied_opens None Opened got = tt
    replied_opens None Closed got = tt
    replied_opens None Made got = tt
    replied_opens None (OldBytes kind) got = tt
    replied_opens None OldEdges got = tt
    replied_opens None OldMade got = tt

    own_first : is_own slot slot ≡ true
    own_first = ap (λ b. b || nat_eq slot (slot + 1)) (same_number slot)

    asks : (what : Do) (reply : ResultFormat) → Opens (is_own slot) what → Own (acts (Ask what reply) names slot words)
    asks what reply opens = (opens, λ got kept. replied_opens (refusal got) reply got)

    where_so : (b : Bool) (P : Type 0) → P → Where b P
    where_so true P h = h
    where_so false P h = tt

    acts_open : (action : Action) → ((s : ℕ) → ActionFits s 0 names slot words action) → Own (acts action names slot words)
    acts_open Nothing fits = tt
    acts_open (Refuse errno) fits = tt
    acts_open (Ask what Silent) fits = asks what Silent (opens_what (is_own slot) (λ s. open_times s names) what (λ s e. (fits s).0))
    acts_open (Ask what Value) fits = asks what Value (opens_what (is_own slot) (λ s. open_times s names) what (λ s e. (fits s).0))
    acts_open (Ask what (LevelFormat is_pull)) fits = asks what (LevelFormat is_pull) (opens_what (is_own slot) (λ s. open_times s names) what (λ s e. (fits s).0))
    acts_open (Ask what Bytes) fits = asks what Bytes (opens_what (is_own slot) (λ s. open_times s names) what (λ s e. (fits s).0))
    acts_open (Ask what Edges) fits = asks what Edges (opens_what (is_own slot) (λ s. open_times s names) what (λ s e. (fits s).0))
    acts_open (Ask what Infos) fits = asks what Infos (opens_what (is_own slot) (λ s. open_times s names) what (λ s e. (fits s).0))
    acts_open (Ask what Ready) fits = asks what Ready (opens_what (is_own slot) (λ s. open_times s names) what (λ s e. (fits s).0))
    acts_open (Ask what Opened) fits = asks what Opened (subst (λ w. Opens (is_own slot) w) (sym (fits 0).1) own_first)
    acts_open (Ask what Closed) fits = asks what Closed (subst (λ w. Opens (is_own slot) w) (sym (fits 0).1) tt)
    acts_open (Ask what Made) fits =
        asks what Made (subst (λ w. Opens (is_own slot) w) (sym (fits 0).4.0) (where_so (nat_eq (fits 0).1 GET_LINE) (is_own slot slot ≡ true) own_first))
    acts_open (Ask what (OldBytes kind)) fits = asks what (OldBytes kind) (opens_what (is_own slot) (λ s. open_times s names) what (λ s e. (fits s).0))
    acts_open (Ask what OldEdges) fits = asks what OldEdges (opens_what (is_own slot) (λ s. open_times s names) what (λ s e. (fits s).0))
    acts_open (Ask what OldMade) fits =
        asks what OldMade (subst (λ w. Opens (is_own slot) w) (sym (fits 0).4.0) (where_so (nat_eq (fits 0).1 GET_LINE) (is_own slot slot ≡ true) own_first))

    runs_open : (tool : Option SaidTool) → Own (runs tool names slot words)
    runs_open None = tt
    runs_open (Some tool) = opens_then (is_own slot) (tool_program tool slot) (λ _. done names) (tool_opens tool) (λ held. tt)

    starts_tool_open : (tool : SaidTool) (name : List ℕ) → Own (starts_tool tool names slot name)
    starts_tool_open (SaidDetect texts) name = tt
    starts_tool_open (SaidInfo opts) name = tt
    starts_tool_open (SaidGet opts) name = tt
    starts_tool_open (SaidSet opts) name = opens_then (is_own slot) (held_program (SaidSet opts) slot) (keeps_set name names) (held_opens (SaidSet opts)) (keeps_set_opens name names)
    starts_tool_open (SaidWatch opts) name = opens_then (is_own slot) (monitor_program (SaidWatch opts) slot) (keeps_monitor name names) (monitor_opens (SaidWatch opts)) (keeps_monitor_opens name names)
    starts_tool_open (SaidNotify opts) name = opens_then (is_own slot) (monitor_program (SaidNotify opts) slot) (keeps_monitor name names) (monitor_opens (SaidNotify opts)) (keeps_monitor_opens name names)

    starts_said_open : (tool : Option SaidTool) → Own (starts_said tool names slot words)
    starts_said_open None = tt
    starts_said_open (Some tool) = starts_tool_open tool (text_at 1 words)

    starts_open : (taken : Bool) → Own (starts taken names slot words)
    starts_open true = tt
    starts_open false = starts_said_open (tool_said (word_texts (behind_two words)))

    steps_open_in : (watched : Option Watched) (held : Option Held) → Own (steps watched held names words)
    steps_open_in None None = tt
    steps_open_in None (Some held) = tt
    steps_open_in (Some watched) held =
        opens_then (is_own slot) (steps_held watched (turns_word (text_at 2 words))) (keeps_monitor (text_at 1 words) (without_monitor (text_at 1 words) names)) (steps_open watched (turns_word (text_at 2 words)))
        (keeps_monitor_opens (text_at 1 words) (without_monitor (text_at 1 words) names))

    stops_open_in : (watched : Option Watched) (held : Option Held) → Own (stops watched held names words)
    stops_open_in None None = tt
    stops_open_in None (Some held) =
        opens_then (is_own slot) (stops_holding held) (keeps_set (text_at 1 words) (without_set (text_at 1 words) names)) (holding_stops_open held) (keeps_set_opens (text_at 1 words) (without_set (text_at 1 words) names))
    stops_open_in (Some watched) held =
        opens_then (is_own slot) (stops_watching watched) (keeps_monitor (text_at 1 words) (without_monitor (text_at 1 words) names)) (watching_stops_open watched)
        (keeps_monitor_opens (text_at 1 words) (without_monitor (text_at 1 words) names))

    kind_opens : (kind : StatementKind) → Own (does_by kind names slot words)
    kind_opens Plain = acts_open (action_here names.in_setup names.files slot words) (λ s. here_at s 0 names slot words)
    kind_opens ToolAlone = runs_open (tool_said (word_texts words))
    kind_opens Starting = starts_open (has_tool (text_at 1 words) names)
    kind_opens Stepping = steps_open_in (watched_of_name (text_at 1 words) names.monitors) (held_of_name (text_at 1 words) names.sets)
    kind_opens Stopping = stops_open_in (watched_of_name (text_at 1 words) names.monitors) (held_of_name (text_at 1 words) names.sets)

    pub statement_opens : OpensOnly (is_own slot) (does names slot words)
    statement_opens = kind_opens (kind_of (keyword_of (text_at 0 words)))

-- what a program gives that goes on by another's value
gives_then : {A B : Type 0} (P : B → Type 0) (p : Program A) (f : A → Program B) → ((value : A) → Gives P (f value)) → Gives P (then_by p f)
gives_then P (done value) f h = h value
gives_then P (print text p) f h = gives_then P p f h
gives_then P (ask what p) f h = λ got. gives_then P (p got) f h

-- a slot is one of the two at most
not_two : (slot x : ℕ) (a b : Bool) → nat_eq slot x ≡ a → nat_eq (slot + 1) x ≡ b → one_if a + one_if b ≤ 1
not_two slot x true true e f = grind (arith, nat_tests)
not_two slot x true false e f = omega arith
not_two slot x false true e f = omega arith
not_two slot x false false e f = omega arith

counts_two : (slot : ℕ) (o : Option ℕ) → counts slot o + counts (slot + 1) o ≤ 1
counts_two slot None = omega arith
counts_two slot (Some x) = not_two slot x (nat_eq slot x) (nat_eq (slot + 1) x) refl refl

-- a row less
module _ (s : ℕ) where
  files_if : (b : Bool) (x : File) (xs rest : List File) → file_times s rest ≤ file_times s xs → file_times s (cond b xs (x ∷ rest)) ≤ file_times s (x ∷ xs)
  files_if true x xs rest le = omega arith
  files_if false x xs rest le = omega (arith, le)

  files_fewer : (name : List ℕ) (files : List File) → file_times s (without_first (is_file name) files) ≤ file_times s files
  files_fewer name [] = omega arith
  files_fewer name (x ∷ xs) = files_if (is_file name x) x xs (without_first (is_file name) xs) (files_fewer name xs)

  sets_if : (b : Bool) (x : SetTool) (xs rest : List SetTool) → times s (set_slots rest) ≤ times s (set_slots xs) → times s (set_slots (cond b xs (x ∷ rest))) ≤ times s (set_slots (x ∷ xs))
  sets_if true x xs rest le = omega (arith, counts_with s x.held (set_slots xs))
  sets_if false x xs rest le = omega (arith, le, counts_with s x.held (set_slots xs), counts_with s x.held (set_slots rest))

  sets_fewer : (name : List ℕ) (tools : List SetTool) → times s (set_slots (without_first (is_set name) tools)) ≤ times s (set_slots tools)
  sets_fewer name [] = omega arith
  sets_fewer name (x ∷ xs) = sets_if (is_set name x) x xs (without_first (is_set name) xs) (sets_fewer name xs)

  monitors_if : (b : Bool) (x : MonitorTool) (xs rest : List MonitorTool) → times s (monitor_slots rest) ≤ times s (monitor_slots xs)
      → times s (monitor_slots (cond b xs (x ∷ rest))) ≤ times s (monitor_slots (x ∷ xs))
  monitors_if true x xs rest le = omega (arith, counts_with s (watched_slot x.watched) (monitor_slots xs))
  monitors_if false x xs rest le = omega (arith, le, counts_with s (watched_slot x.watched) (monitor_slots xs), counts_with s (watched_slot x.watched) (monitor_slots rest))

  monitors_fewer : (name : List ℕ) (tools : List MonitorTool) → times s (monitor_slots (without_first (is_monitor name) tools)) ≤ times s (monitor_slots tools)
  monitors_fewer name [] = omega arith
  monitors_fewer name (x ∷ xs) = monitors_if (is_monitor name x) x xs (without_first (is_monitor name) xs) (monitors_fewer name xs)

module _ (slot : ℕ) where
  abbrev pub own_open : Names → ℕ
  own_open names = open_times slot names + open_times (slot + 1) names

  abbrev pub IsOneMore : Names → Type 0
  IsOneMore names = own_open names ≤ 1

  one_set : (name : List ℕ) (names : Names) (held : Held) → own_open names ≤ 0 → Gives IsOneMore (keeps_set name names held)
  one_set name names None none = omega (arith, none)
  one_set name names (Some x) none =
      let tool : SetTool = record { name = name_word name; held = Some x } in
      omega (arith, none, set_more slot names.sets tool, set_more (slot + 1) names.sets tool, counts_two slot (Some x))

  one_monitor : (name : List ℕ) (names : Names) (watched : Watched) → own_open names ≤ 0 → Gives IsOneMore (keeps_monitor name names watched)
  one_monitor name names None none = omega (arith, none)
  one_monitor name names (Some w) none =
      let tool : MonitorTool = record { name = name_word name; watched = Some w } in
      omega (arith, none, monitor_more slot names.monitors tool, monitor_more (slot + 1) names.monitors tool, counts_two slot (watched_slot (Some w)))

  module _ (names : Names) (words : List Span) (none : own_open names ≤ 0) where
    still : IsOneMore names
    still = omega (arith, none)

    one_file : (name : List ℕ) (kind : TalkFileKind) → IsOneMore (record names { files = names.files ++ file name slot kind ∷ [] })
    one_file name kind =
        omega (arith, none, one_more slot names.files (file name slot kind), one_more (slot + 1) names.files (file name slot kind), counts_two slot (Some slot))

    one_replied : (fault : Option Errno) (reply : ResultFormat) (got : Got) → Gives IsOneMore (replied_by fault reply names slot words got)
    one_replied (Some errno) reply got = still
    one_replied None Silent got = still
    one_replied None Value got = still
    one_replied None (LevelFormat is_pull) got = still
    one_replied None Bytes got = still
    one_replied None Edges got = still
    one_replied None Infos got = still
    one_replied None Ready got = still
    one_replied None Opened got = one_file (text_at 1 words) Chip
    one_replied None Closed got = omega (arith, none, files_fewer slot (text_at 1 words) names.files, files_fewer (slot + 1) (text_at 1 words) names.files)
    one_replied None Made got = one_file (made_name words) Request
    one_replied None (OldBytes kind) got = still
    one_replied None OldEdges got = still
    one_replied None OldMade got = one_file (made_name words) (made_kind (old_command_word (text_at 2 words)) (bytes_said (behind_three words)))

    one_acts : (action : Action) → Gives IsOneMore (acts action names slot words)
    one_acts Nothing = still
    one_acts (Refuse errno) = still
    one_acts (Ask what reply) = λ got. one_replied (refusal got) reply got

    one_runs : (tool : Option SaidTool) → Gives IsOneMore (runs tool names slot words)
    one_runs None = still
    one_runs (Some tool) = gives_then IsOneMore (tool_program tool slot) (λ _. done names) (λ held. still)

    one_tool : (tool : SaidTool) (name : List ℕ) → Gives IsOneMore (starts_tool tool names slot name)
    one_tool (SaidDetect texts) name = still
    one_tool (SaidInfo opts) name = still
    one_tool (SaidGet opts) name = still
    one_tool (SaidSet opts) name = gives_then IsOneMore (held_program (SaidSet opts) slot) (keeps_set name names) (λ held. one_set name names held none)
    one_tool (SaidWatch opts) name = gives_then IsOneMore (monitor_program (SaidWatch opts) slot) (keeps_monitor name names) (λ watched. one_monitor name names watched none)
    one_tool (SaidNotify opts) name = gives_then IsOneMore (monitor_program (SaidNotify opts) slot) (keeps_monitor name names) (λ watched. one_monitor name names watched none)

    one_said : (tool : Option SaidTool) → Gives IsOneMore (starts_said tool names slot words)
    one_said None = still
    one_said (Some tool) = one_tool tool (text_at 1 words)

    one_starts : (taken : Bool) → Gives IsOneMore (starts taken names slot words)
    one_starts true = still
    one_starts false = one_said (tool_said (word_texts (behind_two words)))

    set_gone : own_open (without_set (text_at 1 words) names) ≤ 0
    set_gone = omega (arith, none, sets_fewer slot (text_at 1 words) names.sets, sets_fewer (slot + 1) (text_at 1 words) names.sets)

    monitor_gone : own_open (without_monitor (text_at 1 words) names) ≤ 0
    monitor_gone = omega (arith, none, monitors_fewer slot (text_at 1 words) names.monitors, monitors_fewer (slot + 1) (text_at 1 words) names.monitors)

    one_steps : (watched : Option Watched) (held : Option Held) → Gives IsOneMore (steps watched held names words)
    one_steps None None = still
    one_steps None (Some held) = still
    one_steps (Some watched) held =
        gives_then IsOneMore (steps_held watched (turns_word (text_at 2 words))) (keeps_monitor (text_at 1 words) (without_monitor (text_at 1 words) names))
        (λ after. one_monitor (text_at 1 words) (without_monitor (text_at 1 words) names) after monitor_gone)

    one_stops : (watched : Option Watched) (held : Option Held) → Gives IsOneMore (stops watched held names words)
    one_stops None None = still
    one_stops None (Some held) =
        gives_then IsOneMore (stops_holding held) (keeps_set (text_at 1 words) (without_set (text_at 1 words) names)) (λ after. one_set (text_at 1 words) (without_set (text_at 1 words) names) after set_gone)
    one_stops (Some watched) held =
        gives_then IsOneMore (stops_watching watched) (keeps_monitor (text_at 1 words) (without_monitor (text_at 1 words) names))
        (λ after. one_monitor (text_at 1 words) (without_monitor (text_at 1 words) names) after monitor_gone)

    one_kind : (kind : StatementKind) → Gives IsOneMore (does_by kind names slot words)
    one_kind Plain = one_acts (action_here names.in_setup names.files slot words)
    one_kind ToolAlone = one_runs (tool_said (word_texts words))
    one_kind Starting = one_starts (has_tool (text_at 1 words) names)
    one_kind Stepping = one_steps (watched_of_name (text_at 1 words) names.monitors) (held_of_name (text_at 1 words) names.sets)
    one_kind Stopping = one_stops (watched_of_name (text_at 1 words) names.monitors) (held_of_name (text_at 1 words) names.sets)

    pub one_file_more : Gives IsOneMore (does names slot words)
    one_file_more = one_kind (kind_of (keyword_of (text_at 0 words)))
