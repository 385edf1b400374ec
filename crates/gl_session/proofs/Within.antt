-- What is carried out on the device makes no more entries than it costs.
use Rattle.std.proofs.Common.{◌≡◌, ℕ, zero, suc, ◌+◌, ◌-◌, ◌<◌, ◌≤◌, Bool, true, false, List, [], ◌∷◌, ◌++◌, length, length-append, map, take, Option, None, Some, Result, Ok, Err, refl, sym, ap, ◌∙◌, subst, arith, true-eqb}
use Rattle.std.specs.Prelude.{cond, find, if◌then◌else◌, ◌==◌, nat_eq, nat_lt, sum_by}
use Rattle.std.proofs.lemmas.Bool.{true≢false}
use Rattle.std.proofs.lemmas.List.Sums.{sum_by-append, sum_by-cons}
use Rattle.gl_base.proofs.FirstRows.{length-without_first-le}
use Rattle.gl_base.specs.Rows.{without_first}
use Rattle.gl_base.specs.Words.{Span}
use Rattle.gl_base.specs.declared.command.TheConstants.{GET_LINE, LINE_SET_CONFIG, LINE_GET_VALUES, LINE_SET_VALUES}
use Rattle.gl_base.specs.declared.errno.Errno.{Errno}
use Rattle.gl_base.specs.declared.errno.Errno.TheVariants.{NoEnt, Inval}
use Rattle.gl_base.specs.declared.limits.TheConstants.{PLACES}
use Rattle.gl_base.specs.declared.operation.Do.{Do}
use Rattle.gl_base.specs.declared.operation.Do.TheVariants.{Probe as DoProbe, Unplug as DoUnplug, MakeDir as DoMakeDir, RemoveDir as DoRemoveDir, Write as DoWrite, Read as DoRead, Live as DoLive, Tick as DoTick, Pin as DoPin, Irq as DoIrq, Pull as DoPull, Level as DoLevel, OpenChip as DoOpenChip, Find as DoFind, Ioctl as DoIoctl, ReadFile, Poll, Close as DoClose, Plan, Accept, Aggregate}
use Rattle.gl_base.specs.declared.operation.Got.{Got}
use Rattle.gl_uapi.specs.Command.{command_of, commands, number_of}
use Rattle.gl_uapi.specs.declared.commands.Command.{Command}
use Rattle.gl_uapi.specs.declared.commands.Command.TheVariants.{ChipInfo, LineInfo, Watch, Unwatch, GetLine, SetConfig, GetValues, SetValues}
use Rattle.gl_world.specs.Deeds.{entries_in}
use Rattle.gl_world.specs.History.{entry}
use Rattle.gl_client.specs.Chips.{AsksNoChips}
use Rattle.gl_client.specs.Costs.{CostsAtMost, entries_of}
use Rattle.gl_client.specs.Entries.{command_made, entries_made}
use Rattle.gl_client.specs.Program.{Program, done, ask}
use Rattle.gl_base.specs.declared.lines.Lines.{Lines}
use Rattle.gl_driver.specs.Told.{Told}
use Rattle.gl_driver.specs.Maps.{with_map}
use Rattle.gl_driver.specs.declared.map.Map.{Map}
use Rattle.gl_driver.specs.declared.map.Target.{Target}
use Rattle.gl_base.specs.declared.op.Op.{Op}
use Rattle.gl_model.specs.declared.call.Call.{Call}
use Rattle.gl_model.specs.declared.call.Call.TheVariants.{Close}
use Rattle.gl_model.specs.declared.reply.Reply.{Reply}
use Rattle.gl_model.specs.declared.reply.Reply.TheVariants.{Done, Number, Go, Found, Text, Ready, Refused}
use Rattle.gl_model.specs.Entries.{begins}
use Rattle.gl_model.specs.declared.device_call.CommandIn.{CommandIn}
use Rattle.gl_model.specs.declared.device_call.DeviceCall.{DeviceCall}
use Rattle.gl_model.specs.declared.device_call.DeviceCall.TheVariants.{Once, Removing, Commanding}
use Rattle.gl_model.specs.Parts.{MakesAt, MakesCommand, MakesInside, MakesOne, MakesRest, MakesTwo, guard_of, is_driver_asked}
use Rattle.gl_script.specs.Columns.{columns}
use Rattle.gl_script.specs.Cost.{has_aggregate, section_cost, session_cost, statement_cost, statements_cost, with_own, words_cost}
use Rattle.gl_script.specs.Section.{SaidSection}
use Rattle.gl_script.specs.declared.section.SectionKind.{SectionKind}
use Rattle.gl_script.specs.declared.section.SectionKind.TheVariants.{Setup, Actor, After}
use Rattle.gl_talk.specs.Open.{Names, left_setup, no_names, setup_names}
use Rattle.gl_talk.specs.Talk.{quits}
use Rattle.gl_talk.proofs.StatementCosts.{end_cost, says_cost}
use Rattle.gl_asking.specs.Opened.{ChipFile, opened_of}
use Rattle.gl_core.specs.Device.{OneDeed, OneEntry}
use Rattle.gl_session.specs.Alone.{Part}
use Rattle.gl_check.specs.Drivers.{DriverKind, DriverOver, start_maps}
use Rattle.gl_check.specs.Joining.{Maps, asking_with, joined_at, joining_fault, joins, learned, maps_behind, targets_in}
use Rattle.gl_check.specs.Programs.{actor_of, after_of, setup_of}
use Rattle.gl_asking.specs.declared.kinds.Asking.{Asking}
use Rattle.gl_asking.specs.declared.kinds.Asking.TheVariants.{Calls, Plans, Accepts, Refuses}
use Rattle.gl_asking.specs.Asking.{asking, at_place, buffer_of, files_behind, has_lines, lines_named, made_by, made_on, on_file, once, opened, with_request}
use Rattle.gl_asking.specs.Driving.{op_asked}
use Rattle.gl_asking.specs.Files.{OpenFile, chip_file, file_in, is_in, line_file}
use Rattle.gl_check.specs.One.{is_kind, said_in_kind}
use Rattle.gl_check.specs.Turns.{Carried, Carries, Did, Exchange, Follows, IsDone, Said, Turn, carried, did_by}
use Rattle.gl_check.proofs.Asked.{unmapped}
use Rattle.gl_session.specs.Within.{CallsComeBelowCost, CallsHaveRoom, EntriesWithinCost, EntriesWithinPlainCost, SessionsCostTheirParts, SessionsKeepWithinCost, Stop, cost_in_kind}
use Rattle.gl_session.proofs.NoChips.{asks_none, turns_stay}
use Rattle.gl_session.proofs.OneHistories.{length_entries}

-- The entries of a call of the device

abbrev call_entries : DeviceCall → ℕ
call_entries (Once call) = 1
call_entries (Removing removal) = 2
call_entries (Commanding c) = if is_driver_asked c.of_chip c.len (command_of c.cmd) then 2 else 1

one_or_two : (b : Bool) → 1 ≤ (if b then 2 else 1)
one_or_two true = omega arith
one_or_two false = omega arith

two_at_most : (b : Bool) → (if b then 2 else 1) ≤ 2
two_at_most true = omega arith
two_at_most false = omega arith

call_least : (call : DeviceCall) → 1 ≤ call_entries call
call_least (Once call) = omega arith
call_least (Removing removal) = omega arith
call_least (Commanding c) = one_or_two (is_driver_asked c.of_chip c.len (command_of c.cmd))

one_entry : (n : ℕ) (call : Call) (es : List OneEntry) → MakesOne n call es → length es ≤ 1
one_entry n call es (reply, is) = subst (λ (x : List OneEntry). length x ≤ 1) (sym is) (omega arith)

two_entries : (n : ℕ) (first second : Call) (es : List OneEntry) → MakesTwo n first second [] es → length es ≤ 2
two_entries n first second es (reply, rest, is, makes) = by (begins first reply) makes
  where
    by : (b : Bool) → MakesRest n b second [] rest → length es ≤ 2
    by false m = subst (λ (x : List OneEntry). length x ≤ 2) (sym (is ∙ ap (λ (x : List OneEntry). entry n first reply ∷ x) m.0)) (omega arith)
    by true m = subst (λ (x : List OneEntry). length x ≤ 2) (sym (is ∙ ap (λ (x : List OneEntry). entry n first reply ∷ x) m.1)) (omega arith)

command_entered : (n : ℕ) (b : Bool) (answer : Option ℕ) (c : CommandIn) (es : List OneEntry) → MakesCommand n b answer c [] es → length es ≤ (if b then 2 else 1)
command_entered n true answer c es makes = two_entries n _ _ es makes
command_entered n false answer c es makes = one_entry n _ es makes.0

inside_entered : (n : ℕ) (call : DeviceCall) (answer : Option ℕ) (es : List OneEntry) → MakesInside n call answer [] es → length es ≤ call_entries call
inside_entered n (Once call) answer es makes = one_entry n call es makes.0
inside_entered n (Removing removal) answer es makes = two_entries n _ _ es makes.0
inside_entered n (Commanding c) answer es makes = command_entered n (is_driver_asked c.of_chip c.len (command_of c.cmd)) answer c es makes

call_entered : (n : ℕ) (guard : Option ℕ) (closed : Bool) (call : DeviceCall) (answer : Option ℕ) (es : List OneEntry) → MakesAt n guard closed call answer [] es → length es ≤ call_entries call
call_entered n None closed call answer es makes = inside_entered n call answer es makes
call_entered n (Some place) false call answer es makes = inside_entered n call answer es makes
call_entered n (Some place) true call answer es makes = let least = call_least call in let one = one_entry n _ es (_, makes.0) in omega arith

-- The same where the driver makes some of its own: eight at most, between two counted ones.

two_around : (n : ℕ) (first second : Call) (own es : List OneEntry) → MakesTwo n first second own es → length es ≤ 2 + length own
two_around n first second own es (reply, rest, is, makes) = by (begins first reply) makes
  where
    by : (b : Bool) → MakesRest n b second own rest → length es ≤ 2 + length own
    by false m = subst (λ (x : List OneEntry). length x ≤ 2 + length own) (sym (is ∙ ap (λ (x : List OneEntry). entry n first reply ∷ x) m.0)) (omega arith)
    by true m = let all = length-append own (entry n second m.0 ∷ []) in
        subst (λ (x : List OneEntry). length x ≤ 2 + length own) (sym (is ∙ ap (λ (x : List OneEntry). entry n first reply ∷ x) m.1)) (omega arith)

command_around : (n : ℕ) (b : Bool) (answer : Option ℕ) (c : CommandIn) (own es : List OneEntry) → length own ≤ 8 → MakesCommand n b answer c own es → length es ≤ with_own true (if b then 2 else 1)
command_around n true answer c own es few makes = let around = two_around n _ _ own es makes in omega arith
command_around n false answer c own es few makes = let one = one_entry n _ es makes.0 in omega arith

inside_around : (n : ℕ) (call : DeviceCall) (answer : Option ℕ) (own es : List OneEntry) → length own ≤ 8 → MakesInside n call answer own es → length es ≤ with_own true (call_entries call)
inside_around n (Once call) answer own es few makes = let one = one_entry n call es makes.0 in omega arith
inside_around n (Removing removal) answer own es few makes = let two = two_entries n _ _ es makes.0 in omega arith
inside_around n (Commanding c) answer own es few makes = command_around n (is_driver_asked c.of_chip c.len (command_of c.cmd)) answer c own es few makes

call_around : (n : ℕ) (guard : Option ℕ) (closed : Bool) (call : DeviceCall) (answer : Option ℕ) (own es : List OneEntry) → length own ≤ 8 → MakesAt n guard closed call answer own es → length es ≤ with_own true (call_entries call)
call_around n None closed call answer own es few makes = inside_around n call answer own es few makes
call_around n (Some place) false call answer own es few makes = inside_around n call answer own es few makes
call_around n (Some place) true call answer own es few makes = let least = call_least call in let one = one_entry n _ es (_, makes.0) in omega arith

-- What is counted once or five times

pub own_plus : (b : Bool) (x y : ℕ) → with_own b (x + y) ≡ with_own b x + with_own b y
own_plus true x y = omega arith
own_plus false x y = refl

pub own_most : (b : Bool) (x y : ℕ) → x ≤ y → with_own b x ≤ with_own b y
own_most true x y less = omega arith
own_most false x y less = less

pub own_below : (b : Bool) (x y : ℕ) → x < y → with_own b x < with_own b y
own_below true x y less = omega arith
own_below false x y less = less

pub own_none : (b : Bool) → with_own b 0 ≡ 0
own_none true = refl
own_none false = refl

pub sum_own : {A : Type 0} (b : Bool) (cost : A → ℕ) (xs : List A) → sum_by (λ x. with_own b (cost x)) xs ≡ with_own b (sum_by cost xs)
sum_own b cost [] = sym (own_none b)
sum_own b cost (x ∷ xs) =
    sum_by-cons (λ x. with_own b (cost x)) x xs ∙ ap (λ n. with_own b (cost x) + n) (sum_own b cost xs) ∙ sym (own_plus b (cost x) (sum_by cost xs)) ∙ ap (with_own b) (sym (sum_by-cons cost x xs))

-- The entries of an operation

abbrev MostOf : ℕ → Asking → Type 0
MostOf k (Calls call) = call_entries call ≤ k
MostOf k (Plans nth) = Unit {0}
MostOf k (Accepts bits) = Unit {0}
MostOf k (Refuses errno) = Unit {0}

no_deeds : (did : List OneDeed) (k : ℕ) → did ≡ [] → length did ≤ k
no_deeds did k none = subst (λ (l : List OneDeed). length l ≤ k) (sym none) (omega arith)

if_most : (b : Bool) (asks : Asking) (errno : Errno) (k : ℕ) → MostOf k asks → MostOf k (if b then asks else Refuses errno)
if_most true asks errno k h = h
if_most false asks errno k h = tt

at_place_most : (place k : ℕ) (asks : Asking) → MostOf k asks → MostOf k (at_place place asks)
at_place_most place k asks h = if_most (nat_lt place PLACES) asks NoEnt k h

on_file_most : (file : Option OpenFile) (on : OpenFile → Asking) (k : ℕ) → ((f : OpenFile) → MostOf k (on f)) → MostOf k (on_file file on)
on_file_most None on k h = tt
on_file_most (Some file) on k h = h file

abbrev is_there : {X : Type 0} → Option X → Bool
is_there None = false
is_there (Some x) = true

abbrev value_or : {X : Type 0} → X → Option X → X
value_or d None = d
value_or d (Some x) = x

passes : (test : Command → Bool) (xs : List Command) (x : Command) → find test xs ≡ Some x → test x ≡ true
passes test [] x is = absurd (true≢false (sym (ap (λ (o : Option Command). is_there o) is)))
passes test (y ∷ ys) x is = by (test y) refl is (λ found. passes test ys x found)
  where
    by : (b : Bool) → test y ≡ b → cond b (Some y) (find test ys) ≡ Some x → (find test ys ≡ Some x → test x ≡ true) → test x ≡ true
    by true t found later = subst (λ z. test z ≡ true) (ap (λ (o : Option Command). value_or y o) found) t
    by false t found later = later found

least_made : (a b c d : Bool) → 1 ≤ (if a then 2 else if b then 2 else if c then 2 else if d then 2 else 1)
least_made true b c d = omega arith
least_made false true c d = omega arith
least_made false false true d = omega arith
least_made false false false true = omega arith
least_made false false false false = omega arith

command_most : (of_chip : Bool) (len cmd : ℕ) → (if is_driver_asked of_chip len (command_of cmd) then 2 else 1) ≤ command_made cmd
command_most of_chip len cmd = by (command_of cmd) refl
  where
    least : 1 ≤ command_made cmd
    least = least_made (nat_eq cmd GET_LINE) (nat_eq cmd LINE_SET_CONFIG) (nat_eq cmd LINE_GET_VALUES) (nat_eq cmd LINE_SET_VALUES)

    numbered : (command : Command) → command_of cmd ≡ Some command → number_of command ≡ cmd
    numbered command is = true-eqb (number_of command) cmd (sym (passes (λ x. number_of x == cmd) commands command is))

    two : (command : Command) → command_of cmd ≡ Some command → command_made (number_of command) ≡ 2 → (if is_driver_asked of_chip len (Some command) then 2 else 1) ≤ command_made cmd
    two command is made = subst (λ k. (if is_driver_asked of_chip len (Some command) then 2 else 1) ≤ k) (sym made ∙ ap command_made (numbered command is)) (two_at_most (is_driver_asked of_chip len (Some command)))

    by : (found : Option Command) → command_of cmd ≡ found → (if is_driver_asked of_chip len found then 2 else 1) ≤ command_made cmd
    by None is = least
    by (Some ChipInfo) is = least
    by (Some LineInfo) is = least
    by (Some Watch) is = least
    by (Some Unwatch) is = least
    by (Some GetLine) is = two GetLine is refl
    by (Some SetConfig) is = two SetConfig is refl
    by (Some GetValues) is = two GetValues is refl
    by (Some SetValues) is = two SetValues is refl

op_most : (files : List OpenFile) (what : Do) → MostOf (entries_made what) (asking files what)
op_most files (DoProbe label lines) = if_most (has_lines lines) _ Inval 1 (omega arith)
op_most files (DoUnplug place) = at_place_most place 2 _ (omega arith)
op_most files (DoMakeDir path) = omega arith
op_most files (DoRemoveDir path) = omega arith
op_most files (DoWrite path value) = omega arith
op_most files (DoRead path) = omega arith
op_most files (DoLive device true) = omega arith
op_most files (DoLive device false) = omega arith
op_most files (DoTick mono real) = omega arith
op_most files (DoPin place what) = at_place_most place 1 _ (omega arith)
op_most files (DoIrq place offset what) = at_place_most place 1 _ (omega arith)
op_most files (DoPull place offset up) = at_place_most place 1 _ (omega arith)
op_most files (DoLevel place offset pull) = at_place_most place 1 _ (omega arith)
op_most files (DoOpenChip slot word) = omega arith
op_most files (DoFind None name) = omega arith
op_most files (DoFind (Some slot) name) = on_file_most (file_in slot files) _ 1 (λ f. omega arith)
op_most files (DoIoctl slot cmd len bytes made) = on_file_most (file_in slot files) _ (command_made cmd) (λ f. command_most f.of_chip _ cmd)
op_most files (ReadFile slot len) = on_file_most (file_in slot files) _ 1 (λ f. omega arith)
op_most files (Poll slot) = on_file_most (file_in slot files) _ 1 (λ f. omega arith)
op_most files (DoClose slot) = on_file_most (file_in slot files) _ 1 (λ f. omega arith)
op_most files (Plan nth) = tt
op_most files (Accept bits) = tt
op_most files (Aggregate label slots count) = tt

joins_most : (fault : Option Errno) (label : List ℕ) (targets : List Target) → MostOf 1 (joins fault label targets)
joins_most None label targets = omega arith
joins_most (Some errno) label targets = tt

with_most : (m : Maps) (files : List OpenFile) (what : Do) → MostOf (entries_made what) (asking_with m files what)
with_most m files (Aggregate label slots count) = joins_most (joining_fault m (targets_in (take count slots) files)) label (targets_in (take count slots) files)
with_most m files (DoProbe label lines) = op_most files (DoProbe label lines)
with_most m files (DoUnplug place) = op_most files (DoUnplug place)
with_most m files (DoMakeDir path) = op_most files (DoMakeDir path)
with_most m files (DoRemoveDir path) = op_most files (DoRemoveDir path)
with_most m files (DoWrite path value) = op_most files (DoWrite path value)
with_most m files (DoRead path) = op_most files (DoRead path)
with_most m files (DoLive device up) = op_most files (DoLive device up)
with_most m files (DoTick mono real) = op_most files (DoTick mono real)
with_most m files (DoPin place what) = op_most files (DoPin place what)
with_most m files (DoIrq place offset what) = op_most files (DoIrq place offset what)
with_most m files (DoPull place offset up) = op_most files (DoPull place offset up)
with_most m files (DoLevel place offset pull) = op_most files (DoLevel place offset pull)
with_most m files (DoOpenChip slot word) = op_most files (DoOpenChip slot word)
with_most m files (DoFind slot name) = op_most files (DoFind slot name)
with_most m files (DoIoctl slot cmd len bytes made) = op_most files (DoIoctl slot cmd len bytes made)
with_most m files (ReadFile slot len) = op_most files (ReadFile slot len)
with_most m files (Poll slot) = op_most files (Poll slot)
with_most m files (DoClose slot) = op_most files (DoClose slot)
with_most m files (Plan nth) = op_most files (Plan nth)
with_most m files (Accept bits) = op_most files (Accept bits)

-- The open files after an operation

one_more : (file : OpenFile) (files : List OpenFile) → length (files ++ file ∷ []) ≤ length files + 1
one_more file files = let l = length-append files (file ∷ []) in omega arith

opened_most : (slot : ℕ) (result : Result ChipFile Errno) (files : List OpenFile) → length (opened slot result files) ≤ length files + 1
opened_most slot (Ok file) files = one_more (chip_file slot file.place file.fd) files
opened_most slot (Err errno) files = omega arith

requested_most : (slot place : ℕ) (lines : Lines) (reply : Reply) (files : List OpenFile) → length (with_request slot place lines reply files) ≤ length files + 1
requested_most slot place lines (Number fd) files = one_more (line_file slot place fd lines) files
requested_most slot place lines Done files = omega arith
requested_most slot place lines (Go fd) files = omega arith
requested_most slot place lines (Found a b c) files = omega arith
requested_most slot place lines (Text a) files = omega arith
requested_most slot place lines (Ready a) files = omega arith
requested_most slot place lines (Refused a) files = omega arith

made_most : (slot : ℕ) (file : Option OpenFile) (lines : Lines) (reply : Reply) (files : List OpenFile) → length (made_on slot file lines reply files) ≤ length files + 1
made_most slot None lines reply files = omega arith
made_most slot (Some file) lines reply files = by file.of_chip
  where
    by : (b : Bool) → length (made_by b slot file.place lines reply files) ≤ length files + 1
    by true = requested_most slot file.place lines reply files
    by false = omega arith

closes_one : (test : OpenFile → Bool) (xs : List OpenFile) (x : OpenFile) → find test xs ≡ Some x → length (without_first test xs) + 1 ≤ length xs
closes_one test [] x is = absurd (true≢false (sym (ap (λ (o : Option OpenFile). is_there o) is)))
closes_one test (y ∷ ys) x is = by (test y) is (λ found. closes_one test ys x found)
  where
    by : (b : Bool) → cond b (Some y) (find test ys) ≡ Some x → (find test ys ≡ Some x → length (without_first test ys) + 1 ≤ length ys) → length (if b then ys else (y ∷ without_first test ys)) + 1 ≤ length (y ∷ ys)
    by true found later = omega arith
    by false found later = let rest = later found in omega arith

-- maps are never taken away
more_kept : (left : ℕ) (map : Map) (kept : List Map) → with_map left map kept ≡ [] → kept ≡ []
more_kept zero map kept none = none
more_kept (suc left) map [] none = refl
more_kept (suc left) map (first ∷ kept) none = cc

learned_kept : (reply : Reply) (targets : List Target) (m : Maps) → (learned reply targets m).kept ≡ [] → m.kept ≡ []
learned_kept (Number place) targets m none = more_kept m.left (joined_at place targets) m.kept none
learned_kept Done targets m none = none
learned_kept (Go fd) targets m none = none
learned_kept (Found a b c) targets m none = none
learned_kept (Text a) targets m none = none
learned_kept (Ready a) targets m none = none
learned_kept (Refused a) targets m none = none

behind_kept : (what : Do) (reply : Reply) (files : List OpenFile) (m : Maps) → (maps_behind what reply files m).kept ≡ [] → m.kept ≡ []
behind_kept (Aggregate label slots count) reply files m none = learned_kept reply (targets_in (take count slots) files) m none
behind_kept what reply files m none = none

-- a driver that may make some of its own makes eight at most; else no port keeps a map
abbrev pub Few : Bool → DriverKind → Maps → Type 0
Few true driver m = driver.limit ≤ 8
Few false driver m = m.kept ≡ []

module _ (b : Bool) (driver : DriverKind) (actor : ℕ) where
  few_turn : (s : Carried) (e : Exchange) (r : Carried) → Carries driver actor s e r → Few b driver r.maps → Few b driver s.maps
  few_turn s e r carries few = by b few
    where
      by : (b : Bool) → Few b driver r.maps → Few b driver s.maps
      by true few = few
      by false few = behind_kept e.what e.reply s.files s.maps (sym (ap (λ (m : Maps). m.kept) carries.maps) ∙ few)

  few_turns : {A : Type 0} (turns : List Turn) (p : Program A) (s : Carried) (q : Program A) (r : Carried) → Follows driver actor p s turns q r → Few b driver r.maps → Few b driver s.maps
  few_turns [] p s q r (is, same) few = subst (λ (c : Carried). Few b driver c.maps) (sym same) few
  few_turns (Said text ∷ turns) p s q r (next, mid, (is, same), follows) few = subst (λ (c : Carried). Few b driver c.maps) same (few_turns turns next mid q r follows few)
  few_turns (Did e ∷ turns) p s q r (next, mid, (goes, is, onward, carries), follows) few = few_turn s e mid carries (few_turns turns next mid q r follows few)

  asked_most : (m : Maps) (a : Asking) (op : Option Op) (k : ℕ) (e : Exchange) (before after : Option Told) → Few b driver m → MostOf k a → IsDone driver actor m a op e before after → length e.did ≤ with_own b k
  asked_most m (Calls call) op k e before after few most is = by b few
    where
      by : (b : Bool) → Few b driver m → length e.did ≤ with_own b k
      by false few = let made = call_entered actor (guard_of call) e.closed call e.answer (entries_in e.did) (unmapped driver actor op e before after m few call is).makes.1 in let same = length_entries e.did in omega arith
      by true few = let own = is.few_own in let made = call_around actor (guard_of call) e.closed call e.answer e.own (entries_in e.did) (omega arith) is.makes.1 in let same = length_entries e.did in omega arith
  asked_most m (Plans nth) op k e before after few most is = no_deeds e.did (with_own b k) is.0.did
  asked_most m (Accepts bits) op k e before after few most is = no_deeds e.did (with_own b k) is.0.did
  asked_most m (Refuses errno) op k e before after few most is = no_deeds e.did (with_own b k) is.0.did

  -- an operation makes so many counted entries at most, and these and the files after it come to what it costs and the files before it
  abbrev IsWithin : List OpenFile → Do → Exchange → Type 0
  IsWithin files what e = (k : ℕ) × (length e.did ≤ with_own b k) × (k + length (files_behind what e.reply files) ≤ entries_of what + length files)

  op_within : (m : Maps) (files : List OpenFile) (what : Do) (e : Exchange) (before after : Option Told) → Few b driver m → IsDone driver actor m (asking_with m files what) (op_asked files what) e before after
      → IsWithin files what e
  op_within m files what e before after few is = by what (asked_most m (asking_with m files what) (op_asked files what) (entries_made what) e before after few (with_most m files what) is) is
    where
      by : (what : Do) → length e.did ≤ with_own b (entries_made what) → IsDone driver actor m (asking_with m files what) (op_asked files what) e before after → IsWithin files what e
      by (DoProbe label lines) most is = (1, most, omega arith)
      by (DoUnplug place) most is = (2, most, omega arith)
      by (DoMakeDir path) most is = (1, most, omega arith)
      by (DoRemoveDir path) most is = (1, most, omega arith)
      by (DoWrite path value) most is = (1, most, omega arith)
      by (DoRead path) most is = (1, most, omega arith)
      by (DoLive device up) most is = (2, most, omega arith)
      by (DoTick mono real) most is = (1, most, omega arith)
      by (DoPin place what) most is = (1, most, omega arith)
      by (DoIrq place offset what) most is = (1, most, omega arith)
      by (DoPull place offset up) most is = (1, most, omega arith)
      by (DoLevel place offset pull) most is = (1, most, omega arith)
      by (DoOpenChip slot word) most is = let more = opened_most slot (opened_of word e.reply) files in (1, most, omega arith)
      by (DoFind slot name) most is = (1, most, omega arith)
      by (DoIoctl slot cmd len bytes made) most is = let more = made_most made (file_in slot files) (lines_named (buffer_of len bytes)) e.reply files in
          let rest : ℕ = if nat_eq cmd LINE_SET_CONFIG then 2 else if nat_eq cmd LINE_GET_VALUES then 2 else if nat_eq cmd LINE_SET_VALUES then 2 else 1 in (
            command_made cmd,
            most,
            elim (nat_eq cmd GET_LINE) as (λ b. (if b then 2 else rest) + length (if b then made_on made (file_in slot files) (lines_named (buffer_of len bytes)) e.reply files else files) ≤ (if b then 3 else rest) + length files)
                [ true ↦ omega arith | false ↦ omega arith ],
          )
      by (ReadFile slot len) most is = (1, most, omega arith)
      by (Poll slot) most is = (1, most, omega arith)
      by (DoClose slot) most is = closes (file_in slot files) refl is
        where
          closes : (file : Option OpenFile) → file_in slot files ≡ file → IsDone driver actor m (asking files (DoClose slot)) None e before after → IsWithin files (DoClose slot) e
          closes None none is = let fewer = length-without_first-le (is_in slot) files in
              (0, no_deeds e.did (with_own b 0) (subst (λ (f : Option OpenFile). IsDone driver actor m (on_file f (λ file. once (Close file.fd))) None e before after) none is).0.did, omega arith)
          closes (Some file) found is = let fewer = closes_one (is_in slot) files file found in (1, most, omega arith)
      by (Plan nth) most is = (0, most, omega arith)
      by (Accept bits) most is = (0, most, omega arith)
      by (Aggregate label slots count) most is = (1, most, omega arith)

  -- turns one after another
  pub within : (turns : List Turn) (n : ℕ) (program : Program Names) (s : Carried) (rest : Program Names) (r : Carried) → CostsAtMost n program → Follows driver actor program s turns rest r → Few b driver r.maps
      → (left : ℕ) × CostsAtMost left rest × (length (did_by turns) + with_own b (length r.files + left) ≤ with_own b (n + length s.files))
  within [] n program s rest r costs (is, same) few = let files : length s.files ≡ length r.files = ap (λ (c : Carried). length c.files) same in
      let less = own_most b (length r.files + n) (n + length s.files) (omega arith) in (n, subst (λ (p : Program Names). CostsAtMost n p) is costs, omega arith)
  within (Said text ∷ turns) n program s rest r costs (q, mid, (is, same), follows) few =
      let k : CostsAtMost n q = subst (λ (p : Program Names). CostsAtMost n p) is costs in
      let on = within turns n q mid rest r k follows few in let files = own_most b (n + length mid.files) (n + length s.files) (let same_files : length mid.files ≡ length s.files = ap (λ (c : Carried). length c.files) same in omega arith) in
      (on.0, on.1, omega (arith, on.2))
  within (Did e ∷ turns) n program s rest r costs (q, mid, (goes, is, next, carries), follows) few = let cost : ℕ = entries_of e.what in
      let k : (cost ≤ n) × ((got : Got) → CostsAtMost (n - cost) (goes got)) = subst (λ (p : Program Names). CostsAtMost n p) is costs in
      let on = within turns (n - cost) q mid rest r (subst (λ (p : Program Names). CostsAtMost (n - cost) p) (sym next) (k.1 _)) follows few in
      let here = op_within s.maps s.files e.what e s.told mid.told (few_turn s e mid carries (few_turns turns q mid rest r follows few)) carries.is_done in
      let files : length mid.files ≡ length (files_behind e.what e.reply s.files) = ap (λ (l : List OpenFile). length l) carries.files in
      let sum = own_most b (here.0 + ((n - cost) + length mid.files)) (n + length s.files) (omega (arith, here.2, k.0)) in
      let parts = own_plus b here.0 ((n - cost) + length mid.files) in
      let all : length (e.did ++ did_by turns) ≡ length e.did + length (did_by turns) = length-append e.did (did_by turns) in (on.0, on.1, omega (arith, on.2, here.1))

  pub part_within : (program : Program Names) (files : List OpenFile) (told : Option Told) (m : Maps) (part : Part driver program files told m) (n : ℕ) → actor ≡ 0 → CostsAtMost n program → Few b driver part.behind.maps
      → length part.did + with_own b (length part.behind.files) ≤ with_own b (n + length files)
  part_within program files told m part n first costs few =
      let w = within part.played.turns n program (carried files told m) (done part.names) part.behind costs (subst (λ k. Follows driver k program (carried files told m) part.played.turns (done part.names) part.behind) (sym first) part.played.follows) few in
      let less = own_most b (length part.behind.files) (length part.behind.files + w.0) (omega arith) in
      let same : length part.did ≡ length (did_by part.played.turns) = ap (λ (l : List OneDeed). length l) part.played.did_is in omega (arith, w.2)

pub entries_within_cost : (driver : DriverKind) → EntriesWithinCost driver
entries_within_cost driver limit actor n program s turns rest r costs follows = within true driver actor turns n program s rest r costs follows limit

pub entries_within_plain_cost : (driver : DriverKind) → EntriesWithinPlainCost driver
entries_within_plain_cost driver actor n program s turns rest r costs follows before behind =
    let w = within false driver actor turns n program s rest r costs follows behind in (w.0, w.1, omega (arith, w.2))

least_costs : (a b c d : Bool) → 1 ≤ (if a then 3 else if b then 2 else if c then 2 else if d then 2 else 1)
least_costs true b c d = omega arith
least_costs false true c d = omega arith
least_costs false false true d = omega arith
least_costs false false false true = omega arith
least_costs false false false false = omega arith

abbrev is_call : Asking → Bool
is_call (Calls call) = true
is_call (Plans nth) = false
is_call (Accepts bits) = false
is_call (Refuses errno) = false

-- a call of the device costs something, or closes a file
call_costs : (files : List OpenFile) (what : Do) (call : DeviceCall) → asking files what ≡ Calls call → 1 ≤ entries_of what + length files
call_costs files (DoProbe label lines) call is = omega arith
call_costs files (DoUnplug place) call is = omega arith
call_costs files (DoMakeDir path) call is = omega arith
call_costs files (DoRemoveDir path) call is = omega arith
call_costs files (DoWrite path value) call is = omega arith
call_costs files (DoRead path) call is = omega arith
call_costs files (DoLive device up) call is = omega arith
call_costs files (DoTick mono real) call is = omega arith
call_costs files (DoPin place what) call is = omega arith
call_costs files (DoIrq place offset what) call is = omega arith
call_costs files (DoPull place offset up) call is = omega arith
call_costs files (DoLevel place offset pull) call is = omega arith
call_costs files (DoOpenChip slot word) call is = omega arith
call_costs files (DoFind slot name) call is = omega arith
call_costs files (DoIoctl slot cmd len bytes made) call is = let least = least_costs (nat_eq cmd GET_LINE) (nat_eq cmd LINE_SET_CONFIG) (nat_eq cmd LINE_GET_VALUES) (nat_eq cmd LINE_SET_VALUES) in omega arith
call_costs files (ReadFile slot len) call is = omega arith
call_costs files (Poll slot) call is = omega arith
call_costs files (DoClose slot) call is = by (file_in slot files) refl
  where
    by : (file : Option OpenFile) → file_in slot files ≡ file → 1 ≤ 0 + length files
    by None none = absurd (true≢false (sym (ap is_call is) ∙ ap (λ (f : Option OpenFile). is_call (on_file f (λ file. once (Close file.fd)))) none))
    by (Some file) found = let fewer = closes_one (is_in slot) files file found in omega arith
call_costs files (Plan nth) call is = absurd (true≢false (sym (ap is_call is)))
call_costs files (Accept bits) call is = absurd (true≢false (sym (ap is_call is)))
call_costs files (Aggregate label slots count) call is = absurd (true≢false (sym (ap is_call is)))

with_costs : (m : Maps) (files : List OpenFile) (what : Do) (call : DeviceCall) → asking_with m files what ≡ Calls call → 1 ≤ entries_of what + length files
with_costs m files (Aggregate label slots count) call is = omega arith
with_costs m files (DoProbe label lines) call is = call_costs files (DoProbe label lines) call is
with_costs m files (DoUnplug place) call is = call_costs files (DoUnplug place) call is
with_costs m files (DoMakeDir path) call is = call_costs files (DoMakeDir path) call is
with_costs m files (DoRemoveDir path) call is = call_costs files (DoRemoveDir path) call is
with_costs m files (DoWrite path value) call is = call_costs files (DoWrite path value) call is
with_costs m files (DoRead path) call is = call_costs files (DoRead path) call is
with_costs m files (DoLive device up) call is = call_costs files (DoLive device up) call is
with_costs m files (DoTick mono real) call is = call_costs files (DoTick mono real) call is
with_costs m files (DoPin place what) call is = call_costs files (DoPin place what) call is
with_costs m files (DoIrq place offset what) call is = call_costs files (DoIrq place offset what) call is
with_costs m files (DoPull place offset up) call is = call_costs files (DoPull place offset up) call is
with_costs m files (DoLevel place offset pull) call is = call_costs files (DoLevel place offset pull) call is
with_costs m files (DoOpenChip slot word) call is = call_costs files (DoOpenChip slot word) call is
with_costs m files (DoFind slot name) call is = call_costs files (DoFind slot name) call is
with_costs m files (DoIoctl slot cmd len bytes made) call is = call_costs files (DoIoctl slot cmd len bytes made) call is
with_costs m files (ReadFile slot len) call is = call_costs files (ReadFile slot len) call is
with_costs m files (Poll slot) call is = call_costs files (Poll slot) call is
with_costs m files (DoClose slot) call is = call_costs files (DoClose slot) call is
with_costs m files (Plan nth) call is = call_costs files (Plan nth) call is
with_costs m files (Accept bits) call is = call_costs files (Accept bits) call is

pub below : (b : Bool) (driver : DriverKind) (actor n : ℕ) (program : Program Names) (s : Carried) (turns : List Turn) (what : Do) (later : Got → Program Names) (r : Carried) (call : DeviceCall)
    → CostsAtMost n program → Follows driver actor program s turns (ask what later) r → Few b driver r.maps → asking_with r.maps r.files what ≡ Calls call → length (did_by turns) < with_own b (n + length s.files)
below b driver actor n program s turns what later r call costs follows few is =
    let w = within b driver actor turns n program s (ask what later) r costs follows few in let next = with_costs r.maps r.files what call is in
    let some = own_below b 0 (length r.files + w.0) (omega (arith, w.1.0)) in let none = own_none b in omega (arith, w.2)

pub calls_come_below_cost : (driver : DriverKind) → CallsComeBelowCost driver
calls_come_below_cost driver limit actor n program s turns what later r call costs follows is = below true driver actor n program s turns what later r call costs follows limit is

-- The cost of a session's parts

lines_cost : (lines : List Span) → sum_by words_cost (map (λ line. columns line.text) lines) ≡ sum_by statement_cost lines
lines_cost [] = refl
lines_cost (line ∷ lines) = sum_by-cons words_cost (columns line.text) (map (λ line. columns line.text) lines) ∙ ap (λ n. statement_cost line + n) (lines_cost lines) ∙ sym (sum_by-cons statement_cost line lines)

abbrev told_in : SaidSection → List SaidSection → SectionKind → SectionKind → List (List Span)
told_in section sections kind k = if is_kind kind k then map (λ line. columns line.text) section.statements ++ said_in_kind kind sections else said_in_kind kind sections

kinds_cost : (sections : List SaidSection) → cost_in_kind Setup sections + cost_in_kind Actor sections + cost_in_kind After sections ≡ statements_cost sections
kinds_cost [] = refl
kinds_cost (section ∷ sections) = by section.kind (kinds_cost sections) ∙ sym (sum_by-cons section_cost section sections)
  where
    said : List (List Span)
    said = map (λ line. columns line.text) section.statements

    here : sum_by words_cost said ≡ section_cost section
    here = lines_cost section.statements

    more : (kind : SectionKind) → sum_by words_cost (map (λ line. columns line.text) section.statements ++ said_in_kind kind sections) ≡ section_cost section + cost_in_kind kind sections
    more kind = sum_by-append words_cost said (said_in_kind kind sections) ∙ ap (λ n. n + cost_in_kind kind sections) here

    by : (k : SectionKind) → cost_in_kind Setup sections + cost_in_kind Actor sections + cost_in_kind After sections ≡ statements_cost sections → sum_by words_cost (told_in section sections Setup k) + sum_by words_cost (told_in section sections Actor k) + sum_by words_cost (told_in section sections After k) ≡ section_cost section + statements_cost sections
    by Setup rest = let m = more Setup in omega arith
    by Actor rest = let m = more Actor in omega arith
    by After rest = let m = more After in omega arith

pub sessions_cost_their_parts : SessionsCostTheirParts
sessions_cost_their_parts sections = record {
  setup = says_cost 0 (said_in_kind Setup sections) done (λ names. tt) setup_names;
  actor = says_cost 0 (said_in_kind Actor sections) quits end_cost no_names;
  last = λ names. says_cost (length (said_in_kind Setup sections)) (said_in_kind After sections) quits end_cost (left_setup names);
  whole = kinds_cost sections;
  within = by (has_aggregate sections);
}
  where
    by : (b : Bool) → statements_cost sections ≤ with_own b (statements_cost sections)
    by true = omega arith
    by false = omega arith

-- the parts of a session cost together what it costs
pub parts_cost : (sections : List SaidSection) → let b : Bool = has_aggregate sections in
    with_own b (cost_in_kind Setup sections) + with_own b (cost_in_kind Actor sections) + with_own b (cost_in_kind After sections) ≡ session_cost sections
parts_cost sections = let b : Bool = has_aggregate sections in
    sym (own_plus b (cost_in_kind Setup sections + cost_in_kind Actor sections) (cost_in_kind After sections) ∙ ap (λ n. n + with_own b (cost_in_kind After sections)) (own_plus b (cost_in_kind Setup sections) (cost_in_kind Actor sections)))
    ∙ ap (with_own b) (kinds_cost sections)

-- A session without `aggregate` teaches no port a map; with one, a driver makes eight entries of its own at most.
pub few_in : (driver : DriverOver) (sections : List SaidSection) → driver.kind.limit ≤ 8 → (m : Maps) → (has_aggregate sections ≡ false → m.kept ≡ []) → Few (has_aggregate sections) driver.kind m
few_in driver sections limit m none = by (has_aggregate sections) none
  where
    by : (b : Bool) → (b ≡ false → m.kept ≡ []) → Few b driver.kind m
    by true none = limit
    by false none = none refl

pub few_behind : (driver : DriverOver) (sections : List SaidSection) → driver.kind.limit ≤ 8 → (actor : ℕ) (p : Program Names) (s : Carried) (turns : List Turn) (q : Program Names) (r : Carried) → Follows driver.kind actor p s turns q r
    → (has_aggregate sections ≡ false → AsksNoChips p) → (has_aggregate sections ≡ false → s.maps.kept ≡ []) → Few (has_aggregate sections) driver.kind r.maps
few_behind driver sections limit actor p s turns q r follows asks none =
    few_in driver sections limit r.maps (λ without. ap (λ (m : Maps). m.kept) (turns_stay driver.kind actor p s turns q r (asks without) follows).1 ∙ none without)

-- so it is behind each part of a session of one actor
module _ (driver : DriverOver) (sections : List SaidSection) (before : Option Told) (setup : Part driver.kind (setup_of sections) [] before (start_maps driver)) where
  pub none_behind_setup : has_aggregate sections ≡ false → setup.behind.maps.kept ≡ []
  none_behind_setup without = ap (λ (m : Maps). m.kept) (turns_stay driver.kind 0 _ _ setup.played.turns _ setup.behind (asks_none sections without).setup setup.played.follows).1

  module _ (actor : Part driver.kind (actor_of sections) [] setup.behind.told setup.behind.maps) where
    pub none_behind_actor : has_aggregate sections ≡ false → actor.behind.maps.kept ≡ []
    none_behind_actor without = ap (λ (m : Maps). m.kept) (turns_stay driver.kind 0 _ _ actor.played.turns _ actor.behind (asks_none sections without).alone actor.played.follows).1 ∙ none_behind_setup without

pub sessions_keep_within_cost : (driver : DriverOver) → SessionsKeepWithinCost driver
sessions_keep_within_cost driver limit sections before left text did p = let costs = sessions_cost_their_parts sections in let b : Bool = has_aggregate sections in
    let first = part_within b driver.kind 0 _ [] before (start_maps driver) p.setup (cost_in_kind Setup sections) refl costs.setup (few_in driver sections limit p.setup.behind.maps (none_behind_setup driver sections before p.setup)) in
    let middle = part_within b driver.kind 0 _ [] p.setup.behind.told p.setup.behind.maps p.actor (cost_in_kind Actor sections) refl costs.actor (few_in driver sections limit p.actor.behind.maps (none_behind_actor driver sections before p.setup p.actor)) in
    let end = part_within b driver.kind 0 _ p.setup.behind.files p.actor.behind.told p.actor.behind.maps p.last (cost_in_kind After sections) refl (costs.last p.setup.names)
    (few_behind driver sections limit 0 _ _ p.last.played.turns _ p.last.behind p.last.played.follows (λ without. (asks_none sections without).after p.setup.names) (none_behind_actor driver sections before p.setup p.actor)) in
    let all : length did ≡ length (p.setup.did ++ (p.actor.did ++ p.last.did)) = ap (λ (l : List OneDeed). length l) p.did_is in
    let outer = length-append p.setup.did (p.actor.did ++ p.last.did) in let inner = length-append p.actor.did p.last.did in let whole = parts_cost sections in
    let one = own_plus b (cost_in_kind Setup sections) 0 in let two = own_plus b (cost_in_kind Actor sections) 0 in let three = own_plus b (cost_in_kind After sections) (length p.setup.behind.files) in let none = own_none b in omega arith

module _ (driver : DriverOver) (sections : List SaidSection) (limit : driver.kind.limit ≤ 8) where
  stop_below : (program : Program Names) (files : List OpenFile) (told : Option Told) (m : Maps) (stop : Stop driver.kind program files told m) (n : ℕ) → CostsAtMost n program
      → (has_aggregate sections ≡ false → AsksNoChips program) → (has_aggregate sections ≡ false → m.kept ≡ []) → length (did_by stop.turns) < with_own (has_aggregate sections) (n + length files)
  stop_below program files told m stop n costs asks none =
      below (has_aggregate sections) driver.kind 0 n program (carried files told m) stop.turns stop.what stop.later stop.behind stop.call costs stop.follows
      (few_behind driver sections limit 0 program (carried files told m) stop.turns _ stop.behind stop.follows asks none) stop.calls

pub calls_have_room : (driver : DriverOver) → CallsHaveRoom driver
calls_have_room driver = record {
  in_setup = λ limit sections before stop. let costs = sessions_cost_their_parts sections in let whole = parts_cost sections in let b : Bool = has_aggregate sections in
      let fewer = stop_below driver sections limit (setup_of sections) [] before (start_maps driver) stop (cost_in_kind Setup sections) costs.setup (λ without. (asks_none sections without).setup) (λ without. refl) in
      let one = own_plus b (cost_in_kind Setup sections) 0 in let none = own_none b in omega arith;
  in_actor = λ limit sections before setup stop. let costs = sessions_cost_their_parts sections in let whole = parts_cost sections in let b : Bool = has_aggregate sections in
      let first = part_within b driver.kind 0 (setup_of sections) [] before (start_maps driver) setup (cost_in_kind Setup sections) refl costs.setup (few_in driver sections limit setup.behind.maps (none_behind_setup driver sections before setup)) in
      let fewer = stop_below driver sections limit (actor_of sections) [] setup.behind.told setup.behind.maps stop (cost_in_kind Actor sections) costs.actor (λ without. (asks_none sections without).alone) (none_behind_setup driver sections before setup) in
      let one = own_plus b (cost_in_kind Setup sections) 0 in let two = own_plus b (cost_in_kind Actor sections) 0 in let none = own_none b in
      let all = length-append setup.did (did_by stop.turns) in omega arith;
  in_after = λ limit sections before setup actor stop. let costs = sessions_cost_their_parts sections in let whole = parts_cost sections in let b : Bool = has_aggregate sections in
      let first = part_within b driver.kind 0 (setup_of sections) [] before (start_maps driver) setup (cost_in_kind Setup sections) refl costs.setup (few_in driver sections limit setup.behind.maps (none_behind_setup driver sections before setup)) in
      let middle = part_within b driver.kind 0 (actor_of sections) [] setup.behind.told setup.behind.maps actor (cost_in_kind Actor sections) refl costs.actor (few_in driver sections limit actor.behind.maps (none_behind_actor driver sections before setup actor)) in
      let fewer = stop_below driver sections limit (after_of sections setup.names) setup.behind.files actor.behind.told actor.behind.maps stop (cost_in_kind After sections) (costs.last setup.names)
      (λ without. (asks_none sections without).after setup.names) (none_behind_actor driver sections before setup actor) in
      let one = own_plus b (cost_in_kind Setup sections) 0 in let two = own_plus b (cost_in_kind Actor sections) 0 in let three = own_plus b (cost_in_kind After sections) (length setup.behind.files) in let none = own_none b in
      let outer = length-append setup.did (actor.did ++ did_by stop.turns) in let inner = length-append actor.did (did_by stop.turns) in omega arith;
}
