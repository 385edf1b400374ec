-- What an operation gives up to its call, and what is kept behind it.
use Rattle.std.proofs.Common.{◌≡◌, ◌≢◌, ℕ, Bool, true, false, List, [], ◌∷◌, take, Option, None, Some, refl, sym, ap, ◌∙◌, subst}
use Rattle.std.specs.Prelude.{if◌then◌else◌, cond, find, is_some, nat_eq, nat_lt}
use Rattle.gl_base.specs.declared.command.TheConstants.{GET_LINE}
use Rattle.gl_base.specs.declared.errno.Errno.{Errno}
use Rattle.gl_base.specs.declared.limits.TheConstants.{PLACES}
use Rattle.gl_base.specs.declared.lines.Lines.{Lines}
use Rattle.gl_base.specs.declared.operation.Do.{Do}
use Rattle.gl_base.specs.declared.operation.Do.TheVariants.{Probe as DoProbe, Unplug as DoUnplug, MakeDir as DoMakeDir, RemoveDir as DoRemoveDir, Write as DoWrite, Read as DoRead, Live as DoLive, Tick as DoTick, Pin as DoPin, Irq as DoIrq, Pull as DoPull, Level as DoLevel, OpenChip as DoOpenChip, Find as DoFind, Ioctl as DoIoctl, ReadFile, Poll, Close as DoClose, Plan, Accept, Aggregate}
use Rattle.gl_driver.specs.declared.map.Target.{Target}
use Rattle.gl_model.specs.declared.call.Call.{Call}
use Rattle.gl_model.specs.declared.device_call.DeviceCall.{DeviceCall}
use Rattle.gl_model.specs.declared.device_call.DeviceCall.TheVariants.{Once}
use Rattle.gl_model.specs.declared.reply.Reply.{Reply}
use Rattle.gl_model.specs.declared.reply.Reply.TheVariants.{Done, Number, Refused}
use Rattle.gl_core.specs.Device.{OneEntry}
use Rattle.gl_asking.specs.Asking.{asking, buffer_of, file_for, files_behind, finds, has_lines, lines_named, lives, made_on, on_file}
use Rattle.gl_asking.specs.Files.{OpenFile, file_in, is_in, without_file}
use Rattle.gl_asking.specs.Rows.{file_of, row_file}
use Rattle.gl_asking.specs.declared.kinds.Asking.{Asking}
use Rattle.gl_asking.specs.declared.kinds.Asking.TheVariants.{Calls, Plans, Accepts, Refuses}
use Rattle.gl_asking.specs.declared.kinds.FileRow.{FileRow}
use Rattle.gl_chip.specs.Held.{is_close}
use Rattle.gl_check.specs.Joining.{Maps, asking_with, joining_fault, joins, maps_behind, targets_in}
use Rattle.gl_session.specs.Asked.{JoinsAt, MayLearn, given_up_by, left_for}
use Rattle.gl_session.specs.Placed.{AreFilesPlaced}
use Rattle.gl_session.proofs.Placing.{each_left}

-- The file that an operation names is found among those that are left, where it gave none up.
left_same : (slot : ℕ) (files : List OpenFile) → None ≡ file_in slot files → without_file slot files ≡ files
left_same slot [] is = refl
left_same slot (x ∷ files) is = by (is_in slot x) is (λ later. left_same slot files later)
  where
    by : (b : Bool) → None ≡ cond b (Some x) (find (is_in slot) files) → (None ≡ find (is_in slot) files → without_file slot files ≡ files) → cond b files (x ∷ without_file slot files) ≡ x ∷ files
    by true is later = cc
    by false is later = ap (λ (l : List OpenFile). x ∷ l) (later is)

pub found_left : (what : Do) (files : List OpenFile) → None ≡ given_up_by what files → file_for what files ≡ file_for what (left_for what files)
found_left (DoClose slot) files is = ap (λ (l : List OpenFile). file_in slot l) (sym (left_same slot files is))
found_left what files is = refl

-- and is the one that it gave up
pub found_given : (what : Do) (files : List OpenFile) (row : FileRow) → Some (row_file row) ≡ given_up_by what files → file_for what files ≡ Some (row_file row)
found_given (DoClose slot) files row is = sym is
found_given what files row is = cc

-- Only a chip over requests goes by the maps.
pub plain_asking : (what : Do) → ((label slots : List ℕ) (count : ℕ) → what ≢ Aggregate label slots count) → (m : Maps) (files : List OpenFile) → asking files what ≡ asking_with m files what
plain_asking (Aggregate label slots count) other m files = absurd (other label slots count refl)
plain_asking what other m files = refl

-- Just a close gives its file up.
abbrev ForCall : (DeviceCall → Type 0) → Asking → Type 0
ForCall P (Calls call) = P call
ForCall P (Plans nth) = Unit {0}
ForCall P (Accepts bits) = Unit {0}
ForCall P (Refuses errno) = Unit {0}

abbrev Closes : Bool → DeviceCall → Type 0
Closes given call = given ≡ is_close call

chosen : (call : DeviceCall) (errno : Errno) (b : Bool) → false ≡ is_close call → ForCall (Closes false) (if b then Calls call else Refuses errno)
chosen call errno true is = is
chosen call errno false is = tt

live_call : (device : List ℕ) (up : Bool) → ForCall (Closes false) (lives device up)
live_call device true = refl
live_call device false = refl

on_one : (o : Option OpenFile) (call : OpenFile → DeviceCall) → ((file : OpenFile) → false ≡ is_close (call file)) → ForCall (Closes false) (on_file o (λ file. Calls (call file)))
on_one None call is = tt
on_one (Some file) call is = is file

find_call : (slot : Option ℕ) (name : List ℕ) (files : List OpenFile) → ForCall (Closes false) (finds slot name files)
find_call None name files = refl
find_call (Some slot) name files = on_one (file_in slot files) _ (λ file. refl)

either_call : (b : Bool) (x y : Call) → false ≡ is_close (Once x) → false ≡ is_close (Once y) → false ≡ is_close (Once (if b then x else y))
either_call true x y a c = a
either_call false x y a c = c

close_call : (o : Option OpenFile) (call : OpenFile → DeviceCall) → ((file : OpenFile) → true ≡ is_close (call file)) → ForCall (Closes (is_some o)) (on_file o (λ file. Calls (call file)))
close_call None call is = tt
close_call (Some file) call is = is file

join_call : (label : List ℕ) (targets : List Target) (fault : Option Errno) → ForCall (Closes false) (joins fault label targets)
join_call label targets None = refl
join_call label targets (Some errno) = tt

module _ (m : Maps) (files : List OpenFile) where
  closes : (what : Do) → ForCall (Closes (is_some (given_up_by what files))) (asking_with m files what)
  closes (DoProbe label lines) = chosen _ _ (has_lines lines) refl
  closes (DoUnplug place) = chosen _ _ (nat_lt place PLACES) refl
  closes (DoMakeDir path) = refl
  closes (DoRemoveDir path) = refl
  closes (DoWrite path value) = refl
  closes (DoRead path) = refl
  closes (DoLive device up) = live_call device up
  closes (DoTick mono real) = refl
  closes (DoPin place what) = chosen _ _ (nat_lt place PLACES) refl
  closes (DoIrq place offset what) = chosen _ _ (nat_lt place PLACES) refl
  closes (DoPull place offset up) = chosen _ _ (nat_lt place PLACES) refl
  closes (DoLevel place offset pull) = chosen _ _ (nat_lt place PLACES) refl
  closes (DoOpenChip slot word) = refl
  closes (DoFind slot name) = find_call slot name files
  closes (DoIoctl slot cmd len bytes made) = on_one (file_in slot files) _ (λ file. refl)
  closes (ReadFile slot len) = on_one (file_in slot files) _ (λ file. either_call file.of_chip _ _ refl refl)
  closes (Poll slot) = on_one (file_in slot files) _ (λ file. either_call file.of_chip _ _ refl refl)
  closes (DoClose slot) = close_call (file_in slot files) _ (λ file. refl)
  closes (Plan nth) = tt
  closes (Accept bits) = tt
  closes (Aggregate label slots count) = let targets : List Target = targets_in (take count slots) files in join_call label targets (joining_fault m targets)

  same_given : (given : Option FileRow) → is_some given ≡ is_some (file_of given)
  same_given None = refl
  same_given (Some row) = refl

  pub closes_given : (what : Do) (given : Option FileRow) (call : DeviceCall) → file_of given ≡ given_up_by what files → Calls call ≡ asking_with m files what → is_some given ≡ is_close call
  closes_given what given call is asks =
      same_given given ∙ ap (λ (o : Option OpenFile). is_some o) is ∙ subst (λ (a : Asking). ForCall (Closes (is_some (given_up_by what files))) a) (sym asks) (closes what)

  -- What is said to the port leaves the files.
  abbrev IsSaid : Asking → Type 0
  IsSaid (Calls call) = ⊥
  IsSaid (Plans nth) = Unit {0}
  IsSaid (Accepts bits) = Unit {0}
  IsSaid (Refuses errno) = ⊥

  not_on_file : {A : Type 0} (o : Option OpenFile) (call : OpenFile → DeviceCall) → IsSaid (on_file o (λ file. Calls (call file))) → A
  not_on_file None call is = absurd is
  not_on_file (Some file) call is = absurd is

  said_leaves : (what : Do) → IsSaid (asking_with m files what) → left_for what files ≡ files_behind what Done files
  said_leaves (DoOpenChip slot word) is = absurd is
  said_leaves (DoIoctl slot cmd len bytes made) is = not_on_file (file_in slot files) _ is
  said_leaves (DoClose slot) is = refl
  said_leaves what is = refl

  pub planned_leaves : (what : Do) (nth : ℕ) → Plans nth ≡ asking_with m files what → left_for what files ≡ files_behind what Done files
  planned_leaves what nth is = said_leaves what (subst (λ (a : Asking). IsSaid a) is tt)

  pub accepted_leaves : (what : Do) (bits : ℕ) → Accepts bits ≡ asking_with m files what → left_for what files ≡ files_behind what Done files
  accepted_leaves what bits is = said_leaves what (subst (λ (a : Asking). IsSaid a) is tt)

-- So does a refusal.
none_made : (slot : ℕ) (o : Option OpenFile) (lines : Lines) (errno : Errno) (files : List OpenFile) → files ≡ made_on slot o lines (Refused errno) files
none_made slot None lines errno files = refl
none_made slot (Some file) lines errno files = by file.of_chip
  where
    by : (b : Bool) → files ≡ made_on slot (Some (record file { of_chip = b })) lines (Refused errno) files
    by true = refl
    by false = refl

pub refused_leaves : (what : Do) (errno : Errno) (files : List OpenFile) → left_for what files ≡ files_behind what (Refused errno) files
refused_leaves (DoOpenChip slot word) errno files = refl
refused_leaves (DoIoctl slot cmd len bytes made) errno files = by (nat_eq cmd GET_LINE)
  where
    by : (b : Bool) → files ≡ (if b then made_on made (file_in slot files) (lines_named (buffer_of len bytes)) (Refused errno) files else files)
    by true = none_made made (file_in slot files) (lines_named (buffer_of len bytes)) errno files
    by false = refl
refused_leaves (DoClose slot) errno files = refl
refused_leaves what errno files = refl

-- Those that are left stay placed.
pub left_placed : (seen : List OneEntry) (what : Do) (files : List OpenFile) → AreFilesPlaced seen files → AreFilesPlaced seen (left_for what files)
left_placed seen (DoClose slot) files placed = each_left _ slot files placed
left_placed seen what files placed = placed

-- A map is learned of the files after an operation as of those before it.
pub learned_behind : (what : Do) (reply : Reply) (files : List OpenFile) (m : Maps) → maps_behind what reply (files_behind what reply files) m ≡ maps_behind what reply files m
learned_behind (Aggregate label slots count) reply files m = refl
learned_behind what reply files m = refl

joins_behind : (what : Do) (place : ℕ) (reply : Reply) (files : List OpenFile) (m : Maps) (seen : List OneEntry) → JoinsAt place what files m seen → JoinsAt place what (files_behind what reply files) m seen
joins_behind (Aggregate label slots count) place reply files m seen h = h
joins_behind what place reply files m seen h = tt

pub may_behind : (what : Do) (reply : Reply) (files : List OpenFile) (m : Maps) (seen : List OneEntry) → MayLearn reply what files m seen → MayLearn reply what (files_behind what reply files) m seen
may_behind what (Number place) files m seen h = joins_behind what place (Number place) files m seen h
may_behind what reply files m seen h = tt
