-- What the calls on the tree leave of the states of its devices.
use Rattle.std.proofs.Common.{◌≡◌, ◌+◌, ◌≤◌, ◌⊎◌, List, [], ◌∷◌, ◌++◌, ℕ, suc, length, refl, sym, ap, ◌∙◌, Bool, true, false, cond, Option, Some, None, arith, inl, inr}
use Rattle.std.specs.Prelude.{nat_le, not, unwrap_or, ◌||◌}
use Rattle.std.specs.List.{filter, find, list_any}
use Rattle.std.specs.Option.{option_map}
use Rattle.std.specs.Str.{bytes_eq}
use Rattle.std.proofs.lemmas.Bool.{true≢false}
use Rattle.std.proofs.lemmas.Slice.Eq.{bytes_eq-Decides}
use Rattle.gl_base.specs.Refusals.{when, first_of}
use Rattle.gl_base.specs.Rows.{change_first, without_first}
use Rattle.gl_base.specs.declared.errno.Errno.TheVariants.{Busy, Exist, NoEnt, NoSpc}
use Rattle.gl_simtree.specs.Calls.{is_leaving, made, mkdir_refusal, removed, rmdir_refusal, written}
use Rattle.gl_simtree.specs.Rows.{device_of, has, has_parent, is_busy, is_busy_state, is_row_in, is_row_of, new_row, row_state, row_with_state, state_of, with_state}
use Rattle.gl_simtree.specs.declared.limits.TheConstants.{DIRECTORIES_MAX}
use Rattle.gl_simtree.specs.Values.{lines_of_text, row_written, some_text, way_of_text}
use Rattle.gl_simtree.specs.declared.node.Directory.{Directory}
use Rattle.gl_simtree.specs.declared.node.Directory.TheVariants.{Device, Bank, Line, Hog}
use Rattle.gl_simtree.specs.declared.node.File.{File}
use Rattle.gl_simtree.specs.declared.node.File.TheVariants.{Live as LiveFile, ChipName, NumLines, Label, LineName, HogName, Direction}
use Rattle.gl_simtree.specs.declared.node.Node.{Node}
use Rattle.gl_simtree.specs.declared.node.Node.TheVariants.{Directory as DirectoryNode, File as FileNode}
use Rattle.gl_simtree.specs.declared.row.TreeRow.{TreeRow}
use Rattle.gl_simtree.specs.declared.row.TreeRow.TheVariants.{Device as DeviceRow, Bank as BankRow, Line as LineRow, Hog as HogRow}
use Rattle.gl_simtree.specs.declared.row.State.{State}
use Rattle.gl_simtree.specs.declared.row.State.TheVariants.{Off, Live, Leaving}
use Rattle.gl_model.specs.Sound.{HasAtMostOneDirectory}
use Rattle.gl_model.proofs.Phases.{nothing_first, nothing_when}

-- rows, found

state_push : (test : TreeRow → Bool) (rows : List TreeRow) (x : TreeRow) → row_state (Some x) ≡ Off → row_state (find test (rows ++ x ∷ [])) ≡ row_state (find test rows)
state_push test [] x h = elim (test x) as (λ b. row_state (cond b (Some x) None) ≡ Off) [ true ↦ h | false ↦ refl ]
state_push test (y ∷ rows) x h = elim (test y) as (λ b. row_state (cond b (Some y) (find test (rows ++ x ∷ []))) ≡ row_state (cond b (Some y) (find test rows))) [
  | true ↦ refl
  | false ↦ state_push test rows x h
]

state_change : (test u : TreeRow → Bool) (f : TreeRow → TreeRow) (rows : List TreeRow) → ((x : TreeRow) → test (f x) ≡ test x) → ((x : TreeRow) → row_state (Some (f x)) ≡ row_state (Some x)) → row_state (find test (change_first u f rows)) ≡ row_state (find test rows)
state_change test u f [] h k = refl
state_change test u f (x ∷ rows) h k = elim (u x) as (λ b. row_state (find test (cond b (f x ∷ rows) (x ∷ change_first u f rows))) ≡ row_state (find test (x ∷ rows))) [
  | true ↦ (ap (λ b. row_state (cond b (Some (f x)) (find test rows))) (h x) ∙ elim (test x) as (λ b. row_state (cond b (Some (f x)) (find test rows)) ≡ row_state (cond b (Some x) (find test rows))) [ true ↦ k x | false ↦ refl ])
  | false ↦ (elim (test x) as (λ b. row_state (cond b (Some x) (find test (change_first u f rows))) ≡ row_state (cond b (Some x) (find test rows))) [ true ↦ refl | false ↦ state_change test u f rows h k ])
]

find_without : (test u : TreeRow → Bool) (rows : List TreeRow) → ((x : TreeRow) → u x ≡ true → test x ≡ false) → find test (without_first u rows) ≡ find test rows
find_without test u [] h = refl
find_without test u (x ∷ rows) h = elim (u x) as (λ b. u x ≡ b → find test (cond b rows (x ∷ without_first u rows)) ≡ find test (x ∷ rows)) [
  | true ↦ (λ t. sym (ap (λ b. cond b (Some x) (find test rows)) (h x t)))
  | false ↦ (λ _. elim (test x) as (λ b. cond b (Some x) (find test (without_first u rows)) ≡ cond b (Some x) (find test rows)) [ true ↦ refl | false ↦ find_without test u rows h ])
] refl

find_other : (test u : TreeRow → Bool) (f : TreeRow → TreeRow) (rows : List TreeRow) → ((x : TreeRow) → u x ≡ true → (test x ≡ false) × (test (f x) ≡ false)) → find test (change_first u f rows) ≡ find test rows
find_other test u f [] h = refl
find_other test u f (x ∷ rows) h = elim (u x) as (λ b. u x ≡ b → find test (cond b (f x ∷ rows) (x ∷ change_first u f rows)) ≡ find test (x ∷ rows)) [
  | true ↦ (λ t. ap (λ b. cond b (Some (f x)) (find test rows)) (h x t).1 ∙ sym (ap (λ b. cond b (Some x) (find test rows)) (h x t).0))
  | false ↦ (λ _. elim (test x) as (λ b. cond b (Some x) (find test (change_first u f rows)) ≡ cond b (Some x) (find test rows)) [ true ↦ refl | false ↦ find_other test u f rows h ])
] refl

-- the state of a device that was set

set_row : (device : List ℕ) (s : State) (x : TreeRow) → is_row_of (Device device) x ≡ true → (is_row_of (Device device) (row_with_state s x) ≡ true) × (row_state (Some (row_with_state s x)) ≡ s)
set_row device s (DeviceRow e t) h = (h, refl)
set_row device s (BankRow e bank lines label) h = absurd (true≢false (sym h))
set_row device s (LineRow e bank line name) h = absurd (true≢false (sym h))
set_row device s (HogRow e bank line name way) h = absurd (true≢false (sym h))

pub state_set : (device : List ℕ) (s : State) (rows : List TreeRow) → has (Device device) rows ≡ true → state_of device (with_state device s rows) ≡ s
state_set device s [] h = absurd (true≢false (sym h))
state_set device s (x ∷ rows) h = elim (is_row_of (Device device) x) as (λ b. is_row_of (Device device) x ≡ b → (b || has (Device device) rows) ≡ true → row_state (find (is_row_of (Device device)) (cond b (row_with_state s x ∷ rows) (x ∷ with_state device s rows))) ≡ s) [
  | true ↦ (λ t _. ap (λ b. row_state (cond b (Some (row_with_state s x)) (find (is_row_of (Device device)) rows))) (set_row device s x t).0 ∙ (set_row device s x t).1)
  | false ↦ (λ f k. ap (λ b. row_state (cond b (Some x) (find (is_row_of (Device device)) (with_state device s rows)))) f ∙ state_set device s rows k)
] refl h

-- one that is set to be off is off, with a directory or without one
pub state_off : (device : List ℕ) (rows : List TreeRow) → state_of device (with_state device Off rows) ≡ Off
state_off device [] = refl
state_off device (x ∷ rows) = elim (is_row_of (Device device) x) as (λ b. is_row_of (Device device) x ≡ b
    → row_state (find (is_row_of (Device device)) (cond b (row_with_state Off x ∷ rows) (x ∷ with_state device Off rows))) ≡ Off) [
      | true ↦ (λ t. ap (λ b. row_state (cond b (Some (row_with_state Off x)) (find (is_row_of (Device device)) rows))) (set_row device Off x t).0 ∙ (set_row device Off x t).1)
      | false ↦ (λ f. ap (λ b. row_state (cond b (Some x) (find (is_row_of (Device device)) (with_state device Off rows)))) f ∙ state_off device rows)
    ] refl

other_row : (device other : List ℕ) (s : State) (x : TreeRow) → bytes_eq device other ≡ false → is_row_of (Device device) x ≡ true → (is_row_of (Device other) x ≡ false) × (is_row_of (Device other) (row_with_state s x) ≡ false)
other_row device other s (BankRow e bank lines label) ne h = absurd (true≢false (sym h))
other_row device other s (LineRow e bank line name) ne h = absurd (true≢false (sym h))
other_row device other s (HogRow e bank line name way) ne h = absurd (true≢false (sym h))
other_row device other s (DeviceRow e t) ne h = (no, no)
  where
    no : bytes_eq other e ≡ false
    no = elim (bytes_eq other e) as (λ b. bytes_eq other e ≡ b → b ≡ false) [
      | true ↦ (λ t. absurd (true≢false (sym ((bytes_eq-Decides device other).1 ((bytes_eq-Decides device e).0 h ∙ sym ((bytes_eq-Decides other e).0 t))) ∙ ne)))
      | false ↦ (λ _. refl)
    ] refl

pub state_of_other : (device other : List ℕ) (s : State) (rows : List TreeRow) → bytes_eq device other ≡ false → state_of other (with_state device s rows) ≡ state_of other rows
state_of_other device other s rows ne = ap row_state (find_other (is_row_of (Device other)) (is_row_of (Device device)) (row_with_state s) rows (λ x h. other_row device other s x ne h))

-- how many rows pass a test

abbrev count_of : (TreeRow → Bool) → List TreeRow → ℕ
count_of test rows = length (filter test rows)

count_push : (test : TreeRow → Bool) (rows : List TreeRow) (x : TreeRow) → count_of test (rows ++ x ∷ []) ≡ count_of test rows + count_of test (x ∷ [])
count_push test [] x = omega arith
count_push test (y ∷ rows) x = elim (test y) as (λ b. length (cond b (y ∷ filter test (rows ++ x ∷ [])) (filter test (rows ++ x ∷ [])))
    ≡ length (cond b (y ∷ filter test rows) (filter test rows)) + count_of test (x ∷ [])) [
      | true ↦ (let ih : count_of test (rows ++ x ∷ []) ≡ count_of test rows + count_of test (x ∷ []) = count_push test rows x in omega arith)
      | false ↦ count_push test rows x
    ]

count_one : (test : TreeRow → Bool) (x : TreeRow) → count_of test (x ∷ []) ≤ 1
count_one test x = elim (test x) as (λ b. length (cond b (x ∷ []) []) ≤ 1) [ true ↦ omega arith | false ↦ omega arith ]

count_none : (test : TreeRow → Bool) (rows : List TreeRow) → list_any test rows ≡ false → count_of test rows ≡ 0
count_none test [] h = refl
count_none test (x ∷ rows) h = elim (test x) as (λ b. (b || list_any test rows) ≡ false → length (cond b (x ∷ filter test rows) (filter test rows)) ≡ 0) [
  | true ↦ (λ k. absurd (true≢false k))
  | false ↦ (λ k. count_none test rows k)
] h

count_change : (test u : TreeRow → Bool) (f : TreeRow → TreeRow) (rows : List TreeRow) → ((x : TreeRow) → test (f x) ≡ test x) → count_of test (change_first u f rows) ≡ count_of test rows
count_change test u f [] h = refl
count_change test u f (x ∷ rows) h = elim (u x) as (λ b. count_of test (cond b (f x ∷ rows) (x ∷ change_first u f rows)) ≡ count_of test (x ∷ rows)) [
  | true ↦ (ap (λ b. length (cond b (f x ∷ filter test rows) (filter test rows))) (h x)
      ∙ elim (test x) as (λ b. length (cond b (f x ∷ filter test rows) (filter test rows)) ≡ length (cond b (x ∷ filter test rows) (filter test rows))) [ true ↦ refl | false ↦ refl ])
  | false ↦ (elim (test x) as (λ b. length (cond b (x ∷ filter test (change_first u f rows)) (filter test (change_first u f rows))) ≡ length (cond b (x ∷ filter test rows) (filter test rows))) [
    | true ↦ ap suc (count_change test u f rows h)
    | false ↦ count_change test u f rows h
  ])
]

count_without : (test u : TreeRow → Bool) (rows : List TreeRow) → count_of test (without_first u rows) ≤ count_of test rows
count_without test u [] = omega arith
count_without test u (x ∷ rows) = elim (u x) as (λ b. count_of test (cond b rows (x ∷ without_first u rows)) ≤ count_of test (x ∷ rows)) [
  | true ↦ (elim (test x) as (λ b. count_of test rows ≤ length (cond b (x ∷ filter test rows) (filter test rows))) [ true ↦ omega arith | false ↦ omega arith ])
  | false ↦ (let ih : count_of test (without_first u rows) ≤ count_of test rows = count_without test u rows in
      elim (test x) as (λ b. length (cond b (x ∷ filter test (without_first u rows)) (filter test (without_first u rows))) ≤ length (cond b (x ∷ filter test rows) (filter test rows))) [ true ↦ omega arith | false ↦ ih ])
]

-- where no row passes, none is found
found_none : (test : TreeRow → Bool) (rows : List TreeRow) → count_of test rows ≤ 0 → find test rows ≡ None
found_none test [] h = refl
found_none test (x ∷ rows) h = elim (test x) as (λ b. length (cond b (x ∷ filter test rows) (filter test rows)) ≤ 0 → cond b (Some x) (find test rows) ≡ None) [
  | true ↦ (λ k. absurd (omega arith))
  | false ↦ (λ k. found_none test rows k)
] h

-- where one row passes at most, none does without it
found_no_more : (test : TreeRow → Bool) (rows : List TreeRow) → count_of test rows ≤ 1 → find test (without_first test rows) ≡ None
found_no_more test [] h = refl
found_no_more test (x ∷ rows) h = elim (test x) as (λ b. test x ≡ b → length (cond b (x ∷ filter test rows) (filter test rows)) ≤ 1 → find test (cond b rows (x ∷ without_first test rows)) ≡ None) [
  | true ↦ (λ t k. found_none test rows (omega arith))
  | false ↦ (λ f k. ap (λ b. cond b (Some x) (find test (without_first test rows))) f ∙ found_no_more test rows k)
] refl h

-- a device has one directory still

pub set_one : (device other : List ℕ) (s : State) (rows : List TreeRow) → HasAtMostOneDirectory other rows → HasAtMostOneDirectory other (with_state device s rows)
set_one device other s rows h =
    let same : count_of (is_row_of (Device other)) (with_state device s rows) ≡ count_of (is_row_of (Device other)) rows =
    count_change (is_row_of (Device other)) (is_row_of (Device device)) (row_with_state s) rows (set_is_row other s) in
    omega arith
  where
    set_is_row : (other : List ℕ) (s : State) (x : TreeRow) → is_row_of (Device other) (row_with_state s x) ≡ is_row_of (Device other) x
    set_is_row other s (DeviceRow e t) = refl
    set_is_row other s (BankRow e bank lines label) = refl
    set_is_row other s (LineRow e bank line name) = refl
    set_is_row other s (HogRow e bank line name way) = refl

-- a device that is leaving has a directory
pub leaving_is_there : (device : List ℕ) (rows : List TreeRow) → is_leaving (state_of device rows) ≡ true → has (Device device) rows ≡ true
leaving_is_there device [] h = absurd (true≢false (sym h))
leaving_is_there device (x ∷ rows) h = elim (is_row_of (Device device) x) as (λ b. is_leaving (row_state (cond b (Some x) (find (is_row_of (Device device)) rows))) ≡ true
    → (b || has (Device device) rows) ≡ true) [
      | true ↦ (λ _. refl)
      | false ↦ (λ k. leaving_is_there device rows k)
    ] h

-- what stays of a device: its state, and that it has one directory
pub record StateKept (device : List ℕ) (old new : List TreeRow) : Type 0 where
  pub same_state : state_of device new ≡ state_of device old
  pub one_directory : HasAtMostOneDirectory device new

pub state_same : (device : List ℕ) (rows : List TreeRow) → HasAtMostOneDirectory device rows → StateKept device rows rows
state_same device rows h = record { same_state = refl; one_directory = h }

pub state_of_another : (device other : List ℕ) (s : State) (rows : List TreeRow) → bytes_eq device other ≡ false → HasAtMostOneDirectory other rows → StateKept other rows (with_state device s rows)
state_of_another device other s rows ne h = record { same_state = state_of_other device other s rows ne; one_directory = set_one device other s rows h }

new_is_off : (directory : Directory) → row_state (Some (new_row directory)) ≡ Off
new_is_off (Device device) = refl
new_is_off (Bank device bank) = refl
new_is_off (Line device bank line) = refl
new_is_off (Hog device bank line) = refl

mkdir_finds : (directory : Directory) (rows : List TreeRow) → mkdir_refusal (Some (DirectoryNode directory)) rows ≡ None → has directory rows ≡ false
mkdir_finds directory rows e =
    let full = when (nat_le DIRECTORIES_MAX (length rows)) NoSpc in
    let one = nothing_first (when (not (has_parent directory rows)) NoEnt) (first_of (when (is_busy (device_of directory) rows) Busy ∷ when (has directory rows) Exist ∷ full ∷ [])) e in
    let two = nothing_first (when (is_busy (device_of directory) rows) Busy) (first_of (when (has directory rows) Exist ∷ full ∷ [])) one.1 in
    let three = nothing_first (when (has directory rows) Exist) (first_of (full ∷ [])) two.1 in
    nothing_when (has directory rows) Exist three.0

-- a new directory isn't that of a device, or the device had none
new_or_none : (directory : Directory) (rows : List TreeRow) (device : List ℕ) → has directory rows ≡ false
    → (count_of (is_row_of (Device device)) (new_row directory ∷ []) ≡ 0) ⊎ (count_of (is_row_of (Device device)) rows ≡ 0)
new_or_none (Bank e bank) rows device h = inl refl
new_or_none (Line e bank line) rows device h = inl refl
new_or_none (Hog e bank line) rows device h = inl refl
new_or_none (Device e) rows device h = elim (bytes_eq device e) as (λ b. bytes_eq device e ≡ b → (length (cond b (DeviceRow e Off ∷ []) []) ≡ 0) ⊎ (count_of (is_row_of (Device device)) rows ≡ 0)) [
  | true ↦ (λ t. inr (count_none (is_row_of (Device device)) rows (ap (λ d. has (Device d) rows) ((bytes_eq-Decides device e).0 t) ∙ h)))
  | false ↦ (λ _. inl refl)
] refl

made_one : (directory : Directory) (rows : List TreeRow) (device : List ℕ) → has directory rows ≡ false → HasAtMostOneDirectory device rows → HasAtMostOneDirectory device (rows ++ new_row directory ∷ [])
made_one directory rows device none h =
    let push : count_of (is_row_of (Device device)) (rows ++ new_row directory ∷ []) ≡ count_of (is_row_of (Device device)) rows + count_of (is_row_of (Device device)) (new_row directory ∷ []) =
    count_push (is_row_of (Device device)) rows (new_row directory) in
    let one : count_of (is_row_of (Device device)) (new_row directory ∷ []) ≤ 1 = count_one (is_row_of (Device device)) (new_row directory) in
    elim (new_or_none directory rows device none) as (λ _. HasAtMostOneDirectory device (rows ++ new_row directory ∷ [])) [
      | inl e ↦ omega arith
      | inr e ↦ omega arith
    ]

pub made_keeps : (node : Option Node) (rows : List TreeRow) (device : List ℕ) → mkdir_refusal node rows ≡ None → HasAtMostOneDirectory device rows → StateKept device rows (made node rows)
made_keeps None rows device e h = state_same device rows h
made_keeps (Some (FileNode directory file)) rows device e h = state_same device rows h
made_keeps (Some (DirectoryNode directory)) rows device e h = record {
  same_state = state_push (is_row_of (Device device)) rows (new_row directory) (new_is_off directory);
  one_directory = made_one directory rows device (mkdir_finds directory rows e) h;
}

-- a row that was written is of the same device as before
abbrev Alike : TreeRow → TreeRow → Type 0
Alike new old = ((device : List ℕ) → is_row_of (Device device) new ≡ is_row_of (Device device) old) × (row_state (Some new) ≡ row_state (Some old))

bank_alike : (o : Option ℕ) (device bank : List ℕ) (lines : ℕ) (label : List ℕ) → Alike (unwrap_or (option_map (λ l. BankRow device bank l label) o) (BankRow device bank lines label)) (BankRow device bank lines label)
bank_alike None device bank lines label = (λ d. refl, refl)
bank_alike (Some l) device bank lines label = (λ d. refl, refl)

label_alike : (o : Option (List ℕ)) (device bank : List ℕ) (lines : ℕ) (label : List ℕ) → Alike (unwrap_or (option_map (λ l. BankRow device bank lines l) o) (BankRow device bank lines label)) (BankRow device bank lines label)
label_alike None device bank lines label = (λ d. refl, refl)
label_alike (Some l) device bank lines label = (λ d. refl, refl)

written_alike : (file : File) (value : List ℕ) (row : TreeRow) → Alike (unwrap_or (row_written file value row) row) row
written_alike LiveFile value row = (λ d. refl, refl)
written_alike ChipName value row = (λ d. refl, refl)
written_alike NumLines value (BankRow device bank lines label) = bank_alike (lines_of_text value) device bank lines label
written_alike NumLines value (DeviceRow device state) = (λ d. refl, refl)
written_alike NumLines value (LineRow device bank line name) = (λ d. refl, refl)
written_alike NumLines value (HogRow device bank line name way) = (λ d. refl, refl)
written_alike Label value (BankRow device bank lines label) = label_alike (some_text value) device bank lines label
written_alike Label value (DeviceRow device state) = (λ d. refl, refl)
written_alike Label value (LineRow device bank line name) = (λ d. refl, refl)
written_alike Label value (HogRow device bank line name way) = (λ d. refl, refl)
written_alike LineName value (LineRow device bank line name) = elim (some_text value) as (λ o. Alike (unwrap_or (option_map (λ n. LineRow device bank line n) o) (LineRow device bank line name)) (LineRow device bank line name)) [ None ↦ (λ d. refl, refl) | Some n ↦ (λ d. refl, refl) ]
written_alike LineName value (DeviceRow device state) = (λ d. refl, refl)
written_alike LineName value (BankRow device bank lines label) = (λ d. refl, refl)
written_alike LineName value (HogRow device bank line name way) = (λ d. refl, refl)
written_alike HogName value (HogRow device bank line name way) = elim (some_text value) as (λ o. Alike (unwrap_or (option_map (λ n. HogRow device bank line n way) o) (HogRow device bank line name way)) (HogRow device bank line name way)) [ None ↦ (λ d. refl, refl) | Some n ↦ (λ d. refl, refl) ]
written_alike HogName value (DeviceRow device state) = (λ d. refl, refl)
written_alike HogName value (BankRow device bank lines label) = (λ d. refl, refl)
written_alike HogName value (LineRow device bank line name) = (λ d. refl, refl)
written_alike Direction value (HogRow device bank line name way) = elim (way_of_text value) as (λ o. Alike (unwrap_or (option_map (λ v. HogRow device bank line name v) o) (HogRow device bank line name way)) (HogRow device bank line name way)) [ None ↦ (λ d. refl, refl) | Some n ↦ (λ d. refl, refl) ]
written_alike Direction value (DeviceRow device state) = (λ d. refl, refl)
written_alike Direction value (BankRow device bank lines label) = (λ d. refl, refl)
written_alike Direction value (LineRow device bank line name) = (λ d. refl, refl)

pub written_keeps : (node : Option Node) (value : List ℕ) (rows : List TreeRow) (device : List ℕ) → HasAtMostOneDirectory device rows → StateKept device rows (written node value rows)
written_keeps None value rows device h = state_same device rows h
written_keeps (Some (DirectoryNode directory)) value rows device h = state_same device rows h
written_keeps (Some (FileNode directory file)) value rows device h =
    let write = λ (row : TreeRow). unwrap_or (row_written file value row) row in
    let same : count_of (is_row_of (Device device)) (change_first (is_row_of directory) write rows) ≡ count_of (is_row_of (Device device)) rows =
    count_change (is_row_of (Device device)) (is_row_of directory) write rows (λ x. (written_alike file value x).0 device) in
    record {
      same_state = state_change (is_row_of (Device device)) (is_row_of directory) write rows (λ x. (written_alike file value x).0 device) (λ x. (written_alike file value x).1);
      one_directory = omega arith;
    }

-- a directory that was removed

idle_is_off : (s : State) → is_busy_state s ≡ false → s ≡ Off
idle_is_off Off e = refl
idle_is_off (Live first) e = absurd (true≢false e)
idle_is_off (Leaving first) e = absurd (true≢false e)

rmdir_finds : (directory : Directory) (rows : List TreeRow) → rmdir_refusal (Some (DirectoryNode directory)) rows ≡ None → is_busy (device_of directory) rows ≡ false
rmdir_finds directory rows e =
    let one = nothing_first (when (not (has directory rows)) NoEnt) (first_of (when (is_busy (device_of directory) rows) Busy ∷ when (list_any (is_row_in directory) rows) Busy ∷ [])) e in
    let two = nothing_first (when (is_busy (device_of directory) rows) Busy) (first_of (when (list_any (is_row_in directory) rows) Busy ∷ [])) one.1 in
    nothing_when (is_busy (device_of directory) rows) Busy two.0

-- a directory of another device, or one in a device, isn't that of the device
stays_as_it_is : (directory : Directory) (rows : List TreeRow) (device : List ℕ) → ((x : TreeRow) → is_row_of directory x ≡ true → is_row_of (Device device) x ≡ false)
    → state_of device (without_first (is_row_of directory) rows) ≡ state_of device rows
stays_as_it_is directory rows device h = ap row_state (find_without (is_row_of (Device device)) (is_row_of directory) rows h)

removed_state : (directory : Directory) (rows : List TreeRow) (device : List ℕ) → is_busy (device_of directory) rows ≡ false → HasAtMostOneDirectory device rows
    → state_of device (without_first (is_row_of directory) rows) ≡ state_of device rows
removed_state (Bank e bank) rows device idle h = stays_as_it_is (Bank e bank) rows device (in_device e bank)
  where
    in_device : (e bank : List ℕ) (x : TreeRow) → is_row_of (Bank e bank) x ≡ true → is_row_of (Device device) x ≡ false
    in_device e bank (DeviceRow f t) k = absurd (true≢false (sym k))
    in_device e bank (BankRow f bank' lines label) k = refl
    in_device e bank (LineRow f bank' line name) k = refl
    in_device e bank (HogRow f bank' line name way) k = refl
removed_state (Line e bank line) rows device idle h = stays_as_it_is (Line e bank line) rows device (in_device e bank line)
  where
    in_device : (e bank : List ℕ) (line : ℕ) (x : TreeRow) → is_row_of (Line e bank line) x ≡ true → is_row_of (Device device) x ≡ false
    in_device e bank line (DeviceRow f t) k = absurd (true≢false (sym k))
    in_device e bank line (BankRow f bank' lines label) k = refl
    in_device e bank line (LineRow f bank' line' name) k = refl
    in_device e bank line (HogRow f bank' line' name way) k = refl
removed_state (Hog e bank line) rows device idle h = stays_as_it_is (Hog e bank line) rows device (in_device e bank line)
  where
    in_device : (e bank : List ℕ) (line : ℕ) (x : TreeRow) → is_row_of (Hog e bank line) x ≡ true → is_row_of (Device device) x ≡ false
    in_device e bank line (DeviceRow f t) k = absurd (true≢false (sym k))
    in_device e bank line (BankRow f bank' lines label) k = refl
    in_device e bank line (LineRow f bank' line' name) k = refl
    in_device e bank line (HogRow f bank' line' name way) k = refl
removed_state (Device e) rows device idle h = elim (bytes_eq e device) as (λ b. bytes_eq e device ≡ b → state_of device (without_first (is_row_of (Device e)) rows) ≡ state_of device rows) [
  | true ↦ (λ t.
      let is : e ≡ device = (bytes_eq-Decides e device).0 t in
      let off : state_of device rows ≡ Off = idle_is_off (state_of device rows) (ap (λ d. is_busy d rows) (sym is) ∙ idle) in
      ap (λ d. row_state (find (is_row_of (Device device)) (without_first (is_row_of (Device d)) rows))) is
      ∙ ap row_state (found_no_more (is_row_of (Device device)) rows h) ∙ sym off)
  | false ↦ (λ ne. stays_as_it_is (Device e) rows device (λ x k. (other_row e device Off x ne k).0))
] refl

pub removed_keeps : (node : Option Node) (rows : List TreeRow) (device : List ℕ) → rmdir_refusal node rows ≡ None → HasAtMostOneDirectory device rows → StateKept device rows (removed node rows)
removed_keeps None rows device e h = state_same device rows h
removed_keeps (Some (FileNode directory file)) rows device e h = state_same device rows h
removed_keeps (Some (DirectoryNode directory)) rows device e h =
    let fewer : count_of (is_row_of (Device device)) (without_first (is_row_of directory) rows) ≤ count_of (is_row_of (Device device)) rows = count_without (is_row_of (Device device)) (is_row_of directory) rows in
    record { same_state = removed_state directory rows device (rmdir_finds directory rows e) h; one_directory = omega arith }
