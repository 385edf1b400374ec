-- The slots in which a program has files open: which of them it may name, and which are open after each of its operations.
-- This project's choice.
use Rattle.std.specs.List.{list_any}
use Rattle.std.specs.Prelude.{◌≡◌, ℕ, ◌+◌, ◌≤◌, Bool, true, false, nat_eq, if◌then◌else◌, List, [], ◌∷◌, ◌++◌, take, Option, None, Some}
use Rattle.gl_base.specs.Operation.{refusal}
use Rattle.gl_base.specs.Rows.{Each, without_first}
use Rattle.gl_base.specs.declared.command.TheConstants.{GET_LINE}
use Rattle.gl_base.specs.declared.errno.Errno.{Errno}
use Rattle.gl_base.specs.declared.operation.Do.{Do}
use Rattle.gl_base.specs.declared.operation.Do.TheVariants.{OpenChip, Find, Ioctl, ReadFile, Poll, Close, Aggregate}
use Rattle.gl_base.specs.declared.operation.Got.{Got}
use Rattle.gl_client.specs.Entries.{IsKept}
use Rattle.gl_client.specs.Program.{Program, done, print, ask}

-- a slot is among those that are open
abbrev pub is_open : ℕ → List ℕ → Bool
is_open slot slots = list_any (nat_eq slot) slots

-- P holds, where a test passes
abbrev pub Where : Bool → Type 0 → Type 0
Where true P = P
Where false P = Unit {0}

-- What an operation may name where these slots are open: what it asks of a file is asked of one that is open, and what it opens
-- goes into a slot that is free. A chip is asked for over four files at most; that it is one at least is the form of its statement.
abbrev pub MayAsk : List ℕ → Do → Type 0
MayAsk slots (OpenChip slot word) = is_open slot slots ≡ false
MayAsk slots (Find None name) = Unit {0}
MayAsk slots (Find (Some slot) name) = is_open slot slots ≡ true
MayAsk slots (Ioctl slot command len bytes made) = (is_open slot slots ≡ true) × Where (nat_eq command GET_LINE) (is_open made slots ≡ false)
MayAsk slots (ReadFile slot len) = is_open slot slots ≡ true
MayAsk slots (Poll slot) = is_open slot slots ≡ true
MayAsk slots (Close slot) = is_open slot slots ≡ true
MayAsk slots (Aggregate label joined count) = (count ≤ 4) × Each (λ slot. is_open slot slots ≡ true) (take count joined)
MayAsk slots _ = Unit {0}

-- the slots that are open after an operation: what succeeds in opening adds a slot, and a closing takes one away
abbrev pub with_opened : Option Errno → ℕ → List ℕ → List ℕ
with_opened None slot slots = slots ++ slot ∷ []
with_opened (Some errno) slot slots = slots

abbrev pub slots_behind : List ℕ → Do → Got → List ℕ
slots_behind slots (OpenChip slot word) got = with_opened (refusal got) slot slots
slots_behind slots (Ioctl slot command len bytes made) got = if nat_eq command GET_LINE then with_opened (refusal got) made slots else slots
slots_behind slots (Close slot) got = without_first (nat_eq slot) slots
slots_behind slots _ got = slots

-- A program that begins where these slots are open names no slot that it may not, whatever it is answered but that no closing is
-- refused; and P holds of the value that it gives and of the slots that are open then.
abbrev pub NamesOpenSlots : {A : Type 0} → (A → List ℕ → Type 0) → List ℕ → Program A → Type 0
NamesOpenSlots P slots (done value) = P value slots
NamesOpenSlots P slots (print text p) = NamesOpenSlots P slots p
NamesOpenSlots P slots (ask what p) = MayAsk slots what × ((got : Got) → IsKept what got → NamesOpenSlots P (slots_behind slots what got) (p got))

abbrev pub one_if : Bool → ℕ
one_if true = 1
one_if false = 0

-- how often a slot stands among slots
abbrev pub times : ℕ → List ℕ → ℕ
times slot [] = 0
times slot (first ∷ slots) = one_if (nat_eq slot first) + times slot slots

-- the same slots, in any order
abbrev pub SameSlots : List ℕ → List ℕ → Type 0
SameSlots slots others = (slot : ℕ) → times slot slots ≡ times slot others

-- no slot stands twice
abbrev pub AreApart : List ℕ → Type 0
AreApart slots = (slot : ℕ) → times slot slots ≤ 1

-- the slot of a file that is open, if there is one, and others
abbrev pub with_slot : Option ℕ → List ℕ → List ℕ
with_slot None slots = slots
with_slot (Some slot) slots = slot ∷ slots
