-- What a program makes, where it closes only what it has open.
use Rattle.std.proofs.Common.{◌≡◌, ◌≤◌, ◌+◌, ◌-◌, ◌||◌, ℕ, suc, Bool, true, false, cond, List, [], ◌∷◌, length, length-append, Option, None, Some, arith}
use Rattle.std.specs.Prelude.{nat_eq}
use Rattle.gl_base.specs.Operation.{refusal}
use Rattle.gl_base.specs.Rows.{without_first}
use Rattle.gl_base.specs.declared.command.TheConstants.{GET_LINE, LINE_SET_CONFIG, LINE_GET_VALUES, LINE_SET_VALUES}
use Rattle.gl_base.specs.declared.errno.Errno.{Errno}
use Rattle.gl_base.specs.declared.operation.Do.{Do}
use Rattle.gl_base.specs.declared.operation.Do.TheVariants.{Probe, Unplug, MakeDir, RemoveDir, Write, Read, Live, Tick, Pin, Irq, Pull, Level, OpenChip, Find, Ioctl, ReadFile, Poll, Close, Plan, Accept, Aggregate}
use Rattle.gl_base.specs.declared.operation.Got.{Got}
use Rattle.gl_base.specs.declared.operation.Got.TheVariants.{Done}
use Rattle.gl_client.specs.Costs.{CostsAtMost, entries_of}
use Rattle.gl_client.specs.Entries.{EntriesAtMost, EntriesLeave, entries_made}
use Rattle.gl_client.specs.OpenSlots.{MayAsk, NamesOpenSlots, is_open, slots_behind, with_opened}
use Rattle.gl_client.specs.Program.{Program, done, print, ask}

-- the files that an operation closes, and those that it opens: one where it isn't refused
abbrev closed_by : Do → ℕ
closed_by (Close slot) = 1
closed_by _ = 0

abbrev opens_one : Option Errno → ℕ
opens_one None = 1
opens_one (Some errno) = 0

abbrev command_opens : ℕ → Option Errno → ℕ
command_opens command fault = cond (nat_eq command GET_LINE) (opens_one fault) 0

abbrev opened_by : Do → Got → ℕ
opened_by (OpenChip slot word) got = opens_one (refusal got)
opened_by (Ioctl slot command len bytes made) got = command_opens command (refusal got)
opened_by _ got = 0

opens_few : (fault : Option Errno) → opens_one fault ≤ 1
opens_few None = omega arith
opens_few (Some errno) = omega arith

command_fits : (get other : Bool) (a b : Bool) (fault : Option Errno) → cond get 2 (cond other 2 (cond a 2 (cond b 2 1))) + cond get (opens_one fault) 0 ≤ cond get 3 (cond other 2 (cond a 2 (cond b 2 1))) + 0
command_fits true other a b fault = omega (arith, opens_few fault)
command_fits false other a b fault = omega arith

-- an operation's entries, and the closing of a file that it opens, are counted where the file is opened
op_fits : (what : Do) (got : Got) → entries_made what + opened_by what got ≤ entries_of what + closed_by what
op_fits (Probe label lines) got = omega arith
op_fits (Unplug place) got = omega arith
op_fits (MakeDir path) got = omega arith
op_fits (RemoveDir path) got = omega arith
op_fits (Write path value) got = omega arith
op_fits (Read path) got = omega arith
op_fits (Live device up) got = omega arith
op_fits (Tick mono real) got = omega arith
op_fits (Pin place what) got = omega arith
op_fits (Irq place offset what) got = omega arith
op_fits (Pull place offset up) got = omega arith
op_fits (Level place offset pull) got = omega arith
op_fits (OpenChip slot word) got = omega (arith, opens_few (refusal got))
op_fits (Find slot name) got = omega arith
op_fits (Ioctl slot command len bytes made) got = command_fits (nat_eq command GET_LINE) (nat_eq command LINE_SET_CONFIG) (nat_eq command LINE_GET_VALUES) (nat_eq command LINE_SET_VALUES) (refusal got)
op_fits (ReadFile slot len) got = omega arith
op_fits (Poll slot) got = omega arith
op_fits (Close slot) got = omega arith
op_fits (Plan nth) got = omega arith
op_fits (Accept bits) got = omega arith
op_fits (Aggregate label joined count) got = omega arith

-- what is closed is open, and so many slots are open after an operation
not_empty : (x : ℕ) (slots : List ℕ) → is_open x slots ≡ true → 1 ≤ length slots
not_empty x [] e = cc
not_empty x (y ∷ ys) e = omega arith

closing_there : (slots : List ℕ) (what : Do) → MayAsk slots what → closed_by what ≤ length slots
closing_there slots (Probe label lines) h = omega arith
closing_there slots (Unplug place) h = omega arith
closing_there slots (MakeDir path) h = omega arith
closing_there slots (RemoveDir path) h = omega arith
closing_there slots (Write path value) h = omega arith
closing_there slots (Read path) h = omega arith
closing_there slots (Live device up) h = omega arith
closing_there slots (Tick mono real) h = omega arith
closing_there slots (Pin place what) h = omega arith
closing_there slots (Irq place offset what) h = omega arith
closing_there slots (Pull place offset up) h = omega arith
closing_there slots (Level place offset pull) h = omega arith
closing_there slots (OpenChip slot word) h = omega arith
closing_there slots (Find slot name) h = omega arith
closing_there slots (Ioctl slot command len bytes made) h = omega arith
closing_there slots (ReadFile slot len) h = omega arith
closing_there slots (Poll slot) h = omega arith
closing_there slots (Close slot) h = not_empty slot slots h
closing_there slots (Plan nth) h = omega arith
closing_there slots (Accept bits) h = omega arith
closing_there slots (Aggregate label joined count) h = omega arith

less_if : (b rest : Bool) (y : ℕ) (ys without : List ℕ) → (b || rest) ≡ true → (rest ≡ true → length without + 1 ≡ length ys) → length (cond b ys (y ∷ without)) + 1 ≡ suc (length ys)
less_if true rest y ys without e h = omega arith
less_if false rest y ys without e h = omega (arith, h e)

pub one_less : (x : ℕ) (slots : List ℕ) → is_open x slots ≡ true → length (without_first (nat_eq x) slots) + 1 ≡ length slots
one_less x [] e = cc
one_less x (y ∷ ys) e = less_if (nat_eq x y) (is_open x ys) y ys (without_first (nat_eq x) ys) e (one_less x ys)

opened_length : (fault : Option Errno) (slot : ℕ) (slots : List ℕ) → length (with_opened fault slot slots) ≡ length slots - 0 + opens_one fault
opened_length None slot slots = omega (arith, length-append slots (slot ∷ []))
opened_length (Some errno) slot slots = omega arith

made_length : (b : Bool) (fault : Option Errno) (slot : ℕ) (slots : List ℕ) → length (cond b (with_opened fault slot slots) slots) ≡ length slots - 0 + cond b (opens_one fault) 0
made_length true fault slot slots = opened_length fault slot slots
made_length false fault slot slots = omega arith

behind_length : (slots : List ℕ) (what : Do) (got : Got) → MayAsk slots what → length (slots_behind slots what got) ≡ length slots - closed_by what + opened_by what got
behind_length slots (Probe label lines) got h = omega arith
behind_length slots (Unplug place) got h = omega arith
behind_length slots (MakeDir path) got h = omega arith
behind_length slots (RemoveDir path) got h = omega arith
behind_length slots (Write path value) got h = omega arith
behind_length slots (Read path) got h = omega arith
behind_length slots (Live device up) got h = omega arith
behind_length slots (Tick mono real) got h = omega arith
behind_length slots (Pin place what) got h = omega arith
behind_length slots (Irq place offset what) got h = omega arith
behind_length slots (Pull place offset up) got h = omega arith
behind_length slots (Level place offset pull) got h = omega arith
behind_length slots (OpenChip slot word) got h = opened_length (refusal got) slot slots
behind_length slots (Find slot name) got h = omega arith
behind_length slots (Ioctl slot command len bytes made) got h = made_length (nat_eq command GET_LINE) (refusal got) made slots
behind_length slots (ReadFile slot len) got h = omega arith
behind_length slots (Poll slot) got h = omega arith
behind_length slots (Close slot) got h = omega (arith, one_less slot slots h)
behind_length slots (Plan nth) got h = omega arith
behind_length slots (Accept bits) got h = omega arith
behind_length slots (Aggregate label joined count) got h = omega arith

-- a greater number leaves more
leave_more : {A : Type 0} (wants : A → ℕ) (p : Program A) (n m : ℕ) → n ≤ m → EntriesLeave wants n p → EntriesLeave wants m p
leave_more wants (done value) n m le h = omega (arith, le, h)
leave_more wants (print text p) n m le h = leave_more wants p n m le h
leave_more wants (ask what p) n m le h =
    (omega (arith, le, h.0), λ got kept. leave_more wants (p got) (n - entries_made what) (m - entries_made what) (omega (arith, le, h.0)) (h.1 got kept))

-- a program that keeps within a cost and names open slots alone makes no more entries than this, and one for each slot that is
-- open before; one for each that is open after it is left
pub made_within : {A : Type 0} (wants : A → ℕ) (P : A → List ℕ → Type 0) (p : Program A) (n : ℕ) (slots : List ℕ) → ((value : A) (now : List ℕ) → P value now → wants value ≤ length now)
    → CostsAtMost n p → NamesOpenSlots P slots p → EntriesLeave wants (n + length slots) p
made_within wants P (done value) n slots then h k = omega (arith, then value slots k)
made_within wants P (print text p) n slots then h k = made_within wants P p n slots then h k
made_within wants P (ask what p) n slots then h k = (
  omega (arith, h.0, closing_there slots what k.0, op_fits what Done),
  λ got kept.
      leave_more wants (p got) (n - entries_of what + length (slots_behind slots what got)) (n + length slots - entries_made what)
      (omega (arith, h.0, closing_there slots what k.0, behind_length slots what got k.0, op_fits what got))
      (made_within wants P (p got) (n - entries_of what) (slots_behind slots what got) then (h.1 got) (k.1 got kept)),
)

-- what is left may be nothing
pub entries_at_most : {A : Type 0} (wants : A → ℕ) (p : Program A) (n : ℕ) → EntriesLeave wants n p → EntriesAtMost n p
entries_at_most wants (done value) n h = tt
entries_at_most wants (print text p) n h = entries_at_most wants p n h
entries_at_most wants (ask what p) n h = (h.0, λ got kept. entries_at_most wants (p got) (n - entries_made what) (h.1 got kept))
