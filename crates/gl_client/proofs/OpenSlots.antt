-- Which slots a program has open, followed for one slot at a time: how often it is open is a number, which operations raise and
-- lower.
use Rattle.std.proofs.Common.{◌≡◌, ◌≤◌, ◌+◌, ◌-◌, ◌||◌, ℕ, Bool, true, false, cond, List, [], ◌∷◌, ◌++◌, Option, None, Some, refl, sym, ◌∙◌, ap, subst, arith}
use Rattle.std.specs.Prelude.{nat_eq, take}
use Rattle.std.proofs.lemmas.Bool.Decides.{nat_tests}
use Rattle.gl_base.specs.Operation.{refusal}
use Rattle.gl_base.specs.Rows.{Each, without_first}
use Rattle.gl_base.specs.declared.command.TheConstants.{GET_LINE}
use Rattle.gl_base.specs.declared.errno.Errno.{Errno}
use Rattle.gl_base.specs.declared.operation.Do.{Do}
use Rattle.gl_base.specs.declared.operation.Do.TheVariants.{Probe, Unplug, MakeDir, RemoveDir, Write, Read, Live, Tick, Pin, Irq, Pull, Level, OpenChip, Find, Ioctl, ReadFile, Poll, Close, Plan, Accept, Aggregate}
use Rattle.gl_base.specs.declared.operation.Got.{Got}
use Rattle.gl_client.specs.Entries.{IsKept}
use Rattle.gl_client.specs.OpenSlots.{MayAsk, NamesOpenSlots, Where, is_open, one_if, slots_behind, times, with_opened, with_slot}
use Rattle.gl_client.specs.Program.{Program, done, print, ask, then_by}

-- the slot of a file that is open, if it is this one
abbrev pub counts : ℕ → Option ℕ → ℕ
counts s None = 0
counts s (Some slot) = one_if (nat_eq s slot)

pub counts_with : (s : ℕ) (slot : Option ℕ) (slots : List ℕ) → times s (with_slot slot slots) ≡ counts s slot + times s slots
counts_with s None slots = omega arith
counts_with s (Some slot) slots = refl

-- One slot s, that is open at most k times: what an operation may do where it is open n times, and how often it is open after it.
module _ (s k : ℕ) where
  abbrev pub Fits : ℕ → Do → Type 0
  Fits n (OpenChip slot word) = n + one_if (nat_eq s slot) ≤ k
  Fits n (Find None name) = Unit {0}
  Fits n (Find (Some slot) name) = one_if (nat_eq s slot) ≤ n
  Fits n (Ioctl slot command len bytes made) = (one_if (nat_eq s slot) ≤ n) × Where (nat_eq command GET_LINE) (n + one_if (nat_eq s made) ≤ k)
  Fits n (ReadFile slot len) = one_if (nat_eq s slot) ≤ n
  Fits n (Poll slot) = one_if (nat_eq s slot) ≤ n
  Fits n (Close slot) = one_if (nat_eq s slot) ≤ n
  Fits n (Aggregate label joined count) = (count ≤ 4) × (one_if (is_open s (take count joined)) ≤ n)
  Fits n _ = Unit {0}

  abbrev pub with_one : Option Errno → ℕ → ℕ → ℕ
  with_one None slot n = n + one_if (nat_eq s slot)
  with_one (Some errno) slot n = n

  abbrev pub behind : ℕ → Do → Got → ℕ
  behind n (OpenChip slot word) got = with_one (refusal got) slot n
  behind n (Ioctl slot command len bytes made) got = cond (nat_eq command GET_LINE) (with_one (refusal got) made n) n
  behind n (Close slot) got = n - one_if (nat_eq s slot)
  behind n _ got = n

  abbrev pub Follows : {A : Type 0} → (A → ℕ) → ℕ → Program A → Type 0
  Follows count n (done value) = n ≡ count value
  Follows count n (print text p) = Follows count n p
  Follows count n (ask what p) = Fits n what × ((got : Got) → IsKept what got → Follows count (behind n what got) (p got))

  -- one program and then another
  pub follows_then : {A B : Type 0} (between : A → ℕ) (count : B → ℕ) (p : Program A) (f : A → Program B) (n : ℕ) → Follows between n p
      → ((value : A) → Follows count (between value) (f value)) → Follows count n (then_by p f)
  follows_then between count (done value) f n h then = subst (λ m. Follows count m (f value)) (sym h) (then value)
  follows_then between count (print text p) f n h then = follows_then between count p f n h then
  follows_then between count (ask what p) f n h then = (h.0, λ got kept. follows_then between count (p got) f (behind n what got) (h.1 got kept) then)

  -- the same, where it is open as often
  pub follows_at : {A : Type 0} (count : A → ℕ) (p : Program A) (n m : ℕ) → n ≡ m → Follows count n p → Follows count m p
  follows_at count p n m e h = subst (λ x. Follows count x p) e h

  -- what is told of the value otherwise
  pub follows_as : {A : Type 0} (count other : A → ℕ) (p : Program A) (n : ℕ) → ((value : A) → count value ≡ other value) → Follows count n p → Follows other n p
  follows_as count other (done value) n same h = h ∙ same value
  follows_as count other (print text p) n same h = follows_as count other p n same h
  follows_as count other (ask what p) n same h = (h.0, λ got kept. follows_as count other (p got) (behind n what got) same (h.1 got kept))

-- how often a slot stands among slots
pub times_append : (s : ℕ) (slots others : List ℕ) → times s (slots ++ others) ≡ times s slots + times s others
times_append s [] others = omega arith
times_append s (first ∷ slots) others = omega (arith, times_append s slots others)

pub same_number : (x : ℕ) → nat_eq x x ≡ true
same_number x = grind (arith, nat_tests)

are_one : (x y : ℕ) → nat_eq x y ≡ true → x ≡ y
are_one x y e = grind (arith, nat_tests)

-- a slot isn't two others at once
pub not_both : (s x y : ℕ) (a b : Bool) → nat_eq s x ≡ a → nat_eq s y ≡ b → nat_eq x y ≡ false → one_if a + one_if b ≤ 1
not_both s x y true true e f g = grind (arith, nat_tests)
not_both s x y true false e f g = omega arith
not_both s x y false true e f g = omega arith
not_both s x y false false e f g = omega arith

without_if : (s x y : ℕ) (ys rest : List ℕ) (b : Bool) → nat_eq x y ≡ b → times s rest ≡ times s ys - one_if (nat_eq s x)
    → times s (cond b ys (y ∷ rest)) ≡ one_if (nat_eq s y) + times s ys - one_if (nat_eq s x)
without_if s x y ys rest true e h = let same : one_if (nat_eq s x) ≡ one_if (nat_eq s y) = ap (λ z. one_if (nat_eq s z)) (are_one x y e) in omega (arith, same)
without_if s x y ys rest false e h = omega (arith, h, not_both s x y (nat_eq s x) (nat_eq s y) refl refl e)

pub times_without : (s x : ℕ) (slots : List ℕ) → times s (without_first (nat_eq x) slots) ≡ times s slots - one_if (nat_eq s x)
times_without s x [] = omega arith
times_without s x (y ∷ ys) = without_if s x y ys (without_first (nat_eq x) ys) (nat_eq x y) refl (times_without s x ys)

free_if : (b rest : Bool) (n : ℕ) → one_if b + n ≡ 0 → (n ≡ 0 → rest ≡ false) → (b || rest) ≡ false
free_if true rest n e h = absurd (omega (arith, e))
free_if false rest n e h = h (omega (arith, e))

pub is_free : (x : ℕ) (slots : List ℕ) → times x slots ≡ 0 → is_open x slots ≡ false
is_free x [] e = refl
is_free x (y ∷ ys) e = free_if (nat_eq x y) (is_open x ys) (times x ys) e (is_free x ys)

open_if : (b rest : Bool) (n : ℕ) → 1 ≤ one_if b + n → (1 ≤ n → rest ≡ true) → (b || rest) ≡ true
open_if true rest n le h = refl
open_if false rest n le h = h (omega (arith, le))

pub is_there : (x : ℕ) (slots : List ℕ) → 1 ≤ times x slots → is_open x slots ≡ true
is_there x [] le = absurd (omega (arith, le))
is_there x (y ∷ ys) le = open_if (nat_eq x y) (is_open x ys) (times x ys) le (is_there x ys)

-- an operation that fits each slot may be asked
one_of_its_own : (x : ℕ) → one_if (nat_eq x x) ≡ 1
one_of_its_own x = ap one_if (same_number x)

free_by : (x k : ℕ) (slots : List ℕ) → k ≤ 1 → times x slots + one_if (nat_eq x x) ≤ k → is_open x slots ≡ false
free_by x k slots le h = is_free x slots (omega (arith, le, h, one_of_its_own x))

there_by : (x : ℕ) (slots : List ℕ) → one_if (nat_eq x x) ≤ times x slots → is_open x slots ≡ true
there_by x slots h = is_there x slots (omega (arith, h, one_of_its_own x))

or_left : (b c : Bool) (n : ℕ) → one_if (b || c) ≤ n → one_if b ≤ n
or_left true c n h = h
or_left false c n h = omega arith

or_right : (b c : Bool) (n : ℕ) → one_if (b || c) ≤ n → one_if c ≤ n
or_right true true n h = h
or_right true false n h = omega arith
or_right false c n h = h

all_there : (named slots : List ℕ) → ((s : ℕ) → one_if (is_open s named) ≤ times s slots) → Each (λ slot. is_open slot slots ≡ true) named
all_there [] slots h = tt
all_there (x ∷ named) slots h =
    (there_by x slots (or_left (nat_eq x x) (is_open x named) (times x slots) (h x)), all_there named slots (λ s. or_right (nat_eq s x) (is_open s named) (times s slots) (h s)))

made_by : (b : Bool) (x k : ℕ) (slots : List ℕ) → k ≤ 1 → Where b (times x slots + one_if (nat_eq x x) ≤ k) → Where b (is_open x slots ≡ false)
made_by true x k slots le h = free_by x k slots le h
made_by false x k slots le h = tt

may_ask : (k : ℕ → ℕ) (slots : List ℕ) → ((s : ℕ) → k s ≤ 1) → (what : Do) → ((s : ℕ) → Fits s (k s) (times s slots) what) → MayAsk slots what
may_ask k slots le (Probe label lines) h = tt
may_ask k slots le (Unplug place) h = tt
may_ask k slots le (MakeDir path) h = tt
may_ask k slots le (RemoveDir path) h = tt
may_ask k slots le (Write path value) h = tt
may_ask k slots le (Read path) h = tt
may_ask k slots le (Live device up) h = tt
may_ask k slots le (Tick mono real) h = tt
may_ask k slots le (Pin place what) h = tt
may_ask k slots le (Irq place offset what) h = tt
may_ask k slots le (Pull place offset up) h = tt
may_ask k slots le (Level place offset pull) h = tt
may_ask k slots le (OpenChip slot word) h = free_by slot (k slot) slots (le slot) (h slot)
may_ask k slots le (Find None name) h = tt
may_ask k slots le (Find (Some slot) name) h = there_by slot slots (h slot)
may_ask k slots le (Ioctl slot command len bytes made) h = (there_by slot slots (h slot).0, made_by (nat_eq command GET_LINE) made (k made) slots (le made) (h made).1)
may_ask k slots le (ReadFile slot len) h = there_by slot slots (h slot)
may_ask k slots le (Poll slot) h = there_by slot slots (h slot)
may_ask k slots le (Close slot) h = there_by slot slots (h slot)
may_ask k slots le (Plan nth) h = tt
may_ask k slots le (Accept bits) h = tt
may_ask k slots le (Aggregate label joined count) h = ((h 0).0, all_there (take count joined) slots (λ s. (h s).1))

-- how often a slot is open after an operation
opened_times : (s : ℕ) (fault : Option Errno) (slot : ℕ) (slots : List ℕ) → times s (with_opened fault slot slots) ≡ with_one s 0 fault slot (times s slots)
opened_times s None slot slots = omega (arith, times_append s slots (slot ∷ []))
opened_times s (Some errno) slot slots = refl

made_times : (b : Bool) (s : ℕ) (fault : Option Errno) (slot : ℕ) (slots : List ℕ) → times s (cond b (with_opened fault slot slots) slots) ≡ cond b (with_one s 0 fault slot (times s slots)) (times s slots)
made_times true s fault slot slots = opened_times s fault slot slots
made_times false s fault slot slots = refl

behind_times : (s k : ℕ) (slots : List ℕ) (what : Do) (got : Got) → times s (slots_behind slots what got) ≡ behind s k (times s slots) what got
behind_times s k slots (Probe label lines) got = refl
behind_times s k slots (Unplug place) got = refl
behind_times s k slots (MakeDir path) got = refl
behind_times s k slots (RemoveDir path) got = refl
behind_times s k slots (Write path value) got = refl
behind_times s k slots (Read path) got = refl
behind_times s k slots (Live device up) got = refl
behind_times s k slots (Tick mono real) got = refl
behind_times s k slots (Pin place what) got = refl
behind_times s k slots (Irq place offset what) got = refl
behind_times s k slots (Pull place offset up) got = refl
behind_times s k slots (Level place offset pull) got = refl
behind_times s k slots (OpenChip slot word) got = opened_times s (refusal got) slot slots
behind_times s k slots (Find slot name) got = refl
behind_times s k slots (Ioctl slot command len bytes made) got = made_times (nat_eq command GET_LINE) s (refusal got) made slots
behind_times s k slots (ReadFile slot len) got = refl
behind_times s k slots (Poll slot) got = refl
behind_times s k slots (Close slot) got = times_without s slot slots
behind_times s k slots (Plan nth) got = refl
behind_times s k slots (Accept bits) got = refl
behind_times s k slots (Aggregate label joined count) got = refl

-- it is open at most k times
one_bound : (s k n : ℕ) (fault : Option Errno) (slot : ℕ) → n ≤ k → n + one_if (nat_eq s slot) ≤ k → with_one s k fault slot n ≤ k
one_bound s k n None slot le h = h
one_bound s k n (Some errno) slot le h = le

made_bound : (b : Bool) (s k n : ℕ) (fault : Option Errno) (slot : ℕ) → n ≤ k → Where b (n + one_if (nat_eq s slot) ≤ k) → cond b (with_one s k fault slot n) n ≤ k
made_bound true s k n fault slot le h = one_bound s k n fault slot le h
made_bound false s k n fault slot le h = le

behind_bound : (s k n : ℕ) (what : Do) (got : Got) → n ≤ k → Fits s k n what → behind s k n what got ≤ k
behind_bound s k n (Probe label lines) got le h = le
behind_bound s k n (Unplug place) got le h = le
behind_bound s k n (MakeDir path) got le h = le
behind_bound s k n (RemoveDir path) got le h = le
behind_bound s k n (Write path value) got le h = le
behind_bound s k n (Read path) got le h = le
behind_bound s k n (Live device up) got le h = le
behind_bound s k n (Tick mono real) got le h = le
behind_bound s k n (Pin place what) got le h = le
behind_bound s k n (Irq place offset what) got le h = le
behind_bound s k n (Pull place offset up) got le h = le
behind_bound s k n (Level place offset pull) got le h = le
behind_bound s k n (OpenChip slot word) got le h = one_bound s k n (refusal got) slot le h
behind_bound s k n (Find slot name) got le h = le
behind_bound s k n (Ioctl slot command len bytes made) got le h = made_bound (nat_eq command GET_LINE) s k n (refusal got) made le h.1
behind_bound s k n (ReadFile slot len) got le h = le
behind_bound s k n (Poll slot) got le h = le
behind_bound s k n (Close slot) got le h = omega (arith, le)
behind_bound s k n (Plan nth) got le h = le
behind_bound s k n (Accept bits) got le h = le
behind_bound s k n (Aggregate label joined count) got le h = le

-- a program that each slot follows names open slots alone
pub names_open : {A : Type 0} (k : ℕ → ℕ) (count : ℕ → A → ℕ) (P : A → List ℕ → Type 0) (p : Program A) (slots : List ℕ) → ((s : ℕ) → k s ≤ 1) → ((s : ℕ) → times s slots ≤ k s)
    → ((s : ℕ) → Follows s (k s) (count s) (times s slots) p)
    → ((value : A) (now : List ℕ) → ((s : ℕ) → times s now ≡ count s value) → ((s : ℕ) → times s now ≤ k s) → P value now) → NamesOpenSlots P slots p
names_open k count P (done value) slots apart le h then = then value slots h le
names_open k count P (print text p) slots apart le h then = names_open k count P p slots apart le h then
names_open k count P (ask what p) slots apart le h then = (
  may_ask k slots apart what (λ s. (h s).0),
  λ got kept.
      names_open k count P (p got) (slots_behind slots what got) apart
      (λ s. subst (λ n. n ≤ k s) (sym (behind_times s (k s) slots what got)) (behind_bound s (k s) (times s slots) what got (le s) (h s).0))
      (λ s. follows_at s (k s) (count s) (p got) (behind s (k s) (times s slots) what got) (times s (slots_behind slots what got)) (sym (behind_times s (k s) slots what got)) ((h s).1 got kept))
      then,
)

-- one program and then another
pub names_then : {A B : Type 0} (P : A → List ℕ → Type 0) (Q : B → List ℕ → Type 0) (p : Program A) (f : A → Program B) (slots : List ℕ) → NamesOpenSlots P slots p
    → ((value : A) (now : List ℕ) → P value now → NamesOpenSlots Q now (f value)) → NamesOpenSlots Q slots (then_by p f)
names_then P Q (done value) f slots h then = then value slots h
names_then P Q (print text p) f slots h then = names_then P Q p f slots h then
names_then P Q (ask what p) f slots h then = (h.0, λ got kept. names_then P Q (p got) f (slots_behind slots what got) (h.1 got kept) then)
