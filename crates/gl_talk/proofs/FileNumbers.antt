-- Behind the statements of a talk the files have numbers in the order of their slots.
use Rattle.std.proofs.Common.{◌≡◌, ◌≤◌, ◌<◌, ◌+◌, ◌||◌, ℕ, zero, suc, Bool, true, false, cond, List, [], ◌∷◌, ◌++◌, length, map, Option, None, Some, refl, sym, ◌∙◌, ap, subst, arith}
use Rattle.std.specs.Prelude.{nat_eq, nat_lt}
use Rattle.std.proofs.lemmas.Bool.Decides.{nat_tests}
use Rattle.gl_base.specs.Operation.{refusal}
use Rattle.gl_base.specs.Ordered.{ordered, put_in_order}
use Rattle.gl_base.specs.Rows.{Each, without_first}
use Rattle.gl_base.specs.Words.{Span}
use Rattle.gl_base.specs.declared.command.TheConstants.{GET_LINE}
use Rattle.gl_base.specs.declared.errno.Errno.{Errno}
use Rattle.gl_base.specs.declared.operation.Do.{Do}
use Rattle.gl_base.specs.declared.operation.Do.TheVariants.{Probe, Unplug, MakeDir, RemoveDir, Write, Read, Live, Tick, Pin, Irq, Pull, Level, OpenChip, Find, Ioctl, ReadFile, Poll, Close, Plan, Accept, Aggregate}
use Rattle.gl_base.specs.declared.operation.Got.{Got}
use Rattle.gl_client.specs.Gives.{Gives}
use Rattle.gl_client.specs.OpenSlots.{NamesOpenSlots, SameSlots, Where, one_if, slots_behind, times, with_opened}
use Rattle.gl_client.specs.Program.{Program, done, print, ask, then_by}
use Rattle.gl_client.proofs.OpenSlots.{is_there, same_number, times_without}
use Rattle.gl_talk.specs.Files.{AreOpen}
use Rattle.gl_talk.specs.Numbers.{CloseByNumber, FilesCloseByNumber, Numbered, NumbersFiles, SetupClosesByNumber, has_less, has_slot, numbered_behind, with_number}
use Rattle.gl_talk.specs.Open.{Names, left_setup, no_names, open_slots, setup_names}
use Rattle.gl_talk.specs.Talk.{does, says, slot_behind}
use Rattle.gl_talk.proofs.OpenedSlots.{IsOneMore, Opens, OpensOnly, is_own, one_file_more, own_open, statement_opens}
use Rattle.gl_talk.proofs.TalkFiles.{none_is_open_before, none_is_open_before_setup, statement_names}
use Rattle.gl_talk.proofs.TalkNames.{open_times, times_are}

are_one : (x y : ℕ) → nat_eq x y ≡ true → x ≡ y
are_one x y e = grind (arith, nat_tests)

abbrev pub slots_of : List Numbered → List ℕ
slots_of files = map (λ file. file.slot) files

-- the slots of the files are those that are open
slots_more : (files : List Numbered) (f : Numbered) → slots_of (files ++ f ∷ []) ≡ slots_of files ++ f.slot ∷ []
slots_more [] f = refl
slots_more (x ∷ files) f = ap (λ slots. x.slot ∷ slots) (slots_more files f)

slots_less_if : (b : Bool) (x : Numbered) (files rest : List Numbered) (slots : List ℕ) → slots_of rest ≡ slots → slots_of (cond b files (x ∷ rest)) ≡ cond b (slots_of files) (x.slot ∷ slots)
slots_less_if true x files rest slots e = refl
slots_less_if false x files rest slots e = ap (λ slots. x.slot ∷ slots) e

slots_less : (slot : ℕ) (files : List Numbered) → slots_of (without_first (has_slot slot) files) ≡ without_first (nat_eq slot) (slots_of files)
slots_less slot [] = refl
slots_less slot (x ∷ files) = slots_less_if (nat_eq slot x.slot) x files (without_first (has_slot slot) files) (without_first (nat_eq slot) (slots_of files)) (slots_less slot files)

slots_opened : (fault : Option Errno) (slot number : ℕ) (files : List Numbered) → slots_of (with_number fault slot number files) ≡ with_opened fault slot (slots_of files)
slots_opened None slot number files = slots_more files (record { slot = slot; number = number })
slots_opened (Some errno) slot number files = refl

slots_made : (b : Bool) (fault : Option Errno) (slot number : ℕ) (files : List Numbered) → slots_of (cond b (with_number fault slot number files) files) ≡ cond b (with_opened fault slot (slots_of files)) (slots_of files)
slots_made true fault slot number files = slots_opened fault slot number files
slots_made false fault slot number files = refl

slots_same : (files : List Numbered) (what : Do) (got : Got) (number : ℕ) → slots_of (numbered_behind files what got number) ≡ slots_behind (slots_of files) what got
slots_same files (Probe label lines) got number = refl
slots_same files (Unplug place) got number = refl
slots_same files (MakeDir path) got number = refl
slots_same files (RemoveDir path) got number = refl
slots_same files (Write path value) got number = refl
slots_same files (Read path) got number = refl
slots_same files (Live device up) got number = refl
slots_same files (Tick mono real) got number = refl
slots_same files (Pin place what) got number = refl
slots_same files (Irq place offset what) got number = refl
slots_same files (Pull place offset up) got number = refl
slots_same files (Level place offset pull) got number = refl
slots_same files (OpenChip slot word) got number = slots_opened (refusal got) slot number files
slots_same files (Find slot name) got number = refl
slots_same files (Ioctl slot command len bytes made) got number = slots_made (nat_eq command GET_LINE) (refusal got) made number files
slots_same files (ReadFile slot len) got number = refl
slots_same files (Poll slot) got number = refl
slots_same files (Close slot) got number = slots_less slot files
slots_same files (Plan nth) got number = refl
slots_same files (Accept bits) got number = refl
slots_same files (Aggregate label joined count) got number = refl

-- A file is opened later than another: it has a greater number, and after one of before the statement a greater slot; after one
-- of the statement's own there are such alone.
record Later (base : ℕ) (file other : Numbered) : Type 0 where
  pub number : file.number < other.number
  pub slot : file.slot < base → file.slot < other.slot
  pub own : base ≤ file.slot → base ≤ other.slot

abbrev InTurn : ℕ → List Numbered → Type 0
InTurn base [] = Unit {0}
InTurn base (f ∷ fs) = Each (Later base f) fs × InTurn base fs

each_more : (P : Numbered → Type 0) (files : List Numbered) (f : Numbered) → Each P files → P f → Each P (files ++ f ∷ [])
each_more P [] f h p = (p, tt)
each_more P (x ∷ files) f h p = (h.0, each_more P files f h.1 p)

each_less_if : (P : Numbered → Type 0) (b : Bool) (x : Numbered) (files rest : List Numbered) → P x → Each P files → Each P rest → Each P (cond b files (x ∷ rest))
each_less_if P true x files rest p all h = all
each_less_if P false x files rest p all h = (p, h)

each_less : (P : Numbered → Type 0) (slot : ℕ) (files : List Numbered) → Each P files → Each P (without_first (has_slot slot) files)
each_less P slot [] h = tt
each_less P slot (x ∷ files) h = each_less_if P (has_slot slot x) x files (without_first (has_slot slot) files) h.0 h.1 (each_less P slot files h.1)

turn_more : (base : ℕ) (files : List Numbered) (f : Numbered) → InTurn base files → base ≤ f.slot → Each (λ file. file.number < f.number) files → InTurn base (files ++ f ∷ [])
turn_more base [] f h own newest = (tt, tt)
turn_more base (x ∷ files) f h own newest = (
  each_more (Later base x) files f h.0 (record { number = newest.0; slot = λ lt. omega (arith, lt, own); own = λ le. own }),
  turn_more base files f h.1 own newest.1,
)

turn_less_if : (base : ℕ) (b : Bool) (x : Numbered) (files rest : List Numbered) → InTurn base files → Each (Later base x) rest → InTurn base rest → InTurn base (cond b files (x ∷ rest))
turn_less_if base true x files rest turn later h = turn
turn_less_if base false x files rest turn later h = (later, h)

turn_less : (base slot : ℕ) (files : List Numbered) → InTurn base files → InTurn base (without_first (has_slot slot) files)
turn_less base slot [] h = tt
turn_less base slot (x ∷ files) h =
    turn_less_if base (has_slot slot x) x files (without_first (has_slot slot) files) h.1 (each_less (Later base x) slot files h.0) (turn_less base slot files h.1)

own_le : (base s : ℕ) (a b : Bool) → nat_eq s base ≡ a → nat_eq s (base + 1) ≡ b → (a || b) ≡ true → base ≤ s
own_le base s true b e f h = grind (arith, nat_tests)
own_le base s false true e f h = grind (arith, nat_tests)
own_le base s false false e f h = cc

opened_turn : (base slot number : ℕ) (fault : Option Errno) (files : List Numbered) → InTurn base files → is_own base slot ≡ true → Each (λ file. file.number < number) files
    → InTurn base (with_number fault slot number files)
opened_turn base slot number None files h own newest =
    turn_more base files (record { slot = slot; number = number }) h (own_le base slot (nat_eq slot base) (nat_eq slot (base + 1)) refl refl own) newest
opened_turn base slot number (Some errno) files h own newest = h

made_turn : (b : Bool) (base slot number : ℕ) (fault : Option Errno) (files : List Numbered) → InTurn base files → Where b (is_own base slot ≡ true) → Each (λ file. file.number < number) files
    → InTurn base (cond b (with_number fault slot number files) files)
made_turn true base slot number fault files h own newest = opened_turn base slot number fault files h own newest
made_turn false base slot number fault files h own newest = h

turn_behind : (base : ℕ) (files : List Numbered) (what : Do) (got : Got) (number : ℕ) → InTurn base files → Opens (is_own base) what → Each (λ file. file.number < number) files
    → InTurn base (numbered_behind files what got number)
turn_behind base files (Probe label lines) got number h own newest = h
turn_behind base files (Unplug place) got number h own newest = h
turn_behind base files (MakeDir path) got number h own newest = h
turn_behind base files (RemoveDir path) got number h own newest = h
turn_behind base files (Write path value) got number h own newest = h
turn_behind base files (Read path) got number h own newest = h
turn_behind base files (Live device up) got number h own newest = h
turn_behind base files (Tick mono real) got number h own newest = h
turn_behind base files (Pin place what) got number h own newest = h
turn_behind base files (Irq place offset what) got number h own newest = h
turn_behind base files (Pull place offset up) got number h own newest = h
turn_behind base files (Level place offset pull) got number h own newest = h
turn_behind base files (OpenChip slot word) got number h own newest = opened_turn base slot number (refusal got) files h own newest
turn_behind base files (Find slot name) got number h own newest = h
turn_behind base files (Ioctl slot command len bytes made) got number h own newest = made_turn (nat_eq command GET_LINE) base made number (refusal got) files h own newest
turn_behind base files (ReadFile slot len) got number h own newest = h
turn_behind base files (Poll slot) got number h own newest = h
turn_behind base files (Close slot) got number h own newest = turn_less base slot files h
turn_behind base files (Plan nth) got number h own newest = h
turn_behind base files (Accept bits) got number h own newest = h
turn_behind base files (Aggregate label joined count) got number h own newest = h

-- a program's files are in turn
module _ {A : Type 0} (base : ℕ) (P : A → List ℕ → Type 0) (Q : A → Type 0) where
  abbrev Behind : A → List Numbered → Type 0
  Behind value files = InTurn base files × P value (slots_of files) × Q value

  in_turn : (p : Program A) (slots : List ℕ) (files : List Numbered) → slots ≡ slots_of files → InTurn base files → NamesOpenSlots P slots p → OpensOnly (is_own base) p → Gives Q p → NumbersFiles Behind files p
  in_turn (done value) slots files same turn names own gives = (turn, subst (P value) same names, gives)
  in_turn (print text p) slots files same turn names own gives = in_turn p slots files same turn names own gives
  in_turn (ask what p) slots files same turn names own gives = λ got number kept newest.
      in_turn (p got) (slots_behind slots what got) (numbered_behind files what got number)
      (ap (λ s. slots_behind s what got) same ∙ sym (slots_same files what got number))
      (turn_behind base files what got number turn own.0 newest) (names.1 got kept) (own.1 got kept) (gives got)

pub numbers_then : {A B : Type 0} (P : A → List Numbered → Type 0) (Q : B → List Numbered → Type 0) (p : Program A) (f : A → Program B) (files : List Numbered) → NumbersFiles P files p
    → ((value : A) (now : List Numbered) → P value now → NumbersFiles Q now (f value)) → NumbersFiles Q files (then_by p f)
numbers_then P Q (done value) f files h then = then value files h
numbers_then P Q (print text p) f files h then = numbers_then P Q p f files h then
numbers_then P Q (ask what p) f files h then = λ got number kept newest. numbers_then P Q (p got) f (numbered_behind files what got number) (h got number kept newest) then

-- slots and numbers rise together
record Rises (file other : Numbered) : Type 0 where
  pub slot : file.slot < other.slot
  pub number : file.number < other.number

abbrev AllRise : List Numbered → Type 0
AllRise [] = Unit {0}
AllRise (f ∷ fs) = Each (Rises f) fs × AllRise fs

rises_later : (base : ℕ) (f : Numbered) (fs : List Numbered) → f.slot < base → Each (Rises f) fs → Each (Later base f) fs
rises_later base f [] lt h = tt
rises_later base f (g ∷ gs) lt h = (record { number = h.0.number; slot = λ below. h.0.slot; own = λ le. absurd (omega (arith, lt, le)) }, rises_later base f gs lt h.1)

all_in_turn : (base : ℕ) (files : List Numbered) → Each (λ f. f.slot < base) files → AllRise files → InTurn base files
all_in_turn base [] below h = tt
all_in_turn base (f ∷ fs) below h = (rises_later base f fs below.0 h.0, all_in_turn base fs below.1 h.1)

-- where one of the statement's own two slots is open at most
abbrev own_times : ℕ → List Numbered → ℕ
own_times base files = times base (slots_of files) + times (base + 1) (slots_of files)

own_if : (base s : ℕ) (a b : Bool) → base ≤ s → s < base + 2 → nat_eq base s ≡ a → nat_eq (base + 1) s ≡ b → 1 ≤ one_if a + one_if b
own_if base s true b le lt e f = omega arith
own_if base s false true le lt e f = omega arith
own_if base s false false le lt e f = grind (arith, nat_tests)

own_one : (base s : ℕ) → base ≤ s → s < base + 2 → 1 ≤ one_if (nat_eq base s) + one_if (nat_eq (base + 1) s)
own_one base s le lt = own_if base s (nat_eq base s) (nat_eq (base + 1) s) le lt refl refl

-- none of these is in one of the two
none_own : (base : ℕ) (f : Numbered) (fs : List Numbered) → base ≤ f.slot → own_times base fs ≤ 0 → Each (λ g. g.slot < base + 2) fs → Each (Later base f) fs → Each (Rises f) fs
none_own base f [] own few below h = tt
none_own base f (g ∷ gs) own few below h = absurd (omega (arith, few, own_one base g.slot (h.0.own own) below.0))

before_own : (base : ℕ) (f : Numbered) (fs : List Numbered) → f.slot < base → Each (Later base f) fs → Each (Rises f) fs
before_own base f [] lt h = tt
before_own base f (g ∷ gs) lt h = (record { slot = h.0.slot lt; number = h.0.number }, before_own base f gs lt h.1)

rises_by : (base : ℕ) (f : Numbered) (fs : List Numbered) (b : Bool) → nat_lt f.slot base ≡ b → f.slot < base + 2 → own_times base (f ∷ fs) ≤ 1 → Each (λ g. g.slot < base + 2) fs → Each (Later base f) fs
    → Each (Rises f) fs
rises_by base f fs true e lt few below h = before_own base f fs (grind (arith, nat_tests)) h
rises_by base f fs false e lt few below h =
    let own : base ≤ f.slot = grind (arith, nat_tests) in
    none_own base f fs own (omega (arith, few, own_one base f.slot own lt)) below h

all_rise : (base : ℕ) (files : List Numbered) → Each (λ g. g.slot < base + 2) files → own_times base files ≤ 1 → InTurn base files → AllRise files
all_rise base [] below few h = tt
all_rise base (f ∷ fs) below few h = (rises_by base f fs (nat_lt f.slot base) refl below.0 few below.1 h.0, all_rise base fs below.1 (omega (arith, few)) h.1)

-- each slot is below this
each_below : (bound : ℕ) (files : List Numbered) → ((s : ℕ) → 1 ≤ times s (slots_of files) → s < bound) → Each (λ f. f.slot < bound) files
each_below bound [] h = tt
each_below bound (f ∷ fs) h = (h f.slot (omega (arith, ap one_if (same_number f.slot))), each_below bound fs (λ s le. h s (omega (arith, le))))

-- the order of slots that rise is theirs
abbrev RisesOn : List ℕ → Type 0
RisesOn [] = Unit {0}
RisesOn (x ∷ xs) = ((s : ℕ) → 1 ≤ times s xs → x < s) × RisesOn xs

above_if : (x y s n : ℕ) (b : Bool) → nat_eq s y ≡ b → x < y → 1 ≤ one_if b + n → (1 ≤ n → x < s) → x < s
above_if x y s n true e lt le next = let same : s ≡ y = are_one s y e in omega (arith, same, lt)
above_if x y s n false e lt le next = next (omega (arith, le))

above : (f : Numbered) (gs : List Numbered) → Each (Rises f) gs → (s : ℕ) → 1 ≤ times s (slots_of gs) → f.slot < s
above f [] all s le = absurd (omega (arith, le))
above f (g ∷ gs) all s le = above_if f.slot g.slot s (times s (slots_of gs)) (nat_eq s g.slot) refl all.0.slot le (above f gs all.1 s)

rises_on : (files : List Numbered) → AllRise files → RisesOn (slots_of files)
rises_on [] h = tt
rises_on (f ∷ fs) h = (above f fs h.0, rises_on fs h.1)

put_first : (x : ℕ) (xs : List ℕ) → ((s : ℕ) → 1 ≤ times s xs → x < s) → put_in_order nat_lt x xs ≡ x ∷ xs
put_first x [] h = refl
put_first x (y ∷ ys) h =
    let less : nat_lt x y ≡ true = let lt = h y (omega (arith, ap one_if (same_number y))) in grind (arith, nat_tests) in
    ap (λ b. cond b (x ∷ y ∷ ys) (y ∷ put_in_order nat_lt x ys)) less

back_if : (x y : ℕ) (ys rest : List ℕ) (b : Bool) → nat_eq x y ≡ b → ((s : ℕ) → 1 ≤ times s ys → y < s) → 1 ≤ one_if b + times x ys → (1 ≤ times x ys → put_in_order nat_lt x rest ≡ ys)
    → put_in_order nat_lt x (cond b ys (y ∷ rest)) ≡ y ∷ ys
back_if x y ys rest true e h le back = let same : x ≡ y = are_one x y e in put_first x ys (λ s there. subst (λ n. n < s) (sym same) (h s there)) ∙ ap (λ n. n ∷ ys) same
back_if x y ys rest false e h le back =
    let there : 1 ≤ times x ys = omega (arith, le) in
    let lt : y < x = h x there in
    let less : nat_lt x y ≡ false = grind (arith, nat_tests) in
    ap (λ b. cond b (x ∷ y ∷ rest) (y ∷ put_in_order nat_lt x rest)) less ∙ ap (λ more. y ∷ more) (back there)

put_back : (x : ℕ) (xs : List ℕ) → RisesOn xs → 1 ≤ times x xs → put_in_order nat_lt x (without_first (nat_eq x) xs) ≡ xs
put_back x [] h le = absurd (omega (arith, le))
put_back x (y ∷ ys) h le = back_if x y ys (without_first (nat_eq x) ys) (nat_eq x y) refl h.0 le (put_back x ys h.1)

rises_if : (y : ℕ) (ys rest : List ℕ) (b : Bool) → RisesOn ys → ((s : ℕ) → 1 ≤ times s rest → y < s) → RisesOn rest → RisesOn (cond b ys (y ∷ rest))
rises_if y ys rest true all h r = all
rises_if y ys rest false all h r = (h, r)

without_rises : (x : ℕ) (xs : List ℕ) → RisesOn xs → RisesOn (without_first (nat_eq x) xs)
without_rises x [] h = tt
without_rises x (y ∷ ys) h = rises_if y ys (without_first (nat_eq x) ys) (nat_eq x y) h.1 (λ s le. h.0 s (omega (arith, le, times_without s x ys))) (without_rises x ys h.1)

ordered_rises : (xs ys : List ℕ) → SameSlots xs ys → RisesOn ys → ordered nat_lt xs ≡ ys
ordered_rises [] [] same h = refl
ordered_rises [] (y ∷ ys) same h = absurd (omega (arith, same y, ap one_if (same_number y)))
ordered_rises (x ∷ xs) ys same h =
    let there : 1 ≤ times x ys = omega (arith, same x, ap one_if (same_number x)) in
    ap (put_in_order nat_lt x) (ordered_rises xs (without_first (nat_eq x) ys) (λ s. omega (arith, same s, times_without s x ys)) (without_rises x ys h)) ∙ put_back x ys h there

-- files whose numbers rise are in the order of their numbers
put_file : (f : Numbered) (fs : List Numbered) → Each (Rises f) fs → put_in_order has_less f fs ≡ f ∷ fs
put_file f [] h = refl
put_file f (g ∷ gs) h =
    let less : nat_lt f.number g.number ≡ true = let lt = h.0.number in grind (arith, nat_tests) in
    ap (λ b. cond b (f ∷ g ∷ gs) (g ∷ put_in_order has_less f gs)) less

ordered_files : (files : List Numbered) → AllRise files → ordered has_less files ≡ files
ordered_files [] h = refl
ordered_files (f ∷ fs) h = ap (put_in_order has_less f) (ordered_files fs h.1) ∙ put_file f fs h.0

-- between two statements
record Between (begun : ℕ) (names : Names) (files : List Numbered) : Type 0 where
  pub slots : AreOpen begun names (slots_of files)
  pub rise : AllRise files

between_closes : (begun : ℕ) (names : Names) (files : List Numbered) → Between begun names files → CloseByNumber names files
between_closes begun names files b =
    ordered_rises (open_slots names) (slots_of files) (λ s. sym (b.slots.same s)) (rises_on files b.rise) ∙ ap slots_of (sym (ordered_files files b.rise))

-- over a statement
is_zero : (n : ℕ) → (1 ≤ n → ⊥) → n ≤ 0
is_zero zero h = omega arith
is_zero (suc n) h = absurd (h (omega arith))

numbers_as : {A : Type 0} (P Q : A → List Numbered → Type 0) (p : Program A) (files : List Numbered) → ((value : A) (now : List Numbered) → P value now → Q value now) → NumbersFiles P files p
    → NumbersFiles Q files p
numbers_as P Q (done value) files so h = so value files h
numbers_as P Q (print text p) files so h = numbers_as P Q p files so h
numbers_as P Q (ask what p) files so h = λ got number kept newest. numbers_as P Q (p got) (numbered_behind files what got number) so (h got number kept newest)

open_as : (begun s : ℕ) (names : Names) (slots : List ℕ) → AreOpen begun names slots → times s slots ≡ open_times s names
open_as begun s names slots known = known.same s ∙ times_are s names

module _ (begun : ℕ) (names : Names) (files : List Numbered) (b : Between begun names files) where
  abbrev base : ℕ
  base = slot_behind begun

  not_there : (s : ℕ) → base ≤ s → times s (slots_of files) ≤ 0
  not_there s le = is_zero (times s (slots_of files)) (λ there. absurd (omega (arith, le, b.slots.below s (is_there s (slots_of files) there))))

  none_before : own_open base names ≤ 0
  none_before =
      omega (arith, not_there base (omega arith), not_there (base + 1) (omega arith), open_as begun base names (slots_of files) b.slots, open_as begun (base + 1) names (slots_of files) b.slots)

  all_before : Each (λ f. f.slot < base) files
  all_before = each_below base files (λ s there. b.slots.below s (is_there s (slots_of files) there))

  after : (value : Names) (now : List Numbered) → Behind base (AreOpen (begun + 1)) (IsOneMore base) value now → Between (begun + 1) value now
  after value now h =
      let are_open = h.1 in
      record {
        slots = are_open;
        rise = all_rise base now (each_below (base + 2) now (λ s there. omega (arith, are_open.below s (is_there s (slots_of now) there))))
            (omega (arith, h.2, open_as (begun + 1) base value (slots_of now) are_open, open_as (begun + 1) (base + 1) value (slots_of now) are_open)) h.0;
      }

  statement_keeps : (words : List Span) → NumbersFiles (Between (begun + 1)) files (does names base words)
  statement_keeps words =
      numbers_as (Behind base (AreOpen (begun + 1)) (IsOneMore base)) (Between (begun + 1)) (does names base words) files after
      (in_turn base (AreOpen (begun + 1)) (IsOneMore base) (does names base words) (slots_of files) files refl (all_in_turn base files all_before b.rise)
      (statement_names begun names (slots_of files) b.slots words) (statement_opens base names words) (one_file_more base names words none_before))

-- over statements, and what comes after them
says_keep : (P : Names → List Numbered → Type 0) (behind : Names → Program Names) (begun after : ℕ) (statements : List (List Span)) (names : Names) (files : List Numbered) → begun + length statements ≡ after
    → ((value : Names) (now : List Numbered) → Between after value now → NumbersFiles P now (behind value)) → Between begun names files → NumbersFiles P files (says begun statements behind names)
says_keep P behind begun after [] names files e last b = last names files (subst (λ n. Between n names files) (omega (arith, e)) b)
says_keep P behind begun after (words ∷ statements) names files e last b =
    numbers_then (Between (begun + 1)) P (does names (slot_behind begun) words) (says (begun + 1) statements behind) files (statement_keeps begun names files b words)
    (λ value now still. says_keep P behind (begun + 1) after statements value now (omega (arith, e)) last still)

pub files_close_by_number : FilesCloseByNumber
files_close_by_number statements =
    says_keep CloseByNumber done 0 (length statements) statements no_names [] (omega arith) (λ value now b. between_closes (length statements) value now b)
    (record { slots = none_is_open_before; rise = tt })

-- the same names stand open in another section
left_open : (begun : ℕ) (names : Names) (files : List Numbered) → Between begun names files → Between begun (left_setup names) files
left_open begun names files b = record { slots = record { same = b.slots.same; apart = b.slots.apart; below = b.slots.below }; rise = b.rise }

pub setup_closes_by_number : SetupClosesByNumber
setup_closes_by_number setup later =
    says_keep CloseByNumber (λ names. says (length setup) later done (left_setup names)) 0 (length setup) setup setup_names [] (omega arith)
    (λ names now b. says_keep CloseByNumber done (length setup) (length setup + length later) later (left_setup names) now refl
    (λ value after still. between_closes (length setup + length later) value after still) (left_open (length setup) names now b))
    (record { slots = none_is_open_before_setup; rise = tt })
