-- Each operation of a talk finds its file, over all slots; and what a talk makes.
use Rattle.std.proofs.Common.{◌≡◌, ◌≤◌, ◌<◌, ◌+◌, ◌||◌, ℕ, zero, suc, Bool, true, false, cond, List, [], ◌∷◌, length, refl, sym, ◌∙◌, ap, subst, arith}
use Rattle.std.specs.Prelude.{nat_eq, nat_lt, sum_by}
use Rattle.std.proofs.lemmas.Bool.Decides.{nat_tests}
use Rattle.gl_base.specs.Ordered.{ordered, put_in_order}
use Rattle.gl_base.specs.Rows.{without_first}
use Rattle.gl_base.specs.Words.{Span, text_at}
use Rattle.gl_client.specs.Entries.{EntriesLeave}
use Rattle.gl_client.specs.OpenSlots.{NamesOpenSlots, SameSlots, is_open, one_if, times}
use Rattle.gl_client.specs.Program.{done}
use Rattle.gl_client.proofs.Entries.{entries_at_most, made_within, one_less}
use Rattle.gl_client.proofs.OpenSlots.{follows_at, is_there, names_open, names_then, not_both, same_number, times_without}
use Rattle.gl_script.specs.Cost.{words_cost}
use Rattle.gl_script.specs.Table.{keyword_of}
use Rattle.gl_talk.specs.Costs.{TalksMakeAtMost}
use Rattle.gl_talk.specs.Files.{AllClosed, AreOpen, EndClosesAll, EndMakesAtMost, NoneIsOpenBefore, NoneIsOpenBeforeSetup, StatementsFindTheirFiles, StatementsLeaveEntries, TalksFindTheirFiles, open_files}
use Rattle.gl_talk.specs.Open.{Names, no_names, open_slots, slots_in_order}
use Rattle.gl_talk.specs.Talk.{closes_all, does, quits, says, slot_behind, talks}
use Rattle.gl_talk.specs.ToolWords.{kind_of}
use Rattle.gl_talk.proofs.InARow.{are_statements_and_the_end}
use Rattle.gl_talk.proofs.StatementCosts.{end_cost, says_cost, talks_keep_within_cost}
use Rattle.gl_talk.proofs.TalkNames.{kind_at, open_times, times_are}

-- a slot that is open stands among the open ones
there_if : (b rest : Bool) (n : ℕ) → (b || rest) ≡ true → (rest ≡ true → 1 ≤ n) → 1 ≤ one_if b + n
there_if true rest n e h = omega arith
there_if false rest n e h = omega (arith, h e)

times_there : (x : ℕ) (slots : List ℕ) → is_open x slots ≡ true → 1 ≤ times x slots
times_there x [] e = cc
times_there x (y ∷ ys) e = there_if (nat_eq x y) (is_open x ys) (times x ys) e (times_there x ys)

-- how often a slot is open with the two of the statement that comes
module _ (begun : ℕ) (names : Names) (slots : List ℕ) (known : AreOpen begun names slots) where
  abbrev own : ℕ → ℕ
  own s = one_if (nat_eq s (slot_behind begun)) + one_if (nat_eq s (slot_behind begun + 1))

  own_apart : (s : ℕ) → own s ≤ 1
  own_apart s = not_both s (slot_behind begun) (slot_behind begun + 1) (nat_eq s (slot_behind begun)) (nat_eq s (slot_behind begun + 1)) refl refl (grind (arith, nat_tests))

  not_own : (x s : ℕ) → s < x → one_if (nat_eq s x) + one_if (nat_eq s (x + 1)) ≡ 0
  not_own x s lt =
      let first : nat_eq s x ≡ false = grind (arith, nat_tests) in
      let second : nat_eq s (x + 1) ≡ false = grind (arith, nat_tests) in
      omega (arith, ap one_if first, ap one_if second)

  abbrev bound : ℕ → ℕ
  bound s = times s slots + own s

  bound_by : (s t : ℕ) → times s slots ≡ t → bound s ≤ 1
  bound_by s zero e = omega (arith, e, own_apart s)
  bound_by s (suc t) e = omega (arith, known.apart s, not_own (slot_behind begun) s (known.below s (is_there s slots (omega (arith, e)))))

  bound_apart : (s : ℕ) → bound s ≤ 1
  bound_apart s = bound_by s (times s slots) refl

  -- where it is open at all, it is a slot of before or one of the two
  own_below : (x s : ℕ) (a b : Bool) → nat_eq s x ≡ a → nat_eq s (x + 1) ≡ b → 1 ≤ one_if a + one_if b → s < x + 2
  own_below x s true b e f le = grind (arith, nat_tests)
  own_below x s false true e f le = grind (arith, nat_tests)
  own_below x s false false e f le = absurd (omega (arith, le))

  below_by : (s t : ℕ) → times s slots ≡ t → 1 ≤ bound s → s < slot_behind begun + 2
  below_by s zero e le =
      own_below (slot_behind begun) s (nat_eq s (slot_behind begun)) (nat_eq s (slot_behind begun + 1)) refl refl (omega (arith, e, le))
  below_by s (suc t) e le = omega (arith, known.below s (is_there s slots (omega (arith, e))))

  below_next : (s : ℕ) → 1 ≤ bound s → s < slot_behind (begun + 1)
  below_next s le = omega (arith, below_by s (times s slots) refl le)

  open_next : (after : Names) (now : List ℕ) → ((s : ℕ) → times s now ≡ open_times s after) → ((s : ℕ) → times s now ≤ bound s) → AreOpen (begun + 1) after now
  open_next after now same le = record {
    same = λ s. same s ∙ sym (times_are s after);
    apart = λ s. omega (arith, le s, bound_apart s);
    below = λ s e. below_next s (omega (arith, le s, times_there s now e));
  }

  pub statement_names : (words : List Span) → NamesOpenSlots (AreOpen (begun + 1)) slots (does names (slot_behind begun) words)
  statement_names words =
      names_open bound open_times (AreOpen (begun + 1)) (does names (slot_behind begun) words) slots bound_apart (λ s. omega arith)
      (λ s.
      let same : open_times s names ≡ times s slots = sym (known.same s ∙ times_are s names) in
      follows_at s (bound s) (open_times s) (does names (slot_behind begun) words) (open_times s names) (times s slots) same
      (kind_at s (bound s) (kind_of (keyword_of (text_at 0 words))) names (slot_behind begun) words (omega (arith, same))))
      (λ after now same le. open_next after now same le)

says_names : (begun m : ℕ) (statements : List (List Span)) (names : Names) (slots : List ℕ) → begun + length statements ≡ m → AreOpen begun names slots
    → NamesOpenSlots (AreOpen m) slots (says begun statements done names)
says_names begun m [] names slots e known = let same : begun ≡ m = omega (arith, e) in subst (λ n. AreOpen n names slots) same known
says_names begun m (words ∷ statements) names slots e known =
    names_then (AreOpen (begun + 1)) (AreOpen m) (does names (slot_behind begun) words) (says (begun + 1) statements done) slots (statement_names begun names slots known words)
    (λ after now still. says_names (begun + 1) m statements after now (omega (arith, e)) still)

pub statements_find_their_files : StatementsFindTheirFiles
statements_find_their_files begun statements names slots known = says_names begun (begun + length statements) statements names slots refl known

-- the end
put_if : (s x y : ℕ) (b : Bool) (ys rest : List ℕ) → times s rest ≡ one_if (nat_eq s x) + times s ys
    → times s (cond b (x ∷ y ∷ ys) (y ∷ rest)) ≡ one_if (nat_eq s x) + (one_if (nat_eq s y) + times s ys)
put_if s x y true ys rest e = refl
put_if s x y false ys rest e = omega (arith, e)

put_times : (s x : ℕ) (ys : List ℕ) → times s (put_in_order nat_lt x ys) ≡ one_if (nat_eq s x) + times s ys
put_times s x [] = refl
put_times s x (y ∷ ys) = put_if s x y (nat_lt x y) ys (put_in_order nat_lt x ys) (put_times s x ys)

ordered_times : (s : ℕ) (xs : List ℕ) → times s (ordered nat_lt xs) ≡ times s xs
ordered_times s [] = refl
ordered_times s (x ∷ xs) = omega (arith, put_times s x (ordered nat_lt xs), ordered_times s xs)

none_open : (slots : List ℕ) → SameSlots slots [] → slots ≡ []
none_open [] same = refl
none_open (x ∷ xs) same = absurd (omega (arith, same x, ap one_if (same_number x)))

all_closed : (list slots : List ℕ) → SameSlots slots list → NamesOpenSlots AllClosed slots (closes_all list)
all_closed [] slots same = none_open slots same
all_closed (x ∷ list) slots same = (
  is_there x slots (omega (arith, same x, ap one_if (same_number x))),
  λ got kept. all_closed list (without_first (nat_eq x) slots) (λ s. omega (arith, times_without s x slots, same s)),
)

pub end_closes_all : EndClosesAll
end_closes_all begun names slots known = all_closed (slots_in_order names) slots (λ s. known.same s ∙ sym (ordered_times s (open_slots names)))

pub none_is_open_before : NoneIsOpenBefore
none_is_open_before = record { same = λ s. refl; apart = λ s. omega arith; below = λ s e. cc }

pub none_is_open_before_setup : NoneIsOpenBeforeSetup
none_is_open_before_setup = record { same = λ s. refl; apart = λ s. omega arith; below = λ s e. cc }

pub talks_find_their_files : TalksFindTheirFiles
talks_find_their_files statements =
    subst (NamesOpenSlots AllClosed []) (sym (are_statements_and_the_end 0 statements no_names))
    (names_then (AreOpen (length statements)) AllClosed (says 0 statements done no_names) quits [] (says_names 0 (length statements) statements no_names [] (omega arith) none_is_open_before)
    (λ names slots known. end_closes_all (length statements) names slots known))

-- the same slots are as many
empty_like : (xs : List ℕ) → SameSlots [] xs → length xs ≡ 0
empty_like [] same = refl
empty_like (x ∷ xs) same = absurd (omega (arith, same x, ap one_if (same_number x)))

same_length : (xs ys : List ℕ) → SameSlots xs ys → length xs ≡ length ys
same_length [] ys same = sym (empty_like ys same)
same_length (x ∷ xs) ys same =
    let there : is_open x ys ≡ true = is_there x ys (omega (arith, same x, ap one_if (same_number x))) in
    omega (arith, one_less x ys there, same_length xs (without_first (nat_eq x) ys) (λ s. omega (arith, times_without s x ys, same s)))

pub statements_leave_entries : StatementsLeaveEntries
statements_leave_entries begun statements names slots known =
    let as_many : length slots ≡ open_files names = same_length slots (open_slots names) known.same in
    subst (λ n. EntriesLeave open_files (sum_by words_cost statements + n) (says begun statements done names)) as_many
    (made_within open_files (AreOpen (begun + length statements)) (says begun statements done names) (sum_by words_cost statements) slots
    (λ after now still. omega (arith, same_length now (open_slots after) still.same))
    (says_cost begun statements done (λ after. tt) names) (statements_find_their_files begun statements names slots known))

pub end_makes_at_most : EndMakesAtMost
end_makes_at_most begun names slots known =
    let as_many : 0 + length slots ≡ open_files names = omega (arith, same_length slots (open_slots names) known.same) in
    subst (λ n. EntriesLeave (λ _. 0) n (quits names)) as_many
    (made_within (λ _. 0) AllClosed (quits names) 0 slots (λ after now closed. omega arith) (end_cost names) (end_closes_all begun names slots known))

pub talks_make_at_most : TalksMakeAtMost
talks_make_at_most statements =
    let costs = made_within (λ _. 0) AllClosed (talks 0 statements no_names) (sum_by words_cost statements) [] (λ after now closed. omega arith) (talks_keep_within_cost 0 statements no_names) (talks_find_their_files statements) in
    let all : sum_by words_cost statements + 0 ≡ sum_by words_cost statements = omega arith in
    entries_at_most (λ _. 0) (talks 0 statements no_names) (sum_by words_cost statements) (subst (λ n. EntriesLeave (λ _. 0) n (talks 0 statements no_names)) all costs)
