-- The table of all lines, of which the first have a row.
use Rattle.std.proofs.Common.{Bool, true, false, not, ℕ, zero, suc, ◌≡◌, ◌+◌, ◌-◌, ◌*◌, ◌<◌, ◌≤◌, List, [], ◌∷◌, ◌++◌, length, get_or, set, replicate, Option, Some, None, ap, refl, sym, ◌∙◌, inl, inr, arith, length-set, length-append}
use Rattle.std.specs.List.{slice_get}
use Rattle.std.specs.Option.{option_map}
use Rattle.std.proofs.lemmas.Bool.{cases_lt}
use Rattle.std.proofs.lemmas.List.{append_assoc, append-nil, get_or-append_right, get_or_append_left, get_or_past, length-replicate, length_push, set-append_left, set-get_or}
use Rattle.gl_base.specs.declared.limits.TheConstants.{LINES_MAX, PLACES}
use Rattle.gl_base.specs.Ordered.{ordered}
use Rattle.gl_base.specs.Positions.{change_at}
use Rattle.gl_debounce.specs.declared.timer.TheConstants.{TABLE_SIZE}
use Rattle.gl_debounce.specs.declared.timer.Fired.{Fired}
use Rattle.gl_debounce.specs.declared.timer.Timer.{Timer}
use Rattle.gl_debounce.specs.Fire.{comes_before, due, fires}
use Rattle.gl_debounce.specs.Timer.{HardLinesAreStill, all_lines, hard_at, is_hard, is_still_if_hard, line_number, no_timers, timer_at, with_new_timer, with_raw, with_timer}
use Rattle.gl_debounce.proofs.GoingOn.{due-append}

-- without rows there are no timers
pub no_rows : (rows : List (Option Timer)) → rows ≡ [] → all_lines rows ≡ no_timers
unfolding all_lines no_timers
no_rows rows is = ap (λ (ts : List (Option Timer)). ts ++ replicate (PLACES * LINES_MAX - length ts) None) is

pub as_many : (rows : List (Option Timer)) → length rows ≤ TABLE_SIZE → length (all_lines rows) ≡ TABLE_SIZE
unfolding all_lines
as_many rows few =
    let rest : ℕ = PLACES * LINES_MAX - length rows in
    omega (arith, length-append rows (replicate rest None), length-replicate {A = Option Timer} rest None)

none_read : (n m : ℕ) → get_or (replicate {A = Option Timer} n None) m None ≡ None
none_read zero m = refl
none_read (suc n) zero = refl
none_read (suc n) (suc m) = none_read n m

-- a line without a row has no timer
pub timer_read : (rows : List (Option Timer)) (n : ℕ) → get_or (all_lines rows) n None ≡ get_or rows n None
unfolding all_lines
timer_read rows n =
    let rest : List (Option Timer) = replicate (PLACES * LINES_MAX - length rows) None in
    elim (cases_lt n (length rows)) [
      | inl within ↦ get_or_append_left rows rest None n within
      | inr past ↦
          get_or-append_right rows rest (length rows) n None refl past ∙ none_read (PLACES * LINES_MAX - length rows) (n - length rows) ∙ sym (get_or_past rows n None past)
    ]

-- a change of a row
pub row_set : (rows : List (Option Timer)) (n : ℕ) (timer : Option Timer) → n < length rows → all_lines (set rows n timer) ≡ set (all_lines rows) n timer
unfolding all_lines
row_set rows n timer within =
    ap (λ m. set rows n timer ++ replicate (PLACES * LINES_MAX - m) None) (length-set rows n timer)
    ∙ sym (set-append_left rows (replicate (PLACES * LINES_MAX - length rows) None) n timer within)

pub row_changed : (f : Timer → Timer) (rows : List (Option Timer)) (n : ℕ) (timer new : Timer) → n < length rows → Some timer ≡ get_or rows n None → new ≡ f timer
    → all_lines (set rows n (Some new)) ≡ change_at None n (option_map f) (all_lines rows)
row_changed f rows n timer new within is so =
    row_set rows n (Some new) within
    ∙ ap (λ (t : Timer). set (all_lines rows) n (Some t)) so
    ∙ ap (λ (o : Option Timer). set (all_lines rows) n (option_map f o)) (is ∙ sym (timer_read rows n))

-- a line without a timer stays without
pub none_changed : (f : Timer → Timer) (rows : List (Option Timer)) (n : ℕ) → None ≡ get_or rows n None → all_lines rows ≡ change_at None n (option_map f) (all_lines rows)
none_changed f rows n is =
    let none : get_or (all_lines rows) n None ≡ None = timer_read rows n ∙ sym is in
    sym (ap (λ (o : Option Timer). set (all_lines rows) n (option_map f o)) none
    ∙ ap (λ (o : Option Timer). set (all_lines rows) n o) (sym none)
    ∙ set-get_or (all_lines rows) n None)

-- a row more
pub row_added : (rows : List (Option Timer)) → length rows < TABLE_SIZE → all_lines (rows ++ None ∷ []) ≡ all_lines rows
unfolding all_lines
row_added rows room =
    let left : ℕ = PLACES * LINES_MAX - length (rows ++ None ∷ []) in
    let one_more : suc left ≡ PLACES * LINES_MAX - length rows = omega (arith, length_push rows None) in
    append_assoc rows (None ∷ []) (replicate left None) ∙ ap (λ m. rows ++ replicate m None) one_more

-- what a line without a row has never fires
none_due : (now n m : ℕ) → due now n (replicate m None) ≡ []
none_due now n zero = refl
none_due now n (suc m) = none_due now (n + 1) m

pub fires_same : (now : ℕ) (rows : List (Option Timer)) → fires now (all_lines rows) ≡ fires now rows
unfolding all_lines
fires_same now rows =
    let rest : ℕ = PLACES * LINES_MAX - length rows in
    ap (ordered comes_before)
    (due-append now 0 rows (replicate rest None)
    ∙ ap (λ (fs : List Fired). due now 0 rows ++ fs) (none_due now (0 + length rows) rest)
    ∙ append-nil (due now 0 rows))

-- the same, as the calls on a line want it
pub changed : (f : Timer → Timer) (rows after now : List (Option Timer)) (place offset n : ℕ) (timer new : Timer) → all_lines rows ≡ now → n ≡ line_number place offset
    → n < length rows → Some timer ≡ get_or rows n None → new ≡ f timer → after ≡ set rows n (Some new) → all_lines after ≡ with_timer f place offset now
changed f rows after now place offset n timer new view number within is so put =
    ap all_lines put ∙ row_changed f rows n timer new within is so
    ∙ ap (λ m. change_at None m (option_map f) (all_lines rows)) number
    ∙ ap (λ (ts : List (Option Timer)). with_timer f place offset ts) view

pub unchanged : (f : Timer → Timer) (rows now : List (Option Timer)) (place offset n : ℕ) → all_lines rows ≡ now → n ≡ line_number place offset → None ≡ get_or rows n None
    → now ≡ with_timer f place offset now
unchanged f rows now place offset n view number is =
    sym view ∙ none_changed f rows n is
    ∙ ap (λ m. change_at None m (option_map f) (all_lines rows)) number
    ∙ ap (λ (ts : List (Option Timer)). with_timer f place offset ts) view

pub started : (rows made after now : List (Option Timer)) (place offset n : ℕ) (timer new : Timer) → all_lines rows ≡ now → all_lines made ≡ all_lines rows → n ≡ line_number place offset
    → n < length made → new ≡ timer → after ≡ set made n (Some new) → all_lines after ≡ with_new_timer timer place offset now
started rows made after now place offset n timer new view same number within is put =
    ap all_lines put ∙ row_set made n (Some new) within
    ∙ ap (λ (t : Timer). set (all_lines made) n (Some t)) is
    ∙ ap (λ m. set (all_lines made) m (Some timer)) number
    ∙ ap (λ (ts : List (Option Timer)). with_new_timer timer place offset ts) (same ∙ view)

pub timer_told : (rows now : List (Option Timer)) (place offset n : ℕ) → all_lines rows ≡ now → n ≡ line_number place offset → get_or rows n None ≡ timer_at now place offset
timer_told rows now place offset n view number =
    sym (timer_read rows n) ∙ ap (λ m. get_or (all_lines rows) m None) number ∙ ap (λ (ts : List (Option Timer)). timer_at ts place offset) view

pub first_told : (now : ℕ) (rows lines : List (Option Timer)) (first : Option Fired) → all_lines rows ≡ lines → first ≡ slice_get (fires now rows) 0 → first ≡ slice_get (fires now lines) 0
first_told now rows lines first view is =
    is ∙ ap (λ (fs : List Fired). slice_get fs 0) (sym (fires_same now rows)) ∙ ap (λ (ts : List (Option Timer)). slice_get (fires now ts) 0) view

pub size_told : (rows lines : List (Option Timer)) → all_lines rows ≡ lines → length rows ≤ TABLE_SIZE → length lines ≡ TABLE_SIZE
size_told rows lines view few = sym (ap (λ (ts : List (Option Timer)). length ts) view) ∙ as_many rows few

-- no hard line has a deadline, nor has one that has no row
pub still_told : (rows now : List (Option Timer)) → all_lines rows ≡ now → HardLinesAreStill rows → HardLinesAreStill now
still_told rows now view still n = ap (λ (ts : List (Option Timer)). is_still_if_hard (get_or ts n None)) (sym view) ∙ ap is_still_if_hard (timer_read rows n) ∙ still n

-- a line that isn't hard may wait
pub raw_is_still : (rows now : List (Option Timer)) (place offset n : ℕ) (timer new : Timer) (level : Bool) (deadline : ℕ) → all_lines rows ≡ now → n ≡ line_number place offset
    → Some timer ≡ get_or rows n None → hard_at now place offset ≡ false → new ≡ with_raw level deadline timer → is_still_if_hard (Some new) ≡ true
raw_is_still rows now place offset n timer new level deadline view number is soft so =
    ap (λ (t : Timer). is_still_if_hard (Some t)) so ∙ ap not (ap is_hard (is ∙ timer_told rows now place offset n view number) ∙ soft)
