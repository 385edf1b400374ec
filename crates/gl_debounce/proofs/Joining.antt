-- The timers of lines, made of their levels and their deadlines.
use Rattle.std.proofs.Common.{true, ℕ, zero, suc, ◌≡◌, ◌<◌, List, [], ◌∷◌, ◌++◌, length, map, get_or, set, Option, Some, None, ap, refl, sym, ◌∙◌, subst, arith, length-set}
use Rattle.std.proofs.lemmas.List.{length_push}
use Rattle.gl_debounce.specs.declared.timer.TheConstants.{TABLE_SIZE}
use Rattle.gl_debounce.specs.declared.timer.Timer.{Timer}
use Rattle.gl_debounce.specs.declared.timer.TimerLevels.{TimerLevels}
use Rattle.gl_debounce.specs.Order.{AreRows, deadline_of}
use Rattle.gl_debounce.specs.Timer.{HardLinesAreStill, all_lines, is_still_if_hard, timer_with, timers_of}
use Rattle.gl_debounce.proofs.Lookup.{goes_with, goes_with_row}
use Rattle.gl_debounce.proofs.Padding.{row_added}

pub length-timers_of : (ls : List (Option TimerLevels)) (ds : List (Option ℕ)) → length ds ≡ length ls → length (timers_of ls ds) ≡ length ls
length-timers_of [] ds same = refl
length-timers_of (l ∷ ls) [] same = absurd (omega arith)
length-timers_of (l ∷ ls) (d ∷ ds) same = let rest : length (timers_of ls ds) ≡ length ls = length-timers_of ls ds (omega arith) in omega arith

-- the timer of a line
pub timers_of-read : (ls : List (Option TimerLevels)) (ds : List (Option ℕ)) (n : ℕ) → length ds ≡ length ls → get_or (timers_of ls ds) n None ≡ timer_with (get_or ls n None) (get_or ds n None)
timers_of-read [] ds n same = refl
timers_of-read (l ∷ ls) [] n same = absurd (omega arith)
timers_of-read (l ∷ ls) (d ∷ ds) zero same = refl
timers_of-read (l ∷ ls) (d ∷ ds) (suc n) same = timers_of-read ls ds n (omega arith)

-- the line has another timer
pub timers_of-set : (ls : List (Option TimerLevels)) (ds : List (Option ℕ)) (n : ℕ) (l : Option TimerLevels) (d : Option ℕ) → length ds ≡ length ls
    → timers_of (set ls n l) (set ds n d) ≡ set (timers_of ls ds) n (timer_with l d)
timers_of-set [] ds n l d same = refl
timers_of-set (k ∷ ls) [] n l d same = absurd (omega arith)
timers_of-set (k ∷ ls) (e ∷ ds) zero l d same = refl
timers_of-set (k ∷ ls) (e ∷ ds) (suc n) l d same = ap (λ (ts : List (Option Timer)). timer_with k e ∷ ts) (timers_of-set ls ds n l d (omega arith))

-- a row more
timers_of-push : (ls : List (Option TimerLevels)) (ds : List (Option ℕ)) → length ds ≡ length ls → timers_of (ls ++ None ∷ []) (ds ++ None ∷ []) ≡ timers_of ls ds ++ None ∷ []
timers_of-push [] [] same = refl
timers_of-push [] (d ∷ ds) same = absurd (omega arith)
timers_of-push (l ∷ ls) [] same = absurd (omega arith)
timers_of-push (l ∷ ls) (d ∷ ds) same = ap (λ (ts : List (Option Timer)). timer_with l d ∷ ts) (timers_of-push ls ds (omega arith))

-- no hard line has a deadline after one has another timer of which that is true, or behind a row more
pub still_set : (ts : List (Option Timer)) (n : ℕ) (t : Option Timer) → HardLinesAreStill ts → is_still_if_hard t ≡ true → HardLinesAreStill (set ts n t)
still_set [] n t all one m = refl
still_set (x ∷ ts) zero t all one zero = one
still_set (x ∷ ts) zero t all one (suc m) = all (suc m)
still_set (x ∷ ts) (suc n) t all one zero = all zero
still_set (x ∷ ts) (suc n) t all one (suc m) = still_set ts n t (λ k. all (suc k)) one m

still_push : (ts : List (Option Timer)) → HardLinesAreStill ts → HardLinesAreStill (ts ++ None ∷ [])
still_push [] all zero = refl
still_push [] all (suc m) = refl
still_push (x ∷ ts) all zero = all zero
still_push (x ∷ ts) all (suc m) = still_push ts (λ k. all (suc k)) m

-- no rows
pub no_rows_yet : (ls : List (Option TimerLevels)) (ds : List (Option ℕ)) (room : ℕ) → ls ≡ [] → ds ≡ [] → room ≡ TABLE_SIZE → AreRows ls ds room
no_rows_yet ls ds room are is whole = rw (are, is) (record { as_many = refl; few = omega arith; all_lines = whole; debounced = refl; still = λ n. refl })

-- a row that was put
pub rows_put : (ls after : List (Option TimerLevels)) (ds ds_after : List (Option ℕ)) (room more n : ℕ) (l : TimerLevels) (d : Option ℕ) → AreRows ls ds room
    → is_still_if_hard (timer_with (Some l) d) ≡ true → after ≡ set ls n (Some l) → ds_after ≡ set ds n d → more ≡ room → AreRows after ds_after more
rows_put ls after ds ds_after room more n l d rows one put put_d same = rw (put, put_d) (record {
  as_many = length-set ds n d ∙ rows.as_many ∙ sym (length-set ls n (Some l));
  few = omega (arith, length-set ls n (Some l), rows.few);
  all_lines = same ∙ rows.all_lines;
  debounced = goes_with (timers_of ls ds) ds (set ds n d) n (timer_with (Some l) d) rows.debounced refl ∙ ap (map deadline_of) (sym (timers_of-set ls ds n (Some l) d rows.as_many));
  still = subst HardLinesAreStill (sym (timers_of-set ls ds n (Some l) d rows.as_many)) (still_set (timers_of ls ds) n (timer_with (Some l) d) rows.still one);
})

pub timer_put : (ls after : List (Option TimerLevels)) (ds ds_after : List (Option ℕ)) (n : ℕ) (l : TimerLevels) (d : Option ℕ) → length ds ≡ length ls
    → after ≡ set ls n (Some l) → ds_after ≡ set ds n d → timers_of after ds_after ≡ set (timers_of ls ds) n (timer_with (Some l) d)
timer_put ls after ds ds_after n l d same put put_d = rw (put, put_d) (timers_of-set ls ds n (Some l) d same)

-- a row that was made
pub rows_made : (ls after : List (Option TimerLevels)) (ds ds_after : List (Option ℕ)) (room more : ℕ) → AreRows ls ds room → length ls < TABLE_SIZE
    → after ≡ ls ++ None ∷ [] → ds_after ≡ ds ++ None ∷ [] → more ≡ room → AreRows after ds_after more
rows_made ls after ds ds_after room more rows less made made_d same = rw (made, made_d) (record {
  as_many = omega (arith, length_push ls None, length_push ds None, rows.as_many);
  few = omega (arith, length_push ls None, less);
  all_lines = same ∙ rows.all_lines;
  debounced = goes_with_row (timers_of ls ds) ds rows.debounced ∙ ap (map deadline_of) (sym (timers_of-push ls ds rows.as_many));
  still = subst HardLinesAreStill (sym (timers_of-push ls ds rows.as_many)) (still_push (timers_of ls ds) rows.still);
})

pub table_made : (ls after : List (Option TimerLevels)) (ds ds_after : List (Option ℕ)) → length ds ≡ length ls → length ls < TABLE_SIZE
    → after ≡ ls ++ None ∷ [] → ds_after ≡ ds ++ None ∷ [] → all_lines (timers_of after ds_after) ≡ all_lines (timers_of ls ds)
table_made ls after ds ds_after same less made made_d =
    rw (made, made_d) (ap all_lines (timers_of-push ls ds same) ∙ row_added (timers_of ls ds) (omega (arith, length-timers_of ls ds same, less)))
