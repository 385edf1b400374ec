-- The deadlines of all lines, read off heap and table.
use Rattle.std.proofs.Common.{ℕ, ◌≡◌, ◌+◌, ◌*◌, ◌<◌, ◌≤◌, List, [], ◌∷◌, ◌++◌, length, map, get_or, set, sum_by, Option, Some, None, refl, ap, sym, ◌∙◌, inl, inr, arith, length-set, get_or-set_same}
use Rattle.std.proofs.lemmas.Bool.{cases_lt}
use Rattle.std.proofs.lemmas.List.{get_or-map, get_or_past, length-map, map-append, map-set, set-get_or}
use Rattle.gl_debounce.specs.declared.timer.TheConstants.{TABLE_SIZE}
use Rattle.gl_debounce.specs.declared.due.Due.{Due}
use Rattle.gl_debounce.specs.declared.timer.Timer.{Timer}
use Rattle.gl_debounce.specs.Order.{Agree, AreNone, IsFirst, IsOrdered, deadline_in, deadline_of, deadlines_of, due_at, one, rank, rank_at}
use Rattle.gl_debounce.proofs.Ranks.{least}
use Rattle.gl_debounce.proofs.Slots.{in_table}

-- the deadline of a line, as the table tells it; a line past the end has none
pub at_line : (heap : List Due) (slots : List (Option ℕ)) (n : ℕ) → get_or (deadlines_of heap slots) n None ≡ deadline_in heap (get_or slots n None)
at_line heap slots n = elim (cases_lt n (length slots)) [
  | inl within ↦ get_or-map (deadline_in heap) slots n None None within
  | inr past ↦
      get_or_past (deadlines_of heap slots) n None (omega (arith, length-map slots (deadline_in heap)))
      ∙ sym (ap (deadline_in heap) (get_or_past slots n None past))
]

-- an empty heap tells of none
pub none_due : (heap : List Due) (slots : List (Option ℕ)) → Agree heap slots → length heap ≡ 0 → AreNone (deadlines_of heap slots)
none_due heap slots agree empty = record { each = λ n. at_line heap slots n ∙ by_slot n (get_or slots n None) refl }
  where
    by_slot : (n : ℕ) (o : Option ℕ) → get_or slots n None ≡ o → deadline_in heap o ≡ None
    by_slot n None is = refl
    by_slot n (Some k) is = absurd (omega (arith, (agree.stands n k is).0))

-- the first of a heap is the first of all
pub first_due : (heap : List Due) (slots : List (Option ℕ)) (x : Due) → Agree heap slots → IsOrdered (length heap) (rank_at heap) → 0 < length heap → x ≡ due_at heap 0
    → IsFirst (deadlines_of heap slots) x
first_due heap slots x agree order some is = record {
  within = omega (arith, in_table heap slots 0 x is agree some, length-map slots (deadline_in heap));
  there = at_line heap slots x.line ∙ ap (deadline_in heap) told ∙ ap (λ (d : Due). Some d.deadline) (sym is);
  first = λ line deadline there. by_slot line deadline (get_or slots line None) refl (sym (at_line heap slots line) ∙ there);
}
  where
    told : get_or slots x.line None ≡ Some 0
    told = ap (λ (d : Due). get_or slots d.line None) is ∙ agree.told 0 some

    by_slot : (line deadline : ℕ) (o : Option ℕ) → get_or slots line None ≡ o → deadline_in heap o ≡ Some deadline → x.deadline * TABLE_SIZE + x.line ≤ deadline * TABLE_SIZE + line
    by_slot line deadline None at there = cc
    by_slot line deadline (Some k) at there =
        let stood : (k < length heap) × ((due_at heap k).line ≡ line) = agree.stands line k at in
        let moment : (due_at heap k).deadline ≡ deadline = cc in
        let less : rank_at heap 0 ≤ rank_at heap k = least (length heap) (rank_at heap) order k k (omega arith) stood.0 in
        let here : rank x ≡ rank_at heap 0 = ap rank is in
        omega (arith, stood.1)

-- a table without rows tells of none
pub no_deadlines : (heap : List Due) (slots : List (Option ℕ)) → slots ≡ [] → deadlines_of heap slots ≡ []
no_deadlines heap slots is = ap (map (deadline_in heap)) is

-- a row more tells of none
pub deadlines_row : (heap : List Due) (slots : List (Option ℕ)) → deadlines_of heap (slots ++ None ∷ []) ≡ deadlines_of heap slots ++ None ∷ []
deadlines_row heap slots = map-append (deadline_in heap) slots (None ∷ [])

-- a line that has no place in the table has no deadline, so nothing is taken away
pub nothing_cleared : (heap : List Due) (slots : List (Option ℕ)) (n : ℕ) → get_or slots n None ≡ None → set (deadlines_of heap slots) n None ≡ deadlines_of heap slots
nothing_cleared heap slots n free =
    let none : get_or (deadlines_of heap slots) n None ≡ None = at_line heap slots n ∙ ap (deadline_in heap) free in
    ap (set (deadlines_of heap slots) n) (sym none) ∙ set-get_or (deadlines_of heap slots) n None

-- and the other way round
pub free_since : (heap : List Due) (slots : List (Option ℕ)) (n : ℕ) → get_or (deadlines_of heap slots) n None ≡ None → get_or slots n None ≡ None
free_since heap slots n none = by_slot (get_or slots n None) refl (sym (at_line heap slots n) ∙ none)
  where
    by_slot : (o : Option ℕ) → get_or slots n None ≡ o → deadline_in heap o ≡ None → get_or slots n None ≡ None
    by_slot None at there = at
    by_slot (Some k) at there = cc

pub free_cleared : (heap : List Due) (slots : List (Option ℕ)) (ds : List (Option ℕ)) (n : ℕ) → n < length ds → deadlines_of heap slots ≡ set ds n None → get_or slots n None ≡ None
free_cleared heap slots ds n within is = free_since heap slots n (ap (λ es. get_or es n None) is ∙ get_or-set_same ds n None None within)

-- the line has its row still
pub row_stays : (heap : List Due) (slots : List (Option ℕ)) (ds : List (Option ℕ)) (n : ℕ) → n < length ds → deadlines_of heap slots ≡ set ds n None → n < length slots
row_stays heap slots ds n within is =
    let long : length (set ds n None) ≡ length ds = length-set ds n None in
    let as_many : length (deadlines_of heap slots) ≡ length slots = length-map slots (deadline_in heap) in
    let same : length (deadlines_of heap slots) ≡ length (set ds n None) = ap length is in
    omega arith

-- as many lines have a row as deadlines are told
pub rows_told : (heap : List Due) (slots : List (Option ℕ)) (ds : List (Option ℕ)) → deadlines_of heap slots ≡ ds → length ds ≡ length slots
rows_told heap slots ds is = sym (ap length is) ∙ length-map slots (deadline_in heap)

-- the deadlines go with the timers
pub goes_with : (lines : List (Option Timer)) (ds after : List (Option ℕ)) (n : ℕ) (timer : Option Timer) → ds ≡ map deadline_of lines → after ≡ set ds n (deadline_of timer)
    → after ≡ map deadline_of (set lines n timer)
goes_with lines ds after n timer is so = so ∙ ap (λ es. set es n (deadline_of timer)) is ∙ sym (map-set deadline_of lines n timer)

pub goes_with_none : (lines : List (Option Timer)) (ds : List (Option ℕ)) → lines ≡ [] → ds ≡ [] → ds ≡ map deadline_of lines
goes_with_none lines ds are is = is ∙ sym (ap (map deadline_of) are)

-- and with a row more
pub goes_with_row : (lines : List (Option Timer)) (ds : List (Option ℕ)) → ds ≡ map deadline_of lines → ds ++ None ∷ [] ≡ map deadline_of (lines ++ None ∷ [])
goes_with_row lines ds is = ap (λ (es : List (Option ℕ)). es ++ None ∷ []) is ∙ sym (map-append deadline_of lines (None ∷ []))

-- at first nothing stands in the heap
pub empty_agrees : (heap : List Due) (slots : List (Option ℕ)) → heap ≡ [] → slots ≡ [] → Agree heap slots
empty_agrees heap slots is are = record {
  size = omega (arith, ap length are);
  told = λ k below. absurd (omega (arith, ap length is));
  stands = λ line k there. absurd (none_some k (sym (get_or_past slots line None (omega (arith, ap length are))) ∙ there));
  counted = ap length is ∙ sym (ap (sum_by one) are);
}
  where
    none_some : (k : ℕ) → None ≡ Some k → ⊥
    none_some k e = cc

pub empty_ordered : (heap : List Due) → heap ≡ [] → IsOrdered (length heap) (rank_at heap)
empty_ordered heap is = record { each = λ k some below. absurd (omega (arith, ap length is)) }
