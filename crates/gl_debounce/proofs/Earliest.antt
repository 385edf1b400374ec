-- The first of all deadlines is that of the line that fires first.
use Rattle.std.proofs.Common.{ℕ, suc, Bool, true, false, cond, leb, ◌≡◌, ◌≢◌, ◌+◌, ◌-◌, ◌*◌, ◌<◌, ◌≤◌, List, [], ◌∷◌, length, map, get_or, Option, Some, None, ap, refl, sym, subst, ◌∙◌, inl, inr, arith}
use Rattle.std.specs.List.{slice_get}
use Rattle.std.proofs.lemmas.Bool.{cases_eq, cases_lt, le-leb, leb-true, ltb-true}
use Rattle.std.proofs.lemmas.List.{get_or-append_right, get_or_append_left, get_or_at, get_or-map, length-append, length-map}
use Rattle.gl_base.specs.declared.limits.TheConstants.{LINES_MAX}
use Rattle.gl_base.specs.Rows.{Each}
use Rattle.gl_debounce.specs.declared.timer.TheConstants.{TABLE_SIZE}
use Rattle.gl_debounce.specs.declared.due.Due.{Due}
use Rattle.gl_debounce.specs.declared.timer.Fired.{Fired}
use Rattle.gl_debounce.specs.declared.timer.Timer.{Timer}
use Rattle.gl_debounce.specs.Fire.{comes_before, due, fired, fired_at, fires, when_due, with_fired}
use Rattle.gl_debounce.specs.Order.{AreNone, IsFirst, deadline_of}
use Rattle.gl_debounce.proofs.GoingOn.{First, LiesFrom, by_key, fired_number, found, key, none_left, one_lies}

-- what is true of each line that is due is true of the one at position i
due_at_position : (P : Fired → Type 0) (now n : ℕ) (lines : List (Option Timer)) (i : ℕ) (y : Fired) → Each P (due now n lines) → i < length lines
    → fired_at now (n + i) (get_or lines i None) ≡ Some y → P y
due_at_position P now n [] i y each within is = absurd (omega arith)
due_at_position P now n (timer ∷ timers) i y each within is = elim (cases_eq i 0) [
  | inl first ↦
      (let here : n + i ≡ n = omega arith in
      let at : fired_at now n timer ≡ Some y = sym (ap (λ k. fired_at now (n + k) (get_or (timer ∷ timers) k None)) first ∙ ap (λ k. fired_at now k timer) (omega arith)) ∙ is in
      front (fired_at now n timer) at each)
  | inr later ↦
      (let before : ℕ = i - 1 in
      let next : i ≡ suc before = omega arith in
      let number : n + i ≡ n + 1 + before = omega arith in
      due_at_position P now (n + 1) timers before y (rest (fired_at now n timer) each) (omega arith)
      (sym (ap (λ k. fired_at now k (get_or (timer ∷ timers) i None)) number ∙ ap (λ k. fired_at now (n + 1 + before) (get_or (timer ∷ timers) k None)) next) ∙ is))
]
  where
    front : (o : Option Fired) → o ≡ Some y → Each P (with_fired o (due now (n + 1) timers)) → P y
    front None e all = cc
    front (Some x) e all = let same : x ≡ y = cc in subst P same all.0

    rest : (o : Option Fired) → Each P (with_fired o (due now (n + 1) timers)) → Each P (due now (n + 1) timers)
    rest None all = all
    rest (Some x) all = all.1

-- a line that fires had the deadline at which it does, which has come
moment : (now n : ℕ) (timer : Option Timer) (x : Fired) → fired_at now n timer ≡ Some x → (deadline_of timer ≡ Some x.deadline) × (x.deadline ≤ now)
moment now n None x is = cc
moment now n (Some timer) x is = by_deadline timer.deadline is
  where
    by_deadline : (o : Option ℕ) → when_due now n timer o ≡ Some x → (o ≡ Some x.deadline) × (x.deadline ≤ now)
    by_deadline None e = cc
    by_deadline (Some d) e = by_test (leb d now) refl e
      where
        by_test : (t : Bool) → leb d now ≡ t → cond t (Some (fired n d timer)) None ≡ Some x → (Some d ≡ Some x.deadline) × (x.deadline ≤ now)
        by_test true test h =
            let same : fired n d timer ≡ x = cc in
            let at : d ≡ x.deadline = ap (λ (f : Fired). f.deadline) same in
            (ap Some at, omega (arith, leb-true d now test))
        by_test false test h = cc

-- a line whose deadline has come fires
fires_at : (now n : ℕ) (timer : Option Timer) (deadline : ℕ) → deadline_of timer ≡ Some deadline → deadline ≤ now
    → (y : Fired) × (fired_at now n timer ≡ Some y) × (y.deadline ≡ deadline)
fires_at now n None deadline is come = cc
fires_at now n (Some timer) deadline is come =
    (fired n deadline timer, ap (when_due now n timer) is ∙ ap (λ b. cond b (Some (fired n deadline timer)) None) (le-leb deadline now come), refl)

-- of two lines the one with the lower moment and number has the lower key
key_le : (a b : Fired) (deadline n k : ℕ) → a.place * LINES_MAX + a.offset ≡ n → b.place * LINES_MAX + b.offset ≡ k → a.deadline ≡ deadline
    → deadline * TABLE_SIZE + n ≤ b.deadline * TABLE_SIZE + k → key a ≤ key b
unfolding key
key_le a b deadline n k an bk same le = omega arith

-- none fires where no line has a deadline
pub none_fires : (now : ℕ) (lines : List (Option Timer)) (ds : List (Option ℕ)) → length lines ≤ TABLE_SIZE → ds ≡ map deadline_of lines → AreNone ds → slice_get (fires now lines) 0 ≡ None
none_fires now lines ds whole is none = by_first (slice_get (fires now lines) 0) refl
  where
    by_first : (o : Option Fired) → slice_get (fires now lines) 0 ≡ o → o ≡ None
    by_first None e = refl
    by_first (Some x) e =
        let f : First now 0 lines x = found now 0 lines x (omega arith) e in
        let m : ℕ = length f.before in
        let long : length lines ≡ m + suc (length f.behind) = ap length f.split ∙ length-append f.before (Some f.timer ∷ f.behind) in
        let at : get_or lines m None ≡ Some f.timer = ap (λ ls. get_or ls m None) f.split ∙ get_or_at f.before (Some f.timer) f.behind None m refl in
        let there : deadline_of (get_or lines m None) ≡ Some x.deadline = ap deadline_of at ∙ (moment now (0 + m) (Some f.timer) x f.is).0 in
        let nothing : deadline_of (get_or lines m None) ≡ None = sym (get_or-map deadline_of lines m None None (omega arith)) ∙ ap (λ es. get_or es m None) (sym is) ∙ none.each m in
        cc

-- the line with the first of all deadlines fires first, if that has come
pub first_fires : (now : ℕ) (lines : List (Option Timer)) (ds : List (Option ℕ)) (d : Due) → length lines ≤ TABLE_SIZE → ds ≡ map deadline_of lines → IsFirst ds d
    → slice_get (fires now lines) 0 ≡ fired_at now d.line (get_or lines d.line None)
first_fires now lines ds d whole is first = by_first (slice_get (fires now lines) 0) refl
  where
    in_lines : d.line < length lines
    in_lines = let long : length ds ≡ length (map deadline_of lines) = ap length is in omega (arith, first.within, length-map lines deadline_of)

    deadline_at : (n : ℕ) → n < length lines → get_or ds n None ≡ deadline_of (get_or lines n None)
    deadline_at n within = ap (λ es. get_or es n None) is ∙ get_or-map deadline_of lines n None None within

    there : deadline_of (get_or lines d.line None) ≡ Some d.deadline
    there = sym (deadline_at d.line in_lines) ∙ first.there

    not_due : (o : Option Fired) → fired_at now d.line (get_or lines d.line None) ≡ o → due now 0 lines ≡ [] → None ≡ o
    not_due None e empty = refl
    not_due (Some y) e empty =
        let Never : Fired → Type 0 = λ _. ⊥ in
        let number : 0 + d.line ≡ d.line = omega arith in
        absurd (due_at_position Never now 0 lines d.line y (subst (Each Never) (sym empty) tt) in_lines (ap (λ k. fired_at now k (get_or lines d.line None)) number ∙ e))

    by_first : (o : Option Fired) → slice_get (fires now lines) 0 ≡ o → o ≡ fired_at now d.line (get_or lines d.line None)
    by_first None e = not_due (fired_at now d.line (get_or lines d.line None)) refl (none_left (due now 0 lines) e)
    by_first (Some x) e =
        let f : First now 0 lines x = found now 0 lines x (omega arith) e in
        let m : ℕ = length f.before in
        let long : length lines ≡ m + suc (length f.behind) = ap length f.split ∙ length-append f.before (Some f.timer ∷ f.behind) in
        let at : get_or lines m None ≡ Some f.timer = ap (λ ls. get_or ls m None) f.split ∙ get_or_at f.before (Some f.timer) f.behind None m refl in
        let come : (deadline_of (Some f.timer) ≡ Some x.deadline) × (x.deadline ≤ now) = moment now (0 + m) (Some f.timer) x f.is in
        let less : d.deadline * TABLE_SIZE + d.line ≤ x.deadline * TABLE_SIZE + m = first.first m x.deadline (deadline_at m (omega arith) ∙ ap deadline_of at ∙ come.0) in
        let here : (y : Fired) × (fired_at now d.line (get_or lines d.line None) ≡ Some y) × (y.deadline ≡ d.deadline) = fires_at now d.line (get_or lines d.line None) d.deadline there (omega (arith, come.1)) in
        by_place x f here less long at
      where
        by_place : (z : Fired) (f : First now 0 lines z) (here : (y : Fired) × (fired_at now d.line (get_or lines d.line None) ≡ Some y) × (y.deadline ≡ d.deadline))
            → d.deadline * TABLE_SIZE + d.line ≤ z.deadline * TABLE_SIZE + length f.before → length lines ≡ length f.before + suc (length f.behind) → get_or lines (length f.before) None ≡ Some f.timer
            → Some z ≡ fired_at now d.line (get_or lines d.line None)
        by_place z f here less long at =
            let m : ℕ = length f.before in
            let zero_m : 0 + m ≡ m = omega arith in
            let y : Fired = here.0 in
            let z_number : z.place * LINES_MAX + z.offset ≡ m = fired_number now (0 + m) (Some f.timer) z f.is ∙ zero_m in
            let y_number : y.place * LINES_MAX + y.offset ≡ d.line = fired_number now d.line (get_or lines d.line None) y here.1 in
            let y_lies : LiesFrom d.line y = one_lies now d.line (get_or lines d.line None) y (omega (arith, in_lines)) here.1 in
            let keys : key y ≤ key z = key_le y z d.deadline d.line m y_number z_number here.2 less in
            elim (cases_eq d.line m) [
              | inl same ↦
                  sym f.is ∙ ap (λ k. fired_at now k (Some f.timer)) (zero_m ∙ sym same) ∙ ap (fired_at now d.line) (sym at ∙ ap (λ k. get_or lines k None) (sym same))
              | inr other ↦ absurd (by_side z f y keys y_lies long at here.1 other)
            ]
          where
            earlier_not : (a b : Fired) (n k : ℕ) → key b ≤ key a → LiesFrom n a → LiesFrom k b → (comes_before a b ≡ true) × (comes_before b a ≡ false) → ⊥
            earlier_not a b n k le on_a on_b before =
                let less : key a < key b = ltb-true (key a) (key b) (sym (by_key n k a b on_a on_b) ∙ before.0) in
                omega arith

            by_side : (x : Fired) (g : First now 0 lines x) (y : Fired) → key y ≤ key x → LiesFrom d.line y → length lines ≡ length g.before + suc (length g.behind)
                → get_or lines (length g.before) None ≡ Some g.timer → fired_at now d.line (get_or lines d.line None) ≡ Some y → d.line ≢ length g.before → ⊥
            by_side x g y le y_lies size stands is_y apart = elim (cases_lt d.line (length g.before)) [
              | inl front ↦
                  (let number : 0 + d.line ≡ d.line = omega arith in
                  let line : get_or g.before d.line None ≡ get_or lines d.line None = sym (ap (λ ls. get_or ls d.line None) g.split ∙ get_or_append_left g.before (Some g.timer ∷ g.behind) None d.line front) in
                  let behind : (comes_before x y ≡ true) × (comes_before y x ≡ false) =
                  due_at_position (λ w. (comes_before x w ≡ true) × (comes_before w x ≡ false)) now 0 g.before d.line y g.earlier front
                  (ap (λ k. fired_at now k (get_or g.before d.line None)) number ∙ ap (fired_at now d.line) line ∙ is_y) in
                  earlier_not x y 0 d.line le g.lies y_lies behind)
              | inr back ↦
                  (let m : ℕ = length g.before in
                  let j : ℕ = d.line - (m + 1) in
                  let number : 0 + m + 1 + j ≡ d.line = omega arith in
                  let over : d.line - m ≡ suc j = omega arith in
                  let line : get_or g.behind j None ≡ get_or lines d.line None =
                  sym (ap (λ ls. get_or ls d.line None) g.split ∙ get_or-append_right g.before (Some g.timer ∷ g.behind) m d.line None refl (omega arith)
                  ∙ ap (λ k. get_or (Some g.timer ∷ g.behind) k None) over) in
                  let behind : (comes_before x y ≡ true) × (comes_before y x ≡ false) =
                  due_at_position (λ w. (comes_before x w ≡ true) × (comes_before w x ≡ false)) now (0 + m + 1) g.behind j y g.later (omega (arith, in_lines))
                  (ap (λ k. fired_at now k (get_or g.behind j None)) number ∙ ap (fired_at now d.line) line ∙ is_y) in
                  earlier_not x y 0 d.line le g.lies y_lies behind)
            ]
