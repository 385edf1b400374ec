-- The line that fires first leaves the others to fire in their order.
use Rattle.std.proofs.Common.{ℕ, suc, Bool, true, false, cond, eqb, ltb, leb, ◌≡◌, ◌+◌, ◌*◌, ◌/◌, ◌%◌, ◌<◌, ◌≤◌, List, [], ◌∷◌, ◌++◌, length, drop, get_or, set, Option, Some, None, ap, refl, sym, subst, ◌∙◌, inl, inr, arith, length-append}
use Rattle.std.specs.List.{slice_get}
use Rattle.std.specs.Option.{option_map}
use Rattle.std.proofs.lemmas.Bool.{cases_order, eq-eqb, le-ltb, lt-ltb, ltb-false, ltb-true, ne_eqb}
use Rattle.std.proofs.lemmas.List.{get_or_at, set_at}
use Rattle.gl_base.specs.declared.limits.TheConstants.{LINES_MAX, PLACES}
use Rattle.gl_base.specs.Ordered.{ordered, put_in_order}
use Rattle.gl_base.specs.Rows.{Each}
use Rattle.gl_debounce.specs.declared.timer.TheConstants.{TABLE_SIZE}
use Rattle.gl_debounce.specs.declared.timer.Fired.{Fired}
use Rattle.gl_debounce.specs.declared.timer.Timer.{Timer}
use Rattle.gl_debounce.specs.Fire.{after_first, comes_before, due, fired, fired_at, fires, when_due, with_fired}
use Rattle.gl_debounce.specs.Timer.{line_number, settled_at_raw}
use Rattle.gl_debounce.proofs.Firing.{earlier_of, put_first}

-- the number by which a line comes before another
unfoldable pub key : Fired → ℕ
key f = f.deadline * TABLE_SIZE + f.place * LINES_MAX + f.offset

-- the line lies on the table, from number n on
pub record LiesFrom (n : ℕ) (f : Fired) : Type 0 where
  pub place : f.place < PLACES
  pub offset : f.offset < LINES_MAX
  pub from : n ≤ f.place * LINES_MAX + f.offset

pub by_key : (n m : ℕ) (a b : Fired) → LiesFrom n a → LiesFrom m b → comes_before a b ≡ ltb (key a) (key b)
unfolding key
by_key n m a b on_a on_b =
    elim (cases_order a.deadline b.deadline) [
      | inl same ↦ by_place same
      | inr order ↦
          elim order [
            | inl less ↦
                (let first : ltb a.deadline b.deadline ≡ true = lt-ltb a.deadline b.deadline less in
                let whole : ltb (key a) (key b) ≡ true = lt-ltb (key a) (key b) (omega (arith, on_a.place, on_a.offset, less)) in
                simp (first, whole))
            | inr more ↦
                (let first : ltb a.deadline b.deadline ≡ false = le-ltb a.deadline b.deadline (omega arith) in
                let other : eqb a.deadline b.deadline ≡ false = ne_eqb a.deadline b.deadline (λ e. omega arith) in
                let whole : ltb (key a) (key b) ≡ false = le-ltb (key a) (key b) (omega (arith, on_b.place, on_b.offset, more)) in
                simp (first, other, whole))
          ]
    ]
  where
    by_offset : a.deadline ≡ b.deadline → a.place ≡ b.place → comes_before a b ≡ ltb (key a) (key b)
    by_offset d p =
        let first : ltb a.deadline b.deadline ≡ false = le-ltb a.deadline b.deadline (omega arith) in
        let other : eqb a.deadline b.deadline ≡ true = eq-eqb a.deadline b.deadline d in
        let place : ltb a.place b.place ≡ false = le-ltb a.place b.place (omega arith) in
        let same : eqb a.place b.place ≡ true = eq-eqb a.place b.place p in
        let shift : ltb (key a) (key b) ≡ ltb a.offset b.offset =
        elim (cases_order a.offset b.offset) [
          | inl e ↦ le-ltb (key a) (key b) (omega arith) ∙ sym (le-ltb a.offset b.offset (omega arith))
          | inr o ↦
              elim o [
                | inl less ↦ lt-ltb (key a) (key b) (omega arith) ∙ sym (lt-ltb a.offset b.offset less)
                | inr more ↦ le-ltb (key a) (key b) (omega arith) ∙ sym (le-ltb a.offset b.offset (omega arith))
              ]
        ] in
        simp (first, other, place, same, shift)

    by_place : a.deadline ≡ b.deadline → comes_before a b ≡ ltb (key a) (key b)
    by_place d =
        let first : ltb a.deadline b.deadline ≡ false = le-ltb a.deadline b.deadline (omega arith) in
        let other : eqb a.deadline b.deadline ≡ true = eq-eqb a.deadline b.deadline d in
        elim (cases_order a.place b.place) [
          | inl same ↦ by_offset d same
          | inr order ↦
              elim order [
                | inl less ↦
                    (let place : ltb a.place b.place ≡ true = lt-ltb a.place b.place less in
                    let whole : ltb (key a) (key b) ≡ true = lt-ltb (key a) (key b) (omega (arith, on_a.offset, less, d)) in
                    simp (first, other, place, whole))
                | inr more ↦
                    (let place : ltb a.place b.place ≡ false = le-ltb a.place b.place (omega arith) in
                    let apart : eqb a.place b.place ≡ false = ne_eqb a.place b.place (λ e. omega arith) in
                    let whole : ltb (key a) (key b) ≡ false = le-ltb (key a) (key b) (omega (arith, on_b.offset, more, d)) in
                    simp (first, other, place, apart, whole))
              ]
        ]

-- lines of different numbers have different keys
keys_apart : (a b : Fired) (n : ℕ) → a.place * LINES_MAX + a.offset ≡ n → key b ≤ key a → n + 1 ≤ b.place * LINES_MAX + b.offset
    → a.place < PLACES → a.offset < LINES_MAX → b.place < PLACES → b.offset < LINES_MAX → key b < key a
unfolding key
keys_apart a b n number less from ap ao bp bo =
    elim (cases_order a.deadline b.deadline) [
      | inl same ↦ absurd (omega arith)
      | inr order ↦ elim order [ inl below ↦ absurd (omega arith) | inr above ↦ omega arith ]
    ]

-- the lines that are due lie on the table
fired_lies : (now n : ℕ) (timer : Timer) (deadline : ℕ) → n < TABLE_SIZE → LiesFrom n (fired n deadline timer)
fired_lies now n timer deadline within = record { place = omega arith; offset = omega arith; from = omega arith }

weaker : (n m : ℕ) (f : Fired) → n ≤ m → LiesFrom m f → LiesFrom n f
weaker n m f less lies = record { place = lies.place; offset = lies.offset; from = omega (arith, lies.from) }

Each-weaker : (n m : ℕ) (fs : List Fired) → n ≤ m → Each (LiesFrom m) fs → Each (LiesFrom n) fs
Each-weaker n m [] less each = tt
Each-weaker n m (f ∷ fs) less each = (weaker n m f less each.0, Each-weaker n m fs less each.1)

with_fired_lies : (now n : ℕ) (timer : Option Timer) (others : List Fired) → n < TABLE_SIZE → Each (LiesFrom n) others → Each (LiesFrom n) (with_fired (fired_at now n timer) others)
with_fired_lies now n None others within each = each
with_fired_lies now n (Some timer) others within each = by_deadline timer.deadline
  where
    by_deadline : (deadline : Option ℕ) → Each (LiesFrom n) (with_fired (when_due now n timer deadline) others)
    by_deadline None = each
    by_deadline (Some deadline) = by_test (leb deadline now)
      where
        by_test : (t : Bool) → Each (LiesFrom n) (with_fired (cond t (Some (fired n deadline timer)) None) others)
        by_test true = (fired_lies now n timer deadline within, each)
        by_test false = each

due_lies : (now n : ℕ) (lines : List (Option Timer)) → n + length lines ≤ TABLE_SIZE → Each (LiesFrom n) (due now n lines)
due_lies now n [] within = tt
due_lies now n (timer ∷ timers) within =
    with_fired_lies now n timer (due now (n + 1) timers) (omega arith) (Each-weaker n (n + 1) (due now (n + 1) timers) (omega arith) (due_lies now (n + 1) timers (omega arith)))

-- The line that fires first, and the lines before and behind it in the table.
pub record First (now n : ℕ) (lines : List (Option Timer)) (x : Fired) : Type 0 where
  pub before : List (Option Timer)
  pub timer : Timer
  pub behind : List (Option Timer)
  pub split : lines ≡ before ++ Some timer ∷ behind
  pub is : fired_at now (n + length before) (Some timer) ≡ Some x
  pub lies : LiesFrom n x
  pub earlier : Each (λ y. (comes_before x y ≡ true) × (comes_before y x ≡ false)) (due now n before)
  pub later : Each (λ y. (comes_before x y ≡ true) × (comes_before y x ≡ false)) (due now (n + length before + 1) behind)

-- a line that comes before x comes before each that x comes before
before_each : (n m k : ℕ) (y x : Fired) (zs : List Fired) → LiesFrom n y → LiesFrom m x → Each (LiesFrom k) zs → comes_before y x ≡ true
    → Each (λ z. (comes_before x z ≡ true) × (comes_before z x ≡ false)) zs → Each (λ z. (comes_before y z ≡ true) × (comes_before z y ≡ false)) zs
before_each n m k y x [] on_y on_x lie first each = tt
before_each n m k y x (z ∷ zs) on_y on_x lie first each =
    let yx : key y < key x = ltb-true (key y) (key x) (sym (by_key n m y x on_y on_x) ∙ first) in
    let xz : key x < key z = ltb-true (key x) (key z) (sym (by_key m k x z on_x lie.0) ∙ each.0.0) in (
      (by_key n k y z on_y lie.0 ∙ lt-ltb (key y) (key z) (omega arith), by_key k n z y lie.0 on_y ∙ le-ltb (key z) (key y) (omega arith)),
      before_each n m k y x zs on_y on_x lie.1 first each.1,
    )

Each-append : (P : Fired → Type 0) (xs ys : List Fired) → Each P xs → Each P ys → Each P (xs ++ ys)
Each-append P [] ys a b = b
Each-append P (x ∷ xs) ys a b = (a.0, Each-append P xs ys a.1 b)

pub due-append : (now n : ℕ) (before behind : List (Option Timer)) → due now n (before ++ behind) ≡ due now n before ++ due now (n + length before) behind
due-append now n [] behind = let e : n ≡ n + 0 = omega arith in ap (λ k. due now k behind) e
due-append now n (timer ∷ before) behind =
    let e : n + 1 + length before ≡ n + suc (length before) = omega arith in
    ap (with_fired (fired_at now n timer)) (due-append now (n + 1) before behind ∙ ap (λ k. due now (n + 1) before ++ due now k behind) e)
    ∙ together (fired_at now n timer)
  where
    together : (f : Option Fired) → with_fired f (due now (n + 1) before ++ due now (n + suc (length before)) behind)
        ≡ with_fired f (due now (n + 1) before) ++ due now (n + suc (length before)) behind
    together None = refl
    together (Some x) = refl

-- the lines that are due, parted at the first
due_parted : (now n : ℕ) (lines : List (Option Timer)) (x : Fired) (f : First now n lines x)
    → due now n lines ≡ due now n f.before ++ x ∷ due now (n + length f.before + 1) f.behind
due_parted now n lines x f =
    ap (due now n) f.split ∙ due-append now n f.before (Some f.timer ∷ f.behind)
    ∙ ap (λ o. due now n f.before ++ with_fired o (due now (n + length f.before + 1) f.behind)) f.is

-- all that is due, but the first, comes behind it
others_behind : (now n : ℕ) (timers : List (Option Timer)) (z y : Fired) (k : ℕ) → First now n timers z → LiesFrom k y → comes_before y z ≡ true → n + length timers ≤ TABLE_SIZE
    → Each (λ w. (comes_before y w ≡ true) × (comes_before w y ≡ false)) (due now n timers)
others_behind now n timers z y k f on_y first within =
    let Behind : List Fired → Type 0 = λ ws. Each (λ w. (comes_before y w ≡ true) × (comes_before w y ≡ false)) ws in
    let long : length timers ≡ length f.before + suc (length f.behind) = ap length f.split ∙ length-append f.before (Some f.timer ∷ f.behind) in
    let earlier_lie : Each (LiesFrom n) (due now n f.before) = due_lies now n f.before (omega arith) in
    let later_lie : Each (LiesFrom (n + length f.before + 1)) (due now (n + length f.before + 1) f.behind) = due_lies now (n + length f.before + 1) f.behind (omega arith) in
    let yz : key y < key z = ltb-true (key y) (key z) (sym (by_key k n y z on_y f.lies) ∙ first) in
    subst Behind (sym (due_parted now n timers z f))
    (Each-append (λ w. (comes_before y w ≡ true) × (comes_before w y ≡ false)) (due now n f.before) (z ∷ due now (n + length f.before + 1) f.behind)
    (before_each k n n y z (due now n f.before) on_y f.lies earlier_lie first f.earlier) (
      (first, by_key n k z y f.lies on_y ∙ le-ltb (key z) (key y) (omega arith)),
      before_each k n (n + length f.before + 1) y z (due now (n + length f.before + 1) f.behind) on_y f.lies later_lie first f.later,
    ))

-- what is found of a line is at its number
pub fired_number : (now n : ℕ) (timer : Option Timer) (y : Fired) → fired_at now n timer ≡ Some y → y.place * LINES_MAX + y.offset ≡ n
fired_number now n None y is = cc
fired_number now n (Some timer) y is = by_deadline timer.deadline is
  where
    by_deadline : (deadline : Option ℕ) → when_due now n timer deadline ≡ Some y → y.place * LINES_MAX + y.offset ≡ n
    by_deadline None e = cc
    by_deadline (Some deadline) e = by_test (leb deadline now) e
      where
        by_test : (t : Bool) → cond t (Some (fired n deadline timer)) None ≡ Some y → y.place * LINES_MAX + y.offset ≡ n
        by_test true h =
            let same : fired n deadline timer ≡ y = cc in
            let number : n / LINES_MAX * LINES_MAX + n % LINES_MAX ≡ n = omega arith in
            sym (ap (λ (f : Fired). f.place * LINES_MAX + f.offset) same) ∙ number
        by_test false h = cc

pub one_lies : (now n : ℕ) (timer : Option Timer) (y : Fired) → n < TABLE_SIZE → fired_at now n timer ≡ Some y → LiesFrom n y
one_lies now n timer y within is =
    let Lies : Option Fired → Type 0 = λ o. Each (LiesFrom n) (with_fired o []) in
    (subst Lies is (with_fired_lies now n timer [] within tt)).0

pub none_left : (ys : List Fired) → slice_get (ordered comes_before ys) 0 ≡ None → ys ≡ []
none_left [] none = refl
none_left (y ∷ ys) none = by_rest (slice_get (ordered comes_before ys) 0) (sym (put_first y (ordered comes_before ys)) ∙ none)
  where
    by_rest : (o : Option Fired) → earlier_of y o ≡ None → y ∷ ys ≡ []
    by_rest None e = cc
    by_rest (Some z) e = by_test (comes_before y z) e
      where
        by_test : (t : Bool) → cond t (Some y) (Some z) ≡ None → y ∷ ys ≡ []
        by_test true h = cc
        by_test false h = cc

-- the first of the lines behind, where the one in front isn't due
behind_first : (now n : ℕ) (timer : Option Timer) (timers : List (Option Timer)) (z : Fired) → First now (n + 1) timers z
    → Each (λ y. (comes_before z y ≡ true) × (comes_before y z ≡ false)) (with_fired (fired_at now n timer) []) → First now n (timer ∷ timers) z
behind_first now n timer timers z f front =
    let at : n + 1 + length f.before ≡ n + suc (length f.before) = omega arith in
    let Later : ℕ → Type 0 = λ k. Each (λ y. (comes_before z y ≡ true) × (comes_before y z ≡ false)) (due now (k + 1) f.behind) in
    record {
      before = timer ∷ f.before;
      timer = f.timer;
      behind = f.behind;
      split = ap (λ ts. timer ∷ ts) f.split;
      is = ap (λ k. fired_at now k (Some f.timer)) (sym at) ∙ f.is;
      lies = weaker n (n + 1) z (omega arith) f.lies;
      earlier = by_front (fired_at now n timer) front;
      later = subst Later at f.later;
    }
  where
    by_front : (o : Option Fired) → Each (λ y. (comes_before z y ≡ true) × (comes_before y z ≡ false)) (with_fired o [])
        → Each (λ y. (comes_before z y ≡ true) × (comes_before y z ≡ false)) (with_fired o (due now (n + 1) f.before))
    by_front None each = f.earlier
    by_front (Some y) each = (each.0, f.earlier)

-- the line in front, where it comes before all that is due behind it
front_first : (now n : ℕ) (timer : Option Timer) (timers : List (Option Timer)) (y : Fired) → n < TABLE_SIZE → fired_at now n timer ≡ Some y
    → Each (λ w. (comes_before y w ≡ true) × (comes_before w y ≡ false)) (due now (n + 1) timers) → First now n (timer ∷ timers) y
front_first now n None timers y within is later = cc
front_first now n (Some timer) timers y within is later =
    let at : n ≡ n + 0 = omega arith in
    let Later : ℕ → Type 0 = λ k. Each (λ w. (comes_before y w ≡ true) × (comes_before w y ≡ false)) (due now (k + 1) timers) in
    record {
      before = [];
      timer = timer;
      behind = timers;
      split = refl;
      is = ap (λ k. fired_at now k (Some timer)) (sym at) ∙ is;
      lies = one_lies now n (Some timer) y within is;
      earlier = tt;
      later = subst Later at later;
    }

found_step : (now n : ℕ) (timer : Option Timer) (timers : List (Option Timer)) (x : Fired) → n + suc (length timers) ≤ TABLE_SIZE
    → ((z : Fired) → slice_get (ordered comes_before (due now (n + 1) timers)) 0 ≡ Some z → First now (n + 1) timers z)
    → slice_get (ordered comes_before (with_fired (fired_at now n timer) (due now (n + 1) timers))) 0 ≡ Some x → First now n (timer ∷ timers) x
found_step now n timer timers x within rest first = by_line (fired_at now n timer) refl first
  where
    by_line : (o : Option Fired) → fired_at now n timer ≡ o → slice_get (ordered comes_before (with_fired o (due now (n + 1) timers))) 0 ≡ Some x → First now n (timer ∷ timers) x
    by_line None none h =
        let Front : Option Fired → Type 0 = λ o. Each (λ y. (comes_before x y ≡ true) × (comes_before y x ≡ false)) (with_fired o []) in
        behind_first now n timer timers x (rest x h) (subst Front (sym none) tt)
    by_line (Some y) is h =
        by_rest (slice_get (ordered comes_before (due now (n + 1) timers)) 0) refl (sym (put_first y (ordered comes_before (due now (n + 1) timers))) ∙ h)
      where
        by_rest : (r : Option Fired) → slice_get (ordered comes_before (due now (n + 1) timers)) 0 ≡ r → earlier_of y r ≡ Some x → First now n (timer ∷ timers) x
        by_rest None none e =
            let same : y ≡ x = cc in
            let Later : List Fired → Type 0 = λ ws. Each (λ w. (comes_before x w ≡ true) × (comes_before w x ≡ false)) ws in
            front_first now n timer timers x (omega arith) (is ∙ ap Some same) (subst Later (sym (none_left (due now (n + 1) timers) none)) tt)
        by_rest (Some z) some e = by_test (comes_before y z) refl e
          where
            by_test : (t : Bool) → comes_before y z ≡ t → cond t (Some y) (Some z) ≡ Some x → First now n (timer ∷ timers) x
            by_test true test g =
                let same : y ≡ x = cc in
                let y_lies : LiesFrom n y = one_lies now n timer y (omega arith) is in
                let First-of : Fired → Type 0 = λ w. First now n (timer ∷ timers) w in
                subst First-of same
                (front_first now n timer timers y (omega arith) is (others_behind now (n + 1) timers z y n (rest z some) y_lies test (omega arith)))
            by_test false test g =
                let same : z ≡ x = cc in
                let f : First now (n + 1) timers z = rest z some in
                let y_lies : LiesFrom n y = one_lies now n timer y (omega arith) is in
                let number : y.place * LINES_MAX + y.offset ≡ n = fired_number now n timer y is in
                let z_first : key z < key y = key_first y z number (ltb-false (key y) (key z) (sym (by_key n (n + 1) y z y_lies f.lies) ∙ test)) f.lies.from y_lies f.lies in
                let First-of : Fired → Type 0 = λ w. First now n (timer ∷ timers) w in
                let Front : Option Fired → Type 0 = λ o. Each (λ w. (comes_before z w ≡ true) × (comes_before w z ≡ false)) (with_fired o []) in
                subst First-of same
                (behind_first now n timer timers z f
                (subst Front (sym is) ((by_key (n + 1) n z y f.lies y_lies ∙ lt-ltb (key z) (key y) z_first, test), tt)))
              where
                key_first : (a b : Fired) → a.place * LINES_MAX + a.offset ≡ n → key b ≤ key a → n + 1 ≤ b.place * LINES_MAX + b.offset → LiesFrom n a → LiesFrom (n + 1) b → key b < key a
                key_first a b number less from on_a on_b = keys_apart a b n number less from on_a.place on_a.offset on_b.place on_b.offset

-- which line is the first
pub found : (now n : ℕ) (lines : List (Option Timer)) (x : Fired) → n + length lines ≤ TABLE_SIZE → slice_get (ordered comes_before (due now n lines)) 0 ≡ Some x → First now n lines x
found now n [] x within first = cc
found now n (timer ∷ timers) x within first =
    found_step now n timer timers x within (λ z h. found now (n + 1) timers z (omega arith) h) first

put_in_front : (x : Fired) (ys : List Fired) → Each (λ y. (comes_before x y ≡ true) × (comes_before y x ≡ false)) ys → put_in_order comes_before x ys ≡ x ∷ ys
put_in_front x [] each = refl
put_in_front x (y ∷ ys) each = ap (λ b. cond b (x ∷ y ∷ ys) (y ∷ put_in_order comes_before x ys)) each.0.0

Each-put : (P : Fired → Type 0) (x : Fired) (ys : List Fired) → P x → Each P ys → Each P (put_in_order comes_before x ys)
Each-put P x [] p each = (p, tt)
Each-put P x (y ∷ ys) p each = by_test (comes_before x y) (Each-put P x ys p each.1)
  where
    by_test : (t : Bool) → Each P (put_in_order comes_before x ys) → Each P (cond t (x ∷ y ∷ ys) (y ∷ put_in_order comes_before x ys))
    by_test true rest = (p, each)
    by_test false rest = (each.0, rest)

Each-ordered : (P : Fired → Type 0) (ys : List Fired) → Each P ys → Each P (ordered comes_before ys)
Each-ordered P [] each = tt
Each-ordered P (y ∷ ys) each = Each-put P y (ordered comes_before ys) each.0 (Each-ordered P ys each.1)

-- the first of some in order, before the others
pulled : (x : Fired) (front back : List Fired) → Each (λ y. (comes_before x y ≡ true) × (comes_before y x ≡ false)) front
    → Each (λ y. (comes_before x y ≡ true) × (comes_before y x ≡ false)) back
    → ordered comes_before (front ++ x ∷ back) ≡ x ∷ ordered comes_before (front ++ back)
pulled x [] back before behind =
    put_in_front x (ordered comes_before back) (Each-ordered (λ y. (comes_before x y ≡ true) × (comes_before y x ≡ false)) back behind)
pulled x (y ∷ front) back before behind =
    ap (put_in_order comes_before y) (pulled x front back before.1 behind)
    ∙ ap (λ b. cond b (y ∷ x ∷ ordered comes_before (front ++ back)) (x ∷ put_in_order comes_before y (ordered comes_before (front ++ back)))) before.0.1

pub goes_on : (now : ℕ) (lines : List (Option Timer)) → length lines ≡ TABLE_SIZE → fires now (after_first (slice_get (fires now lines) 0) lines) ≡ drop 1 (fires now lines)
goes_on now lines whole = by_first (slice_get (fires now lines) 0) refl
  where
    by_first : (o : Option Fired) → slice_get (fires now lines) 0 ≡ o → fires now (after_first o lines) ≡ drop 1 (fires now lines)
    by_first None none =
        let empty : due now 0 lines ≡ [] = none_left (due now 0 lines) none in
        ap (ordered comes_before) empty ∙ sym (ap (λ ds. drop 1 (ordered comes_before ds)) empty)
    by_first (Some x) first =
        let f : First now 0 lines x = found now 0 lines x (omega arith) first in
        let n : ℕ = length f.before in
        let at : 0 + n ≡ n = omega arith in
        let number : line_number x.place x.offset ≡ n = fired_number now (0 + n) (Some f.timer) x f.is ∙ at in
        let settled : after_first (Some x) lines ≡ f.before ++ Some (settled_at_raw f.timer) ∷ f.behind =
        ap (λ k. set lines k (option_map settled_at_raw (get_or lines k None))) number
        ∙ ap (λ ls. set ls n (option_map settled_at_raw (get_or ls n None))) f.split
        ∙ ap (λ (t : Option Timer). set (f.before ++ Some f.timer ∷ f.behind) n (option_map settled_at_raw t)) (get_or_at f.before (Some f.timer) f.behind None n refl)
        ∙ set_at f.before (Some f.timer) f.behind (Some (settled_at_raw f.timer)) n refl in
        let others : due now 0 (after_first (Some x) lines) ≡ due now 0 f.before ++ due now (0 + n + 1) f.behind =
        ap (due now 0) settled ∙ due-append now 0 f.before (Some (settled_at_raw f.timer) ∷ f.behind) in
        ap (ordered comes_before) others
        ∙ sym (ap (λ ds. drop 1 (ordered comes_before ds)) (due_parted now 0 lines x f)
        ∙ ap (drop 1) (pulled x (due now 0 f.before) (due now (0 + n + 1) f.behind) f.earlier f.later))
