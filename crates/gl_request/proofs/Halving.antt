-- Rows in the order of their numbers stay so, and the row of a number is found by halving.
use Rattle.std.proofs.Common.{ℕ, zero, suc, Bool, true, false, cond, eqb, ltb, ◌≡◌, ◌≢◌, ◌<◌, ◌≤◌, List, [], ◌∷◌, ◌++◌, length, get_or, Some, None, Ordering, Less, Equal, Greater, refl, ap, subst, ◌∙◌, inl, inr, arith}
use Rattle.std.specs.Prelude.{position}
use Rattle.std.specs.Cmp.{ranks}
use Rattle.std.specs.List.{position_or_len}
use Rattle.std.specs.Ordering.{MatchOrdering, nat_cmp, ordering_index}
use Rattle.std.specs.List.Sorted.{IsNonDecreasingBy, IsPartitionPoint}
use Rattle.std.proofs.lemmas.Bool.{cases_eq, cases_lt, eq-eqb, le-ltb, lt-ltb, ne_eqb}
use Rattle.std.proofs.lemmas.List.Sums.{position_or_len_is}
use Rattle.gl_base.specs.Rows.{Each, change_first, without_first}
use Rattle.gl_base.proofs.FirstRows.{Each-at, Each-without_first}
use Rattle.gl_request.specs.declared.row.RequestRow.{RequestRow}
use Rattle.gl_request.specs.Request.{AreRising, IsBelow, is_number}

-- a row with the same number is as much above others
each_changed : (fd : ℕ) (test : RequestRow → Bool) (f : RequestRow → RequestRow) (rows : List RequestRow) → ((row : RequestRow) → (f row).fd ≡ row.fd)
    → Each (λ other. fd < other.fd) rows → Each (λ other. fd < other.fd) (change_first test f rows)
each_changed fd test f [] same each = tt
each_changed fd test f (row ∷ rows) same each = by_test (test row) (each_changed fd test f rows same each.1)
  where
    by_test : (t : Bool) → Each (λ other. fd < other.fd) (change_first test f rows) → Each (λ other. fd < other.fd) (cond t (f row ∷ rows) (row ∷ change_first test f rows))
    by_test true rest = (omega (arith, each.0, same row), each.1)
    by_test false rest = (each.0, rest)

lower : (a b : ℕ) (rows : List RequestRow) → a ≡ b → Each (λ other. b < other.fd) rows → Each (λ other. a < other.fd) rows
lower a b [] same each = tt
lower a b (row ∷ rows) same each = (omega (arith, each.0), lower a b rows same each.1)

pub rising_changed : (test : RequestRow → Bool) (f : RequestRow → RequestRow) (rows : List RequestRow) → ((row : RequestRow) → (f row).fd ≡ row.fd)
    → AreRising rows → AreRising (change_first test f rows)
rising_changed test f [] same rising = tt
rising_changed test f (row ∷ rows) same rising = by_test (test row) (rising_changed test f rows same rising.1)
  where
    by_test : (t : Bool) → AreRising (change_first test f rows) → AreRising (cond t (f row ∷ rows) (row ∷ change_first test f rows))
    by_test true rest = (lower (f row).fd row.fd rows (same row) rising.0, rising.1)
    by_test false rest = (each_changed row.fd test f rows same rising.0, rest)

pub rising_without_first : (test : RequestRow → Bool) (rows : List RequestRow) → AreRising rows → AreRising (without_first test rows)
rising_without_first test [] rising = tt
rising_without_first test (row ∷ rows) rising = by_test (test row) (rising_without_first test rows rising.1)
  where
    by_test : (t : Bool) → AreRising (without_first test rows) → AreRising (cond t rows (row ∷ without_first test rows))
    by_test true rest = rising.1
    by_test false rest = (Each-without_first (λ other. row.fd < other.fd) test rows rising.0, rest)

each_pushed : (fd : ℕ) (rows : List RequestRow) (row : RequestRow) → Each (λ other. fd < other.fd) rows → fd < row.fd → Each (λ other. fd < other.fd) (rows ++ row ∷ [])
each_pushed fd [] row each less = (less, tt)
each_pushed fd (other ∷ rows) row each less = (each.0, each_pushed fd rows row each.1 less)

pub rising_pushed : (rows : List RequestRow) (row : RequestRow) → AreRising rows → Each (IsBelow row.fd) rows → AreRising (rows ++ row ∷ [])
rising_pushed [] row rising below = (tt, tt)
rising_pushed (other ∷ rows) row rising below = (each_pushed other.fd rows row rising.0 below.0, rising_pushed rows row rising.1 below.1)

-- of two rows the later has the higher number
rises : (rows : List RequestRow) (i j : ℕ) (d : RequestRow) → AreRising rows → i < j → j < length rows → (get_or rows i d).fd < (get_or rows j d).fd
rises [] i j d rising less within = absurd (omega arith)
rises (row ∷ rows) i zero d rising less within = absurd (omega arith)
rises (row ∷ rows) zero (suc j) d rising less within = Each-at (λ other. row.fd < other.fd) rows j d rising.0 (omega arith)
rises (row ∷ rows) (suc i) (suc j) d rising less within = rises rows i j d rising.1 (omega arith) (omega arith)

-- the row of a number stands where one of this number is
stands_at : (fd : ℕ) (rows : List RequestRow) (i : ℕ) (d : RequestRow) → AreRising rows → i < length rows → (get_or rows i d).fd ≡ fd → position (is_number fd) rows ≡ Some i
stands_at fd rows i d rising within is =
    let before : (k : ℕ) → k < i → eqb (get_or rows k d).fd fd ≡ false =
    λ k less. (let higher : (get_or rows k d).fd < (get_or rows i d).fd = rises rows k i d rising less within in ne_eqb (get_or rows k d).fd fd (λ e. omega arith)) in
    let at : position_or_len (is_number fd) rows ≡ i =
    position_or_len_is (is_number fd) rows i d (omega arith) before (λ _. eq-eqb (get_or rows i d).fd fd is) in
    ap (λ n. cond (ltb n (length rows)) (Some n) None) at ∙ ap (λ b. cond b (Some i) None) (lt-ltb i (length rows) within)

-- and nowhere, where none is
stands_nowhere : (fd : ℕ) (rows : List RequestRow) → ((k : ℕ) (d : RequestRow) → k < length rows → (get_or rows k d).fd ≢ fd) → position (is_number fd) rows ≡ None
stands_nowhere fd [] none = refl
stands_nowhere fd (row ∷ rows) none =
    let all : List RequestRow = row ∷ rows in
    let before : (k : ℕ) → k < length all → eqb (get_or all k row).fd fd ≡ false = λ k less. ne_eqb (get_or all k row).fd fd (none k row less) in
    let at : position_or_len (is_number fd) all ≡ length all =
    position_or_len_is (is_number fd) all (length all) row (omega arith) before (λ h. absurd (omega arith)) in
    ap (λ n. cond (ltb n (length all)) (Some n) None) at ∙ ap (λ b. cond b (Some (length all)) None) (le-ltb (length all) (length all) (omega arith))

-- how a number compares with another
equal_is : (x y : ℕ) → nat_cmp x y ≡ Equal → x ≡ y
equal_is x y e = subst (λ o. MatchOrdering o (x < y) (x ≡ y) (y < x)) e (ranks x y)

less_is : (x y : ℕ) → nat_cmp x y ≡ Less → x < y
less_is x y e = subst (λ o. MatchOrdering o (x < y) (x ≡ y) (y < x)) e (ranks x y)

greater_is : (x y : ℕ) → nat_cmp x y ≡ Greater → y < x
greater_is x y e = subst (λ o. MatchOrdering o (x < y) (x ≡ y) (y < x)) e (ranks x y)

higher_index : (x y z : ℕ) → x ≤ y → ordering_index (nat_cmp x z) ≤ ordering_index (nat_cmp y z)
higher_index x y z less = by_x (nat_cmp x z) refl (nat_cmp y z) refl
  where
    by_x : (o : Ordering) → nat_cmp x z ≡ o → (p : Ordering) → nat_cmp y z ≡ p → ordering_index o ≤ ordering_index p
    by_x Less e p f = omega arith
    by_x Equal e Less f = absurd (omega (arith, equal_is x z e, less_is y z f))
    by_x Equal e Equal f = omega arith
    by_x Equal e Greater f = omega arith
    by_x Greater e Less f = absurd (omega (arith, greater_is x z e, less_is y z f))
    by_x Greater e Equal f = absurd (omega (arith, greater_is x z e, equal_is y z f))
    by_x Greater e Greater f = omega arith

searchable : (fd : ℕ) (rows : List RequestRow) → AreRising rows → IsNonDecreasingBy (λ row. ordering_index (nat_cmp row.fd fd)) rows
searchable fd rows rising i j d less within = elim (cases_eq i j) [
  | inl same ↦
      (let is : (get_or rows i d).fd ≡ (get_or rows j d).fd = ap (λ k. (get_or rows k d).fd) same in
      higher_index (get_or rows i d).fd (get_or rows j d).fd fd (omega arith))
  | inr other ↦
      (let up : (get_or rows i d).fd < (get_or rows j d).fd = rises rows i j d rising (omega arith) within in
      higher_index (get_or rows i d).fd (get_or rows j d).fd fd (omega arith))
]

-- what a search by halving answers
pub halved_there : (fd : ℕ) (rows : List RequestRow) (i : ℕ) → AreRising rows → i < length rows → ((d : RequestRow) → nat_cmp (get_or rows i d).fd fd ≡ Equal)
    → position (is_number fd) rows ≡ Some i
halved_there fd [] i rising within found = absurd (omega arith)
halved_there fd (row ∷ rows) i rising within found =
    stands_at fd (row ∷ rows) i row rising within (equal_is (get_or (row ∷ rows) i row).fd fd (found row))

pub halved_nowhere : (fd : ℕ) (rows : List RequestRow) (i : ℕ) → AreRising rows → (IsNonDecreasingBy (λ row. ordering_index (nat_cmp row.fd fd)) rows → IsPartitionPoint (λ row. nat_cmp row.fd fd ≡ Less) (λ row. nat_cmp row.fd fd ≡ Greater) rows i)
    → position (is_number fd) rows ≡ None
halved_nowhere fd rows i rising found =
    let parts = found (searchable fd rows rising) in
    stands_nowhere fd rows (λ k d within. elim (cases_lt k i) [
      | inl before ↦ (λ e. omega (arith, less_is (get_or rows k d).fd fd (parts.0 k d (omega arith) before)))
      | inr behind ↦ (λ e. omega (arith, greater_is (get_or rows k d).fd fd (parts.1 k d behind within)))
    ])
