-- The rows of a bank's lines, as a walk from the last row to the first finds them.
use Rattle.std.proofs.Common.{◌≡◌, ◌≢◌, ℕ, zero, suc, ◌+◌, ◌<◌, ◌≤◌, ◌&&◌, Bool, true, false, cond, List, [], ◌∷◌, Option, Some, None, length, drop, get_or, replicate, refl, sym, ap, ◌∙◌, subst, arith, inl, inr}
use Rattle.std.specs.Prelude.{◌==◌, if◌then◌else◌, slice_get, slice_index_or, slice_set}
use Rattle.std.specs.List.{find}
use Rattle.std.specs.Str.{bytes_eq}
use Rattle.std.proofs.lemmas.Bool.{cases_eq}
use Rattle.std.proofs.lemmas.List.{drop_more, drop_all, get_or-set_other, get_or-set_same}
use Rattle.gl_base.specs.declared.limits.TheConstants.{LINES_MAX}
use Rattle.gl_simtree.specs.declared.node.Directory.{Directory}
use Rattle.gl_simtree.specs.declared.node.Directory.TheVariants.{Line, Hog}
use Rattle.gl_simtree.specs.declared.row.TreeRow.{TreeRow}
use Rattle.gl_simtree.specs.declared.row.TreeRow.TheVariants.{Device as DeviceRow, Bank as BankRow, Line as LineRow, Hog as HogRow}
use Rattle.gl_simtree.specs.BankRows.{AreFound, hog_in, line_in, row_found, with_row}
use Rattle.gl_simtree.specs.Rows.{is_row_of}

-- a line that may not be there is this one
abbrev pub is_line : ℕ → Option ℕ → Bool
is_line line None = false
is_line line (Some other) = line == other

of_bank : (a b : Bool) (line other : ℕ) → (a && b && line == other) ≡ is_line line (if a && b then Some other else None)
of_bank true true line other = refl
of_bank true false line other = refl
of_bank false true line other = refl
of_bank false false line other = refl

pub is_of_line : (device bank : List ℕ) (line : ℕ) (row : TreeRow) → is_row_of (Line device bank line) row ≡ is_line line (line_in device bank row)
is_of_line device bank line (DeviceRow a b) = refl
is_of_line device bank line (BankRow a b c d) = refl
is_of_line device bank line (LineRow a b c d) = of_bank (bytes_eq device a) (bytes_eq bank b) line c
is_of_line device bank line (HogRow a b c d e) = refl

pub is_of_hog : (device bank : List ℕ) (line : ℕ) (row : TreeRow) → is_row_of (Hog device bank line) row ≡ is_line line (hog_in device bank row)
is_of_hog device bank line (DeviceRow a b) = refl
is_of_hog device bank line (BankRow a b c d) = refl
is_of_hog device bank line (LineRow a b c d) = refl
is_of_hog device bank line (HogRow a b c d e) = of_bank (bytes_eq device a) (bytes_eq bank b) line c

same_number : (n m : ℕ) → n ≡ m → (n == m) ≡ true
same_number n m same = grind (arith)

other_number : (n m : ℕ) → n ≢ m → (n == m) ≡ false
other_number n m ne = grind (arith)

get_within : (rows : List TreeRow) (at : ℕ) (d : TreeRow) → at < length rows → slice_get rows at ≡ Some (get_or rows at d)
get_within [] at d lt = absurd (Prim.omega arith)
get_within (row ∷ rows) zero d lt = refl
get_within (row ∷ rows) (suc at) d lt = get_within rows at d (Prim.omega arith)

-- a line past the last has no row
pub set_past : (xs : List (Option ℕ)) (i : ℕ) (x : Option ℕ) → length xs ≤ i → xs ≡ slice_set xs i x
set_past [] i x past = refl
set_past (y ∷ ys) zero x past = absurd (Prim.omega arith)
set_past (y ∷ ys) (suc i) x past = ap (λ l. y ∷ l) (set_past ys i x (Prim.omega arith))

-- one row more in front of the others
one_more : (rows rest : List TreeRow) (row : TreeRow) (at line : ℕ) (test : TreeRow → Bool) (key : Option ℕ) (found : List (Option ℕ))
    → slice_get rows at ≡ Some row → test row ≡ is_line line key → length found ≡ LINES_MAX → line < LINES_MAX
    → row_found rows (slice_index_or found line None) ≡ find test rest
    → row_found rows (slice_index_or (with_row key at found) line None) ≡ find test (row ∷ rest)
one_more rows rest row at line test None found here is size lt before = before ∙ sym (ap (λ b. cond b (Some row) (find test rest)) is)
one_more rows rest row at line test (Some other) found here is size lt before =
    elim (cases_eq line other) as (λ _. row_found rows (slice_index_or (with_row (Some other) at found) line None) ≡ find test (row ∷ rest)) [
      | inl same ↦
          let fits : other < length found = Prim.omega arith in
          let kept : slice_index_or (slice_set found other (Some at)) line None ≡ Some at =
          subst (λ (q : ℕ). slice_index_or (slice_set found other (Some at)) q None ≡ Some at) (sym same) (get_or-set_same found other (Some at) None fits) in
          ap (row_found rows) kept ∙ here ∙ sym (ap (λ b. cond b (Some row) (find test rest)) (is ∙ same_number line other same))
      | inr ne ↦
          ap (row_found rows) (get_or-set_other found other line (Some at) None ne) ∙ before
          ∙ sym (ap (λ b. cond b (Some row) (find test rest)) (is ∙ other_number line other ne))
    ]

pub found_more : (directory : ℕ → Directory) (rows : List TreeRow) (at next : ℕ) (row : TreeRow) (key : Option ℕ) (found : List (Option ℕ))
    → at < length rows → next ≡ at + 1 → row ≡ get_or rows at row
    → ((line : ℕ) → is_row_of (directory line) row ≡ is_line line key) → length found ≡ LINES_MAX
    → AreFound directory rows (drop next rows) found → AreFound directory rows (drop at rows) (with_row key at found)
found_more directory rows at next row key found lt behind is of size before line fits =
    let split : drop at rows ≡ row ∷ drop next rows =
    drop_more rows at row lt ∙ ap (λ (r : TreeRow). r ∷ drop (at + 1) rows) (sym is) ∙ ap (λ (n : ℕ). row ∷ drop n rows) (sym behind) in
    let here : slice_get rows at ≡ Some row = get_within rows at row lt ∙ ap (λ (r : TreeRow). Some r) (sym is) in
    one_more rows (drop next rows) row at line (is_row_of (directory line)) key found here (of line) size fits (before line fits)
    ∙ sym (ap (find (is_row_of (directory line))) split)

none_at : (m p : ℕ) → slice_index_or {A = Option ℕ} (replicate m None) p None ≡ None
none_at zero p = refl
none_at (suc m) zero = refl
none_at (suc m) (suc p) = none_at m p

-- no row was found yet
pub found_none : (directory : ℕ → Directory) (rows : List TreeRow) (n : ℕ) → n ≡ length rows → AreFound directory rows (drop n rows) (replicate LINES_MAX None)
found_none directory rows n past line fits = ap (row_found rows) (none_at LINES_MAX line) ∙ sym (ap (find (is_row_of (directory line))) (drop_all n rows (Prim.omega arith)))
