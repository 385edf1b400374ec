-- The banks of a device, as a walk over the rows meets them.
use Rattle.std.proofs.Common.{◌≡◌, ℕ, ◌+◌, ◌<◌, ◌&&◌, Bool, true, false, cond, List, ◌∷◌, length, get_or, drop, refl, ap, ◌∙◌}
use Rattle.std.proofs.lemmas.List.{drop_more}
use Rattle.std.specs.Str.{bytes_eq}
use Rattle.std.specs.List.{filter}
use Rattle.gl_simtree.specs.declared.row.TreeRow.{TreeRow}
use Rattle.gl_simtree.specs.declared.row.TreeRow.TheVariants.{Device as DeviceRow, Bank as BankRow, Line as LineRow, Hog as HogRow}
use Rattle.gl_simtree.specs.declared.node.Directory.TheVariants.{Device, Bank}
use Rattle.gl_simtree.specs.Rows.{is_row_of, is_row_in}

module _ {X : Type 0} where
  -- the row at i is one of those that are left
  pub filter-drop-in : (p : X → Bool) (xs : List X) (i : ℕ) (d : X) → i < length xs → p (get_or xs i d) ≡ true → filter p (drop i xs) ≡ get_or xs i d ∷ filter p (drop (i + 1) xs)
  filter-drop-in p xs i d lt e = ap (filter p) (drop_more xs i d lt) ∙ ap (λ b. cond b (get_or xs i d ∷ filter p (drop (i + 1) xs)) (filter p (drop (i + 1) xs))) e

  -- or it isn't
  pub filter-drop-out : (p : X → Bool) (xs : List X) (i : ℕ) (d : X) → i < length xs → p (get_or xs i d) ≡ false → filter p (drop i xs) ≡ filter p (drop (i + 1) xs)
  filter-drop-out p xs i d lt e = ap (filter p) (drop_more xs i d lt) ∙ ap (λ b. cond b (get_or xs i d ∷ filter p (drop (i + 1) xs)) (filter p (drop (i + 1) xs))) e

-- the row of a bank is in its device
pub bank_is_in : (device bank : List ℕ) (row : TreeRow) → is_row_of (Bank device bank) row ≡ true → is_row_in (Device device) row ≡ true
bank_is_in device bank (DeviceRow a b) e = cc
bank_is_in device bank (BankRow a b c d) e = first (bytes_eq device a) (bytes_eq bank b) e
  where
    first : (x y : Bool) → (x && y) ≡ true → x ≡ true
    first true y h = refl
    first false y h = h
bank_is_in device bank (LineRow a b c d) e = cc
bank_is_in device bank (HogRow a b c d f) e = cc
