-- Rows that stand for something with a name: the first of a name is found and taken out.
use Rattle.std.proofs.Common.{◌≡◌, ℕ, Bool, true, false, cond, List, [], ◌∷◌, map, ◌++◌, suc, take, drop, get_or, Option, None, Some, refl, sym, ◌∙◌, ap}
use Rattle.std.specs.Prelude.{find, option_map}
use Rattle.std.specs.List.{position}
use Rattle.gl_base.specs.Rows.{without_first}
use Rattle.gl_base.proofs.FirstRows.{without_first-position, without_first-no_position, find-position, find-no_position}

module _ {Row Item : Type 0} (meaning : Row → Item) (test : Item → Bool) where
  abbrev passes : Row → Bool
  passes row = test (meaning row)

  without_if : (b : Bool) (x : Row) (xs ys : List Row) → map meaning (cond b xs (x ∷ ys)) ≡ cond b (map meaning xs) (meaning x ∷ map meaning ys)
  without_if true x xs ys = refl
  without_if false x xs ys = refl

  without_row : (rows : List Row) → map meaning (without_first passes rows) ≡ without_first test (map meaning rows)
  without_row [] = refl
  without_row (row ∷ rows) =
      without_if (passes row) row rows (without_first passes rows)
      ∙ ap (λ rest. cond (passes row) (map meaning rows) (meaning row ∷ rest)) (without_row rows)

  find_if : (b : Bool) (x : Row) (o : Option Row) → cond b (Some (meaning x)) (option_map meaning o) ≡ option_map meaning (cond b (Some x) o)
  find_if true x o = refl
  find_if false x o = refl

  find_row : (rows : List Row) → find test (map meaning rows) ≡ option_map meaning (find passes rows)
  find_row [] = refl
  find_row (row ∷ rows) = ap (λ rest. cond (passes row) (Some (meaning row)) rest) (find_row rows) ∙ find_if (passes row) row (find passes rows)

  pub row_removed : (rows new : List Row) (i : ℕ) (d : Row) → position passes rows ≡ Some i → new ≡ take i rows ++ drop (suc i) rows
      → map meaning new ≡ without_first test (map meaning rows)
  row_removed rows new i d e after = ap (map meaning) (after ∙ sym (without_first-position passes rows i d e)) ∙ without_row rows

  pub no_row_removed : (rows : List Row) → position passes rows ≡ None → map meaning rows ≡ without_first test (map meaning rows)
  no_row_removed rows e = ap (map meaning) (sym (without_first-no_position passes rows e)) ∙ without_row rows

  pub row_found : (rows : List Row) (i : ℕ) (d : Row) → position passes rows ≡ Some i → find test (map meaning rows) ≡ Some (meaning (get_or rows i d))
  row_found rows i d e = find_row rows ∙ ap (option_map meaning) (find-position passes rows i d e)

  pub no_row_found : (rows : List Row) → position passes rows ≡ None → find test (map meaning rows) ≡ None
  no_row_found rows e = find_row rows ∙ ap (option_map meaning) (find-no_position passes rows e)
