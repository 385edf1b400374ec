-- What holds where the search for a row found one, and where it found none.
use Rattle.std.proofs.Common.{◌≡◌, Bool, true, false, cond, List, [], ◌∷◌, Option, Some, refl, ap}
use Rattle.std.specs.List.{find}
use Rattle.gl_base.specs.Rows.{change_first}
use Rattle.gl_base.proofs.FirstRows.{at_position, change_first-position, without_first-position, change_first-no_position, without_first-no_position, length-change_first, length-without_first-le}

pub ruleset found = (at_position, change_first-position, without_first-position, change_first-no_position, without_first-no_position, length-change_first, length-without_first-le)

-- a change of the row that was found puts another in its place
module _ {X : Type 0} where
  put_step : (f : X → X) (x y : X) (xs ys zs : List X) (b : Bool) (o : Option X) → cond b (Some x) o ≡ Some y → (o ≡ Some y → ys ≡ zs) → cond b (f x ∷ xs) (x ∷ ys) ≡ cond b (f y ∷ xs) (x ∷ zs)
  put_step f x y xs ys zs true o e h = let same : x ≡ y = cc in ap (λ z. f z ∷ xs) same
  put_step f x y xs ys zs false o e h = ap (λ rest. x ∷ rest) (h e)

  pub change_first-found : (test : X → Bool) (f : X → X) (xs : List X) (y : X) → find test xs ≡ Some y → change_first test f xs ≡ change_first test (λ _. f y) xs
  change_first-found test f [] y e = refl
  change_first-found test f (x ∷ xs) y e = put_step f x y xs (change_first test f xs) (change_first test (λ _. f y) xs) (test x) (find test xs) e (λ rest. change_first-found test f xs y rest)
