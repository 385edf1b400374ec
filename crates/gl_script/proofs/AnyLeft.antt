-- Whether one of some rows passes a test, by those that are left.
use Rattle.std.proofs.Common.{◌≡◌, ℕ, ◌+◌, ◌<◌, ◌≤◌, Bool, true, false, ◌||◌, List, length, get_or, drop, map, sym, ap, ◌∙◌}
use Rattle.std.specs.List.{list_any}
use Rattle.std.proofs.lemmas.List.{at_drop_all, at_drop_more}

module _ {X Y : Type 0} (test : Y → Bool) (read : X → Y) (xs : List X) (i : ℕ) (all : Bool) (so : list_any test (map read (drop i xs)) ≡ all) where
  this_is : (x : X) (b : Bool) → i < length xs → x ≡ get_or xs i x → test (read x) ≡ b → (b || list_any test (map read (drop (i + 1) xs))) ≡ all
  this_is x b lt is passes =
      ap (λ (a : Bool). a || list_any test (map read (drop (i + 1) xs))) (sym passes ∙ ap (λ (y : X). test (read y)) is)
      ∙ sym (at_drop_more (λ (rows : List X). list_any test (map read rows)) xs i x lt) ∙ so

  -- the next one doesn't pass it
  pub any_later : (x : X) → i < length xs → x ≡ get_or xs i x → test (read x) ≡ false → list_any test (map read (drop (i + 1) xs)) ≡ all
  any_later x lt is fails = this_is x false lt is fails

  -- or it passes it
  pub any_here : (x : X) → i < length xs → x ≡ get_or xs i x → test (read x) ≡ true → true ≡ all
  any_here x lt is met = this_is x true lt is met

  -- none is left
  pub none_here : length xs ≤ i → false ≡ all
  none_here past = sym (at_drop_all (λ (rows : List X). list_any test (map read rows)) xs i past) ∙ so
