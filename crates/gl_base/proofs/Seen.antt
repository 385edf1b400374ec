-- The first row that passes a test, seen through a function on rows.
use Rattle.std.proofs.Common.{◌≡◌, Bool, true, false, cond, List, [], ◌∷◌, map, Option, Some, refl, sym, ap, ◌∙◌}
use Rattle.std.specs.List.{find}
use Rattle.std.specs.Option.{option_map}
use Rattle.gl_base.specs.Rows.{change_first, without_first}

module _ {X Y : Type 0} where
  pub find-map : (g : X → Y) (test : X → Bool) (test' : Y → Bool) → ((x : X) → test' (g x) ≡ test x) → (xs : List X) → find test' (map g xs) ≡ option_map g (find test xs)
  find-map g test test' same [] = refl
  find-map g test test' same (x ∷ xs) =
      ap (λ b. cond b (Some (g x)) (find test' (map g xs))) (same x)
      ∙ elim (test x) as (λ b. cond b (Some (g x)) (find test' (map g xs)) ≡ option_map g (cond b (Some x) (find test xs))) [ true ↦ refl | false ↦ find-map g test test' same xs ]

  map_step : (b : Bool) (g : X → Y) (x fx : X) (y : Y) (xs cs : List X) (ds : List Y) (o : Option X) → (cond b (Some x) o ≡ Some x → g fx ≡ y) → (b ≡ false → map g cs ≡ ds) → map g (cond b (fx ∷ xs) (x ∷ cs)) ≡ cond b (y ∷ map g xs) (g x ∷ ds)
  map_step true g x fx y xs cs ds o here later = ap (λ z. z ∷ map g xs) (here refl)
  map_step false g x fx y xs cs ds o here later = ap (λ ys. g x ∷ ys) (later refl)

  -- the first row that passes is changed, and so is what is seen of it
  pub map-change_first : (g : X → Y) (test : X → Bool) (test' : Y → Bool) (f : X → X) (f' : Y → Y) → ((x : X) → test' (g x) ≡ test x) → (xs : List X) → ((x : X) → find test xs ≡ Some x → g (f x) ≡ f' (g x)) → map g (change_first test f xs) ≡ change_first test' f' (map g xs)
  map-change_first g test test' f f' same [] h = refl
  map-change_first g test test' f f' same (x ∷ xs) h =
      map_step (test x) g x (f x) (f' (g x)) xs (change_first test f xs) (change_first test' f' (map g xs)) (find test xs) (h x)
      (λ e. map-change_first g test test' f f' same xs (λ z q. h z (ap (λ b. cond b (Some x) (find test xs)) e ∙ q)))
      ∙ ap (λ b. cond b (f' (g x) ∷ map g xs) (g x ∷ change_first test' f' (map g xs))) (sym (same x))

  -- and so it is taken out
  pub map-without_first : (g : X → Y) (test : X → Bool) (test' : Y → Bool) → ((x : X) → test' (g x) ≡ test x) → (xs : List X) → map g (without_first test xs) ≡ without_first test' (map g xs)
  map-without_first g test test' same [] = refl
  map-without_first g test test' same (x ∷ xs) =
      elim (test x) as (λ b. map g (cond b xs (x ∷ without_first test xs)) ≡ cond b (map g xs) (g x ∷ map g (without_first test xs))) [ true ↦ refl | false ↦ refl ]
      ∙ ap (λ b. cond b (map g xs) (g x ∷ map g (without_first test xs))) (sym (same x))
      ∙ ap (λ ys. cond (test' (g x)) (map g xs) (g x ∷ ys)) (map-without_first g test test' same xs)
