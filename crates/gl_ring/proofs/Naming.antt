-- The items that are read are those with the numbers that are read.
use Rattle.std.proofs.Common.{ℕ, ◌≡◌, ◌+◌, ◌-◌, List, [], ◌∷◌, ◌++◌, length, take, drop, map, min, get_or, ap, refl, sym, ◌∙◌, arith, append_assoc}
use Rattle.std.proofs.lemmas.List.{drop-map, get_or_at, length-map, length_push, map_push, map-append, take-map}
use Rattle.circular_buffer.specs.Buffer.{Buffer, buffer, keep_last}
use Rattle.gl_ring.specs.Run.{Turn, Came, Read, came, given, numbered}
use Rattle.gl_ring.specs.Waiting.{left, pushed, taken}

module _ {X : Type 0} (f : ℕ → X) where
  -- f names what comes, counted on from n
  pub Names : ℕ → List (Turn X) → Type 0
  Names n [] = Unit {0}
  Names n (Came x ∷ turns) = (f (n + 1) ≡ x) × Names (n + 1) turns
  Names n (Read max ∷ turns) = Names n turns

  pushed_named : (numbers : List ℕ) (capacity number : ℕ) → pushed (f number) (buffer (map f numbers) capacity) ≡ buffer (map f (pushed number (buffer numbers capacity)).items) capacity
  pushed_named numbers capacity number =
      let whole : map f numbers ++ f number ∷ [] ≡ map f (numbers ++ number ∷ []) = sym (map_push f numbers number) in
      ap (λ (xs : List X). buffer (keep_last capacity xs) capacity) whole
      ∙ ap (λ (n : ℕ). buffer (drop (n - capacity) (map f (numbers ++ number ∷ []))) capacity) (length-map (numbers ++ number ∷ []) f)
      ∙ ap (λ (xs : List X). buffer xs capacity) (drop-map f (length (numbers ++ number ∷ []) - capacity) (numbers ++ number ∷ []))

  pub read_named : (numbers : List ℕ) (capacity n : ℕ) (turns : List (Turn X)) → Names n turns
      → given (buffer (map f numbers) capacity) turns ≡ map f (given (buffer numbers capacity) (numbered n turns))
  unfolding Names
  read_named numbers capacity n [] names = refl
  read_named numbers capacity n (Came x ∷ turns) names =
      ap (λ (y : X). given (pushed y (buffer (map f numbers) capacity)) turns) (sym names.0)
      ∙ ap (λ (ring : Buffer X). given ring turns) (pushed_named numbers capacity (n + 1))
      ∙ read_named (pushed (n + 1) (buffer numbers capacity)).items capacity (n + 1) turns names.1
  read_named numbers capacity n (Read max ∷ turns) names =
      let count : min max (length (map f numbers)) ≡ min max (length numbers) = ap (min max) (length-map numbers f) in
      let k : ℕ = min max (length numbers) in
      let first : taken max (buffer (map f numbers) capacity) ≡ map f (take k numbers) =
      ap (λ (m : ℕ). take m (map f numbers)) count ∙ take-map f k numbers in
      let rest : left max (buffer (map f numbers) capacity) ≡ buffer (map f (drop k numbers)) capacity =
      ap (λ (m : ℕ). buffer (drop m (map f numbers)) capacity) count ∙ ap (λ (xs : List X). buffer xs capacity) (drop-map f k numbers) in
      ap (λ (xs : List X). xs ++ given (left max (buffer (map f numbers) capacity)) turns) first
      ∙ ap (λ (ring : Buffer X). map f (take k numbers) ++ given ring turns) rest
      ∙ ap (λ (xs : List X). map f (take k numbers) ++ xs) (read_named (drop k numbers) capacity n turns names)
      ∙ sym (map-append f (take k numbers) (given (buffer (drop k numbers) capacity) (numbered n turns)))

module _ {X : Type 0} (d : X) (all : List X) where
  -- the list of all items names them
  named_by_all : (front : List X) (n : ℕ) (turns : List (Turn X)) → length front ≡ n → all ≡ front ++ came turns → Names (λ k. get_or all (k - 1) d) n turns
  unfolding Names
  named_by_all front n [] long whole = tt
  named_by_all front n (Came x ∷ turns) long whole =
      let place : n + 1 - 1 ≡ n = omega arith in (
        ap (λ k. get_or all k d) place ∙ ap (λ xs. get_or xs n d) whole ∙ get_or_at front x (came turns) d n long,
        named_by_all (front ++ x ∷ []) (n + 1) turns (length_push front x ∙ ap (λ k. k + 1) long) (whole ∙ sym (append_assoc front (x ∷ []) (came turns))),
      )
  named_by_all front n (Read max ∷ turns) long whole = named_by_all front n turns long whole

pub numbers_name : {X : Type 0} (capacity : ℕ) (turns : List (Turn X)) (d : X)
    → given (buffer [] capacity) turns ≡ map (λ k. get_or (came turns) (k - 1) d) (given (buffer [] capacity) (numbered 0 turns))
numbers_name capacity turns d =
    read_named (λ k. get_or (came turns) (k - 1) d) [] capacity 0 turns (named_by_all d (came turns) [] 0 turns refl refl)
