-- A ring over a whole run of pushes and reads.
use Rattle.std.specs.Prelude.{ℕ, ◌≡◌, ◌+◌, ◌≤◌, ◌==◌, ◌⊎◌, Bool, false, List, [], ◌∷◌, ◌++◌, length}
use Rattle.std.specs.List.{list_any}
use Rattle.circular_buffer.specs.Buffer.{Buffer, buffer}
use Rattle.gl_ring.specs.Waiting.{left, pushed, taken}

-- what happens to a ring: an edge comes, or a read with room for so many items
pub data Turn (X : Type 0) : Type 0 where
  Came : X → Turn X
  Read : ℕ → Turn X

module _ {X : Type 0} where
  -- the ring after these turns
  abbrev pub after : Buffer X → List (Turn X) → Buffer X
  after ring [] = ring
  after ring (Came x ∷ turns) = after (pushed x ring) turns
  after ring (Read max ∷ turns) = after (left max ring) turns

  -- what the reads gave, joined in order
  abbrev pub given : Buffer X → List (Turn X) → List X
  given ring [] = []
  given ring (Came x ∷ turns) = given (pushed x ring) turns
  given ring (Read max ∷ turns) = taken max ring ++ given (left max ring) turns

  -- the items that came, in order
  abbrev pub came : List (Turn X) → List X
  came [] = []
  came (Came x ∷ turns) = x ∷ came turns
  came (Read max ∷ turns) = came turns

  -- the same turns with the items' numbers, counted on from n, in place of the items
  abbrev pub numbered : ℕ → List (Turn X) → List (Turn ℕ)
  numbered n [] = []
  numbered n (Came x ∷ turns) = Came (n + 1) ∷ numbered (n + 1) turns
  numbered n (Read max ∷ turns) = Read max ∷ numbered n turns

  -- xs are some of ys, in their order
  abbrev pub IsSubsequence : List X → List X → Type 0
  IsSubsequence [] ys = Unit {0}
  IsSubsequence (x ∷ xs) [] = ⊥
  IsSubsequence (x ∷ xs) (y ∷ ys) = ((x ≡ y) × IsSubsequence xs ys) ⊎ IsSubsequence (x ∷ xs) ys

-- the numbers that were read of these turns, from an empty ring of this capacity
abbrev pub numbers_read : {X : Type 0} → ℕ → List (Turn X) → List ℕ
numbers_read capacity turns = given (buffer [] capacity) (numbered 0 turns)

-- the numbers that wait
abbrev pub numbers_waiting : {X : Type 0} → ℕ → List (Turn X) → List ℕ
numbers_waiting capacity turns = (after (buffer [] capacity) (numbered 0 turns)).items

-- whether a number is among these
abbrev pub is_among : ℕ → List ℕ → Bool
is_among k numbers = list_any (λ n. n == k) numbers

-- The item with number k, counted from 1, is missing: it is neither read nor waiting.
pub record IsMissing {X : Type 0} (capacity : ℕ) (turns : List (Turn X)) (k : ℕ) : Type 0 where
  pub unread : is_among k (numbers_read capacity turns) ≡ false
  pub gone : is_among k (numbers_waiting capacity turns) ≡ false

-- At some moment the item with the number k + capacity had come, and that with the number k wasn't read.
pub record WasOvertaken {X : Type 0} (capacity : ℕ) (turns : List (Turn X)) (k : ℕ) : Type 0 where
  pub before : List (Turn X)
  pub behind : List (Turn X)
  pub moment : turns ≡ before ++ behind
  pub came_since : k + capacity ≤ length (came before)
  pub unread : is_among k (numbers_read capacity before) ≡ false
