-- What the reads give are some of what came, in its order.
use Rattle.std.proofs.Common.{ℕ, zero, suc, ◌≡◌, ◌-◌, List, [], ◌∷◌, ◌++◌, length, take, drop, ap, refl, sym, subst, ◌∙◌, inl, inr, append_assoc}
use Rattle.std.proofs.lemmas.List.{take-append-drop}
use Rattle.circular_buffer.specs.Buffer.{Buffer}
use Rattle.gl_ring.specs.Run.{Turn, Came, Read, IsSubsequence, came, given}
use Rattle.gl_ring.specs.Waiting.{left, pushed, taken_count}

-- some of the rest are some of the whole
sub_of_rest : {X : Type 0} (xs ys zs : List X) (k : ℕ) → IsSubsequence xs (drop k ys ++ zs) → IsSubsequence xs (ys ++ zs)
sub_of_rest xs ys zs zero sub = sub
sub_of_rest xs [] zs (suc k) sub = sub
sub_of_rest [] (y ∷ ys) zs (suc k) sub = tt
sub_of_rest (x ∷ xs) (y ∷ ys) zs (suc k) sub = inr (sub_of_rest (x ∷ xs) ys zs k sub)

-- the same in front of both
sub_behind : {X : Type 0} (xs ys zs : List X) → IsSubsequence xs ys → IsSubsequence (zs ++ xs) (zs ++ ys)
sub_behind xs ys [] sub = sub
sub_behind xs ys (z ∷ zs) sub = inl (refl, sub_behind xs ys zs sub)

pub in_order : {X : Type 0} (ring : Buffer X) (turns : List (Turn X)) → IsSubsequence (given ring turns) (ring.items ++ came turns)
in_order ring [] = tt
in_order {X} ring (Came x ∷ turns) =
    let Sub : List X → Type 0 = λ ys. IsSubsequence (given (pushed x ring) turns) ys in
    subst Sub (append_assoc ring.items (x ∷ []) (came turns))
    (sub_of_rest (given (pushed x ring) turns) (ring.items ++ x ∷ []) (came turns) (length (ring.items ++ x ∷ []) - ring.capacity) (in_order (pushed x ring) turns))
in_order {X} ring (Read max ∷ turns) =
    let n : ℕ = taken_count max ring in
    let Sub : List X → Type 0 = λ ys. IsSubsequence (take n ring.items ++ given (left max ring) turns) ys in
    let whole : take n ring.items ++ (drop n ring.items ++ came turns) ≡ ring.items ++ came turns =
    sym (append_assoc (take n ring.items) (drop n ring.items) (came turns)) ∙ ap (λ xs. xs ++ came turns) (take-append-drop n ring.items) in
    subst Sub whole (sub_behind (given (left max ring) turns) (drop n ring.items ++ came turns) (take n ring.items) (in_order (left max ring) turns))
