-- What stands in a buffer after a structure.
use Rattle.std.proofs.Common.{◌≡◌, ℕ, List, ◌++◌, drop, replicate, ap, ◌∙◌, append-nil}
use Rattle.std.proofs.lemmas.List.{drop-replicate}

pub behind_values : (front : List ℕ) → front ++ drop 16 (replicate 592 0) ≡ front ++ replicate 576 0
behind_values front = ap (λ rest. front ++ rest) (drop-replicate 16 592 0)

pub behind_info : (front : List ℕ) → front ++ drop 256 (replicate 592 0) ≡ front ++ replicate 336 0
behind_info front = ap (λ rest. front ++ rest) (drop-replicate 256 592 0)

pub behind_request : (front : List ℕ) → front ++ drop 592 (replicate 592 0) ≡ front
behind_request front = ap (λ rest. front ++ rest) (drop-replicate 592 592 0) ∙ append-nil front
