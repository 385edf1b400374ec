-- A ring holds the last of all that has come.
use Rattle.std.proofs.Common.{ℕ, ◌≡◌, ◌+◌, ◌-◌, ◌≤◌, List, [], ◌∷◌, ◌++◌, length, drop, min, max, ap, sym, ◌∙◌, arith, length-drop}
use Rattle.std.proofs.lemmas.List.{drop-append-le, drop-drop, length_push}
use Rattle.circular_buffer.specs.Buffer.{buffer, keep_last}
use Rattle.gl_ring.specs.Waiting.{Past, left, pushed, read_by, waiting, with_item}

pub pushed-waiting : {X : Type 0} (capacity : ℕ) (x : X) (past : Past X) → past.next ≤ length past.all
    → pushed x (buffer (waiting past) capacity) ≡ buffer (waiting (with_item capacity x past)) capacity
pushed-waiting {X} capacity x past within =
    let whole : List X = past.all ++ x ∷ [] in
    let behind : waiting past ++ x ∷ [] ≡ drop past.next whole = sym (drop-append-le past.next past.all (x ∷ []) within) in
    let long : length whole ≡ length past.all + 1 = length_push past.all x in
    let count : past.next + (length (drop past.next whole) - capacity) ≡ max past.next (length past.all + 1 - capacity) =
    omega (arith, long, length-drop past.next whole) in
    ap (λ (xs : List X). buffer (keep_last capacity xs) capacity) behind
    ∙ ap (λ (xs : List X). buffer xs capacity) (drop-drop (length (drop past.next whole) - capacity) past.next whole ∙ ap (λ n. drop n whole) count)

pub left-waiting : {X : Type 0} (capacity max : ℕ) (past : Past X) → left max (buffer (waiting past) capacity) ≡ buffer (waiting (read_by max past)) capacity
left-waiting {X} capacity max past = ap (λ (xs : List X). buffer xs capacity) (drop-drop (min max (length (waiting past))) past.next past.all)

pub next_within : {X : Type 0} (capacity : ℕ) (x : X) (past : Past X) → past.next ≤ length past.all
    → (with_item capacity x past).next ≤ length (with_item capacity x past).all
next_within capacity x past within = omega (arith, length_push past.all x)
