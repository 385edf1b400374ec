-- How much an actor had seen where its driver went by a map: turns one after another, and as the history grows.
use Rattle.std.proofs.Common.{◌≡◌, ◌<◌, ◌≤◌, ℕ, Bool, true, false, List, [], ◌∷◌, ◌++◌, length, length-append, ap, arith}
use Rattle.gl_world.specs.History.{StartsWith}
use Rattle.gl_core.specs.Device.{OneEntry}
use Rattle.gl_check.specs.Turns.{AreSeen, Did, Exchange, Said, Turn, WhereMapped}

pub where_mapped : (b : Bool) (room n : ℕ) (e : Exchange) → e.room ≡ room → e.seen < n → WhereMapped b room n e
where_mapped true room n e is less = (is, less)
where_mapped false room n e is less = tt

mapped_more : (b : Bool) (room n m : ℕ) (e : Exchange) → n ≤ m → WhereMapped b room n e → WhereMapped b room m e
mapped_more true room n m e more (is, less) = (is, omega arith)
mapped_more false room n m e more h = tt

-- a longer history
pub seen_more : (room n m : ℕ) (turns : List Turn) → n ≤ m → AreSeen room n turns → AreSeen room m turns
seen_more room n m [] more h = tt
seen_more room n m (Said text ∷ turns) more h = seen_more room n m turns more h
seen_more room n m (Did e ∷ turns) more h = (mapped_more e.mapped room n m e more h.0, seen_more room n m turns more h.1)

pub seen_append : (room n : ℕ) (first later : List Turn) → AreSeen room n first → AreSeen room n later → AreSeen room n (first ++ later)
seen_append room n [] later h k = k
seen_append room n (Said text ∷ first) later h k = seen_append room n first later h k
seen_append room n (Did e ∷ first) later h k = (h.0, seen_append room n first later h.1 k)

pub no_shorter : (whole seen : List OneEntry) → StartsWith whole seen → length seen ≤ length whole
no_shorter whole seen h = let l = length-append seen h.0 in let e : length whole ≡ length (seen ++ h.0) = ap (λ (es : List OneEntry). length es) h.1 in omega arith
