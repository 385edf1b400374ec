-- Events one after the other.
use Rattle.std.proofs.Common.{◌≡◌, ◌+◌, ◌-◌, ◌<◌, suc, List, ℕ, ap, sym, ◌∙◌, arith}
use Rattle.gl_v1.specs.Back.{event_back, events_from}

-- once one more was written, what is left comes to the same
pub event_more : (i count : ℕ) (got bytes more : List ℕ) → i < count → more ≡ event_back i got bytes
    → events_from (i + 1) (count - (i + 1)) got more ≡ events_from i (count - i) got bytes
event_more i count got bytes more below is =
    let left : count - i ≡ suc (count - (i + 1)) = omega arith in
    ap (events_from (i + 1) (count - (i + 1)) got) is ∙ sym (ap (λ n. events_from i n got bytes) left)
