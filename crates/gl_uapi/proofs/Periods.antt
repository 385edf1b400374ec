-- The search for an information's debounce period.
use Rattle.std.proofs.Common.{ℕ, suc, ◌≡◌, ◌+◌, ◌-◌, ◌<◌, List, ap, ◌∙◌, arith, cond}
use Rattle.std.proofs.lemmas.Bool.{ne_eqb}
use Rattle.gl_uapi.specs.Fields.{number_at}
use Rattle.gl_uapi.specs.LineInfo.{attribute_start, first_period}

-- an attribute that is no debounce period is passed over
pub first_period-more : (bytes : List ℕ) (i n : ℕ) → i < n → (number_at 4 (attribute_start i + 0) bytes ≡ 3 → ⊥)
    → first_period bytes i (n - i) ≡ first_period bytes (i + 1) (n - (i + 1))
first_period-more bytes i n below other =
    let left : n - i ≡ suc (n - (i + 1)) = omega arith in
    ap (first_period bytes i) left
    ∙ ap (λ test. cond test (number_at 4 (attribute_start i + 8) bytes) (first_period bytes (i + 1) (n - (i + 1))))
    (ne_eqb (number_at 4 (attribute_start i + 0) bytes) 3 other)
