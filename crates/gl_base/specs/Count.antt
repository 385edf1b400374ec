-- Counts that only rise. This project's choice: such a count is kept in a `u64` and stands still at the type's end.
use Rattle.std.specs.Prelude.{ℕ, ◌+◌, ◌-◌, ◌^◌, ◌≤◌, min}

-- the count after one more
abbrev pub counted_up : ℕ → ℕ
counted_up count = min (count + 1) (2 ^ 64 - 1)

-- at least one more was counted from old to new
abbrev pub Rises : ℕ → ℕ → Type 0
Rises old new = counted_up old ≤ new
