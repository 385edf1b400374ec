-- A test of the slot of the file that a client leaves open, if it leaves one. This project's choice.
use Rattle.std.specs.Prelude.{◌≡◌, ℕ, Bool, true, Option, None, Some}

-- the slot passes the test, where there is one
abbrev pub SlotPasses : (ℕ → Bool) → Option ℕ → Type 0
SlotPasses test None = Unit {0}
SlotPasses test (Some slot) = test slot ≡ true
