use Rattle.std.proofs.Common.{◌≡◌, ◌+◌, ℕ, suc, length, map}
use Rattle.gl_asking.specs.Rows.{row_file}
use Rattle.gl_served.specs.Slots.{first_free}
use Rattle.gl_served.proofs.slots.first_free.Given as goal

-- those before it are taken
abbrev pub invariant-loop-pair : goal.invariant-loop-pair
invariant-loop-pair l = (count : ℕ) → l.pair + count ≡ suc (length (map row_file l.rows)) → first_free (suc (length (map row_file l.rows))) 0 (map row_file l.rows) ≡ first_free count l.pair (map row_file l.rows)
