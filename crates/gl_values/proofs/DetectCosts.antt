-- What gpiodetect costs.
use Rattle.std.proofs.Common.{◌≤◌, ◌+◌, ◌-◌, ◌*◌, ℕ, suc, Bool, true, false, cond, ◌&&◌, not, List, [], ◌∷◌, length, Option, None, Some, arith}
use Rattle.gl_base.specs.declared.errno.Errno.{Errno}
use Rattle.gl_base.specs.Operation.{refusal, bytes_of}
use Rattle.gl_client.specs.Program.{Program, done, print}
use Rattle.gl_client.specs.Costs.{CostsAtMost}
use Rattle.gl_client.proofs.Costs.{costs_more}
use Rattle.gl_values.specs.declared.chip.Chip.{Chip}
use Rattle.gl_values.specs.Chips.{chip_told, is_absent, words_from}
use Rattle.gl_values.specs.Costs.{detect_cost}
use Rattle.gl_values.specs.Detect.{chips, opened, asked, told, closed, detects}

module _ (n : ℕ) (next : Program (Unit {0})) (later : CostsAtMost n next) (base : ℕ) where
  closed_within : (m : ℕ) → n ≤ m → (chip : Chip) (r : Option Errno) → CostsAtMost m (closed chip next r)
  closed_within m le chip (Some errno) = tt
  closed_within m le chip None = costs_more next n m le later

  told_within : (m : ℕ) → n ≤ m → (o : Option Chip) → CostsAtMost m (told base next o)
  told_within m le None = (omega arith, λ got. tt)
  told_within m le (Some chip) = (omega arith, λ got. closed_within (m - 0) (omega arith) chip (refusal got))

  asked_within : (m : ℕ) → n ≤ m → (r : Option Errno) (bytes : List ℕ) → CostsAtMost m (asked base next r bytes)
  asked_within m le (Some errno) bytes = (omega arith, λ got. tt)
  asked_within m le None bytes = told_within m le (chip_told bytes)

  passed_by : (m : ℕ) → n ≤ m → (b : Bool) (text : List ℕ) → CostsAtMost m (cond b next (print text (done tt)))
  passed_by m le true text = costs_more next n m le later
  passed_by m le false text = tt

  opened_within : (m : ℕ) → n + 1 ≤ m → (named : Bool) (r : Option Errno) → CostsAtMost m (opened base next named r)
  opened_within m le named (Some errno) = passed_by m (omega arith) (is_absent errno && not named) _
  opened_within m le named None = (omega arith, λ got. asked_within (m - 1) (omega arith) (refusal got) (bytes_of got))

chips_within : (base : ℕ) (named : Bool) (words : List (List ℕ)) → CostsAtMost (3 * length words) (chips base named words)
chips_within base named [] = tt
chips_within base named (word ∷ words) = (
  omega arith,
  λ got. opened_within (3 * length words) (chips base named words) (chips_within base named words) base (3 * suc (length words) - 2) (omega arith) named (refusal got),
)

pub detects_within : (base : ℕ) (words : List (List ℕ)) → CostsAtMost (detect_cost (length words)) (detects base words)
detects_within base [] = chips_within base false (words_from [] 0)
detects_within base (word ∷ words) = chips_within base true (word ∷ words)
