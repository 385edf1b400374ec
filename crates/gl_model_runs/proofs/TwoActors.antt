-- Two actors, one of whom removes the chip that the other has open: both orders of their calls are legal, and none with a
-- call behind the chip's end.
use Rattle.std.proofs.Common.{◌≡◌, ℕ, refl, subst, take, Some, None, Option, arith}
use Rattle.std.specs.Fmt.{digits}
use Rattle.gl_base.specs.Positions.{table_from}
use Rattle.gl_debounce.specs.Timer.{no_timers}
use Rattle.gl_uapi.specs.Fields.{number_at, number_bytes, stretch, stretches, zeros}
use Rattle.gl_watch.specs.Files.{no_lines}
use Rattle.gl_model.specs.Bits.{bits_where}
use Rattle.gl_model.specs.Machine.{IsLegal}
use Rattle.gl_model_runs.specs.Rows.Histories.{history}
use Rattle.gl_model_runs.specs.Rows.CallBehindGone.{run as run_gone, given as given_gone}
use Rattle.gl_model_runs.specs.Rows.TwoActorsBefore.{run as run_before, given as given_before}
use Rattle.gl_model_runs.specs.Rows.TwoActorsBehind.{run as run_behind, given as given_behind}
use Rattle.gl_model.specs.World.{World}

-- no place is none
pub none_is_some : (p : ℕ) → (let none : Option ℕ = None in none ≡ Some p) → ⊥
none_is_some p e = cc

-- what holds of a place holds of each that a call names
pub at_place : (P : ℕ → Type 0) (place : ℕ) → P place → (p : ℕ) → Some place ≡ Some p → P p
at_place P place h p e = let same : place ≡ p = cc in subst P same h

module _ {K : Type 0} (stands_for : K → World → Type 0) where
  pub legal_before : IsLegal stands_for (history run_before given_before)
  unfolding history run_before given_before digits table_from no_timers number_at number_bytes stretch stretches zeros no_lines bits_where
  legal_before = (
    (refl, (omega arith, omega arith, refl), (refl, tt, (refl, omega arith, (refl, (omega arith, record { whole = refl; zeros = refl }), (refl, tt, (refl, omega arith, tt)))))),
    (λ p e. absurd (none_is_some p e), λ p e. absurd (none_is_some p e), (λ p e. absurd (none_is_some p e), λ p e. absurd (none_is_some p e), (λ p e. absurd (none_is_some p e), λ p e. absurd (none_is_some p e), (at_place _ 0 (omega arith), λ p e. absurd (none_is_some p e), (λ p e. absurd (none_is_some p e), λ p e. absurd (none_is_some p e), (λ p e. absurd (none_is_some p e), λ p e. absurd (none_is_some p e), tt)))))),
  )

  pub legal_behind : IsLegal stands_for (history run_behind given_behind)
  unfolding history run_behind given_behind digits table_from no_timers number_at number_bytes stretch stretches zeros no_lines bits_where
  legal_behind = (
    (refl, (omega arith, omega arith, refl), (refl, tt, (refl, omega arith, (refl, omega arith, (refl, tt, (refl, omega arith, tt)))))),
    (λ p e. absurd (none_is_some p e), λ p e. absurd (none_is_some p e), (λ p e. absurd (none_is_some p e), λ p e. absurd (none_is_some p e), (λ p e. absurd (none_is_some p e), λ p e. absurd (none_is_some p e), (λ p e. absurd (none_is_some p e), at_place _ 0 (omega arith), (λ p e. absurd (none_is_some p e), λ p e. absurd (none_is_some p e), (λ p e. absurd (none_is_some p e), λ p e. absurd (none_is_some p e), tt)))))),
  )

  pub legal_until_gone : IsLegal stands_for (history (take 4 run_gone) given_gone)
  unfolding history run_gone given_gone digits table_from no_timers number_at number_bytes stretch stretches zeros no_lines bits_where
  legal_until_gone = (
    (refl, (omega arith, omega arith, refl), (refl, tt, (refl, omega arith, (refl, omega arith, tt)))),
    (λ p e. absurd (none_is_some p e), λ p e. absurd (none_is_some p e), (λ p e. absurd (none_is_some p e), λ p e. absurd (none_is_some p e), (λ p e. absurd (none_is_some p e), λ p e. absurd (none_is_some p e), (λ p e. absurd (none_is_some p e), λ p e. absurd (none_is_some p e), tt)))),
  )

  pub illegal_behind_gone : IsLegal stands_for (history run_gone given_gone) → ⊥
  unfolding history run_gone given_gone digits table_from no_timers number_at number_bytes stretch stretches zeros no_lines bits_where
  illegal_behind_gone legal = omega (arith, legal.1.2.2.2.2.0 0 refl)
