-- An actor that has begun the removals of two chips.
use Rattle.std.proofs.Common.{◌≡◌, ℕ, refl, ap, take, arith, true}
use Rattle.std.specs.Fmt.{digits}
use Rattle.gl_base.specs.Positions.{table_from}
use Rattle.gl_debounce.specs.Timer.{no_timers}
use Rattle.gl_uapi.specs.Fields.{number_at, number_bytes, stretch, stretches, zeros}
use Rattle.gl_watch.specs.Files.{no_lines}
use Rattle.gl_model.specs.declared.call.Call.{Call}
use Rattle.gl_model.specs.declared.call.Call.TheVariants.{Unplug}
use Rattle.gl_model.specs.Bits.{bits_where}
use Rattle.gl_model.specs.Machine.{IsLegal, world_of}
use Rattle.gl_model.specs.OneRemoval.{HasAtMostOneRemoval}
use Rattle.gl_model_runs.specs.Rows.Histories.{history}
use Rattle.gl_model_runs.specs.Rows.TwoRemovals.{run, given}
use Rattle.gl_model_runs.proofs.TwoActors.{none_is_some}
use Rattle.gl_model.specs.World.{World}

abbrev place_named : Call → ℕ
place_named (Unplug place last) = place
place_named _ = 0

module _ {K : Type 0} (stands_for : K → World → Type 0) where
  pub both_legal : IsLegal stands_for (history (take 4 run) given)
  unfolding history run given digits table_from no_timers number_at number_bytes stretch stretches zeros no_lines bits_where
  both_legal = (
    (refl, (omega arith, omega arith, refl), (refl, (omega arith, omega arith, refl), (refl, omega arith, (refl, omega arith, tt)))),
    (λ p e. absurd (none_is_some p e), λ p e. absurd (none_is_some p e), (λ p e. absurd (none_is_some p e), λ p e. absurd (none_is_some p e), (λ p e. absurd (none_is_some p e), λ p e. absurd (none_is_some p e), (λ p e. absurd (none_is_some p e), λ p e. absurd (none_is_some p e), tt)))),
  )

  pub not_one : HasAtMostOneRemoval stands_for 1 (world_of stands_for (history (take 4 run) given)) → ⊥
  unfolding history run given digits table_from no_timers number_at number_bytes stretch stretches zeros no_lines bits_where
  not_one one = let calls : Unplug 0 true ≡ Unplug 1 true = one 0 1 (refl, refl) (refl, refl) in let same : 0 ≡ 1 = ap place_named calls in omega (arith, same)
