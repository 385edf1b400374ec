-- The laws of the house.
use Rattle.std.specs.Prelude.{◌==◌, cond, Contains}
use Rattle.std.proofs.Common.{◌≡◌, ℕ, ◌<◌, ◌≤◌, true, false, Option, Some, None, [], ◌∷◌, refl, sym, ap, subst, arith, zero, suc, eq-eqb}
use Rattle.std.proofs.lemmas.Bool.{true≢false}
use Rattle.std.proofs.lemmas.Bool.Decides.{nat_tests}
use Rattle.gl_base.specs.declared.phase.Phase.{Phase}
use Rattle.gl_base.specs.declared.phase.Phase.TheVariants.{Absent, Up, Leaving, Gone}
use Rattle.gl_world.specs.Ranks.{rank}
use Rattle.gl_gate_tests.specs.declared.errand.Errand.{Errand}
use Rattle.gl_gate_tests.specs.declared.errand.Errand.TheVariants.{Work, Remove, Finish, TurnedAway}
use Rattle.gl_gate_tests.specs.declared.errand.Answer.{Answer}
use Rattle.gl_gate_tests.specs.House.{after, answer, may_finish, is_begin, is_finish, first_places, phase_at}
use Rattle.gl_gate_tests.specs.AdderLaws.{no_member}

pub never_both : (call : Errand) (r : Answer) → is_finish call ≡ true → is_begin call r ≡ false
never_both Work r e = refl
never_both Remove r e = absurd (true≢false (sym e))
never_both Finish r e = refl
never_both TurnedAway r e = refl

pub low : (p : ℕ) → rank (phase_at (Up, 0) p) < 2
low zero = omega arith
low (suc p) = omega arith

-- what a finish needs
may_finish_is : (p : Phase) (r a : ℕ) → may_finish (p, r) a ≡ true → (p ≡ Leaving) × (r ≡ a)
may_finish_is Absent r a e = absurd (true≢false (sym e))
may_finish_is Up r a e = absurd (true≢false (sym e))
may_finish_is Leaving r a e = (refl, grind (arith, nat_tests))
may_finish_is Gone r a e = absurd (true≢false (sym e))

pub forward : (w : Phase × ℕ) (a : ℕ) (c : Errand) (p : ℕ) → rank (phase_at w p) ≤ rank (phase_at (after w a c) p)
forward w a c (suc p) = omega arith
forward w a Work zero = omega arith
forward w a TurnedAway zero = omega arith
forward (Absent, r) a Remove zero = omega arith
forward (Up, r) a Remove zero = omega arith
forward (Leaving, r) a Remove zero = omega arith
forward (Gone, r) a Remove zero = omega arith
forward (Absent, r) a Finish zero = omega arith
forward (Up, r) a Finish zero = omega arith
forward (Leaving, r) a Finish zero = elim (r == a) as (λ b. 2 ≤ rank (phase_at (cond b (Gone, r) (Leaving, r)) 0)) [ true ↦ omega arith | false ↦ omega arith ]
forward (Gone, r) a Finish zero = omega arith

pub ends_it : (w : Phase × ℕ) (a : ℕ) (c : Errand) (p : ℕ) → rank (phase_at w p) < 3 → rank (phase_at (after w a c) p) ≡ 3 → (rank (phase_at w p) ≡ 2) × (is_finish c ≡ true) × (Some w.1 ≡ Some a)
ends_it w a c (suc p) h e = absurd (omega arith)
ends_it w a Work zero h e = absurd (omega arith)
ends_it w a TurnedAway zero h e = absurd (omega arith)
ends_it (Absent, r) a Remove zero h e = absurd (omega arith)
ends_it (Up, r) a Remove zero h e = absurd (omega arith)
ends_it (Leaving, r) a Remove zero h e = absurd (omega arith)
ends_it (Gone, r) a Remove zero h e = absurd (omega arith)
ends_it (Absent, r) a Finish zero h e = absurd (omega arith)
ends_it (Up, r) a Finish zero h e = absurd (omega arith)
ends_it (Gone, r) a Finish zero h e = absurd (omega arith)
ends_it (Leaving, r) a Finish zero h e = elim (r == a) as (λ b. (r == a) ≡ b → rank (phase_at (cond b (Gone, r) (Leaving, r)) 0) ≡ 3 → (rank Leaving ≡ 2) × (is_finish Finish ≡ true) × (Some r ≡ Some a)) [
  | true ↦ (λ t _. (refl, refl, ap Some (may_finish_is Leaving r a t).1))
  | false ↦ (λ _ h. absurd (omega arith))
] refl e

pub begins_it : (w : Phase × ℕ) (a : ℕ) (c : Errand) (p : ℕ) → rank (phase_at w p) < 2 → rank (phase_at (after w a c) p) ≡ 2 → (Some (after w a c).1 ≡ Some a) × Contains (first_places c (answer w a c)) p
begins_it w a c (suc p) h e = absurd (omega arith)
begins_it w a Work zero h e = absurd (omega arith)
begins_it w a TurnedAway zero h e = absurd (omega arith)
begins_it (Absent, r) a Remove zero h e = absurd (omega arith)
begins_it (Up, r) a Remove zero h e = (refl, (0, omega arith, refl))
begins_it (Leaving, r) a Remove zero h e = absurd (omega arith)
begins_it (Gone, r) a Remove zero h e = absurd (omega arith)
begins_it (Absent, r) a Finish zero h e = absurd (omega arith)
begins_it (Up, r) a Finish zero h e = absurd (omega arith)
begins_it (Leaving, r) a Finish zero h e = absurd (omega arith)
begins_it (Gone, r) a Finish zero h e = absurd (omega arith)

-- a list of one number has no other
pub only_member : (n p : ℕ) → Contains (n ∷ []) p → p ≡ n
only_member n p (zero, l, e) = sym e
only_member n p (suc k, l, e) = absurd (omega arith)

pub begins_them : (w : Phase × ℕ) (a : ℕ) (c : Errand) (p : ℕ) → Contains (first_places c (answer w a c)) p → (rank (phase_at (after w a c) p) ≡ 2) × (Some (after w a c).1 ≡ Some a) × (Finish ≡ Finish)
begins_them w a Work p h = absurd (no_member p h)
begins_them w a TurnedAway p h = absurd (no_member p h)
begins_them w a Finish p h = absurd (no_member p h)
begins_them (Absent, r) a Remove p h = absurd (no_member p h)
begins_them (Up, r) a Remove p h = (ap (λ k. rank (phase_at (Leaving, a) k)) (only_member 0 p h), refl, refl)
begins_them (Leaving, r) a Remove p h = absurd (no_member p h)
begins_them (Gone, r) a Remove p h = absurd (no_member p h)

pub stays : (w : Phase × ℕ) (a : ℕ) (c : Errand) (p : ℕ) → rank (phase_at w p) ≡ 2 → rank (phase_at (after w a c) p) ≡ 2 → (Some (after w a c).1 ≡ Some w.1) × (Finish ≡ Finish)
stays w a c (suc p) h e = absurd (omega arith)
stays w a Work zero h e = (refl, refl)
stays w a TurnedAway zero h e = (refl, refl)
stays (Absent, r) a Remove zero h e = (refl, refl)
stays (Up, r) a Remove zero h e = absurd (omega arith)
stays (Leaving, r) a Remove zero h e = (refl, refl)
stays (Gone, r) a Remove zero h e = (refl, refl)
stays w a Finish zero h e = elim (may_finish w a) as (λ b. (Some (cond b (Gone, w.1) w).1 ≡ Some w.1) × (Finish ≡ Finish)) [ true ↦ (refl, refl) | false ↦ (refl, refl) ]

abbrev number_or : Option ℕ → ℕ
number_or (Some n) = n
number_or None = 0

pub finishes : (w : Phase × ℕ) (a : ℕ) (c : Errand) (p : ℕ) → rank (phase_at w p) ≡ 2 → Some w.1 ≡ Some a → Finish ≡ c → rank (phase_at (after w a c) p) ≡ 3
finishes w a c (suc p) h r e = absurd (omega arith)
finishes (Absent, r) a c zero h by e = absurd (omega arith)
finishes (Up, r) a c zero h by e = absurd (omega arith)
finishes (Gone, r) a c zero h by e = absurd (omega arith)
finishes (Leaving, r) a c zero h by e = subst (λ x. rank (phase_at (after (Leaving, r) a x) 0) ≡ 3) e (ap (λ b. rank (phase_at (cond b (Gone, r) (Leaving, r)) 0)) (eq-eqb r a (ap number_or by)))
