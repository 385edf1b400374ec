-- The laws of the adder.
use Rattle.std.specs.Prelude.{Contains}
use Rattle.std.proofs.Common.{◌≡◌, ℕ, true, false, [], refl, sym, arith}
use Rattle.std.proofs.lemmas.Bool.{true≢false}
use Rattle.gl_gate_tests.specs.declared.adder_call.AdderCall.{AdderCall}
use Rattle.gl_gate_tests.specs.declared.adder_call.AdderCall.TheVariants.{Alone, First, Second}
use Rattle.gl_gate_tests.specs.Adder.{is_first, is_second}

pub never_both : (call : AdderCall) → is_second call ≡ true → is_first call ≡ false
never_both Alone e = refl
never_both First e = absurd (true≢false (sym e))
never_both Second e = refl

pub no_member : (p : ℕ) → Contains {X = ℕ} [] p → ⊥
no_member p c = let less = c.1 in absurd (omega arith)
