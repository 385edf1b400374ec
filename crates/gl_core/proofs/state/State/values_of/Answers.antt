use Rattle.std.proofs.Common.{ℕ, Bool, ◌+◌, ◌^◌, refl, ap, sym, ◌∙◌, arith}
use Rattle.std.specs.Prelude.{◌&&◌, if◌then◌else◌}
use Rattle.gl_base.specs.Bits.{has_bit}
use Rattle.gl_model.specs.Bits.{bits_where}
use Rattle.gl_model.specs.Values.{value_of}
use Rattle.gl_core.proofs.Bits.{bits_below_more, bits_where_more}
use Rattle.gl_core.proofs.state.State.values_of.Goals as goal

pub loop-i-init : goal.loop-i-init
unfolding bits_where
loop-i-init c = (omega arith, λ w s. refl)

pub loop-i-preserved : goal.loop-i-preserved
loop-i-preserved c = (
  bits_below_more c.loop-i.bits c.bit_where-bits.result c.loop-i.i c.masked_value.result c.loop-i.invariant.0 c.bit_where-bits.ensures,
  λ w s.
      let test : ℕ → Bool = λ i. has_bit c.args.mask i && value_of c.args.place c.args.lines.now c.args.answered w i in
      ap (λ n. n + c.bit_where-bits.result) (c.loop-i.invariant.1 w s)
      ∙ ap (λ n. bits_where test c.loop-i.i + n) (c.bit_where-bits.ensures ∙ ap (λ b. if b then 2 ^ c.loop-i.i else 0) (c.masked_value.ensures w s))
      ∙ sym (bits_where_more test c.loop-i.i),
)
