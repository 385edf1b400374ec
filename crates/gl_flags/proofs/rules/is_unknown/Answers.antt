use Rattle.std.proofs.Common.{ℕ, ◌∙◌, ap, leb}
use Rattle.bitflags.proofs.OnLiterals.{bitflags_on_literals}
use Rattle.gl_flags.proofs.Unknown.{unknown_above}
use Rattle.gl_flags.proofs.rules.is_unknown.Goals as goal

pub returns : goal.returns
unfolding bitflags_on_literals
returns c =
    unknown_above c.from_bits.result c.is_none.result c.bits.result c.is_none.ensures (c.from_bits.ensures.known tt)
    ∙ ap (λ (n : ℕ). leb 8192 n) c.bits.ensures
