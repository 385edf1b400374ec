use Rattle.std.proofs.Common.{◌≡◌, drop}
use Rattle.gl_base.specs.Bits.{has_bit}
use Rattle.gl_aggregator.specs.Routes.{lines_from, with_bits_where}
use Rattle.gl_aggregator.proofs.words.with_lines_from.Given as goal

-- the bits so far, and the lines that are left, make the whole
abbrev pub invariant-loop-i : goal.invariant-loop-i
invariant-loop-i l = with_bits_where (λ p. has_bit l.word p.at) (λ p. p.line) l.all (lines_from l.op l.route.base l.route.target.lines.count l.i (drop l.i l.offsets))
    ≡ with_bits_where (λ p. has_bit l.word p.at) (λ p. p.line) l.bits (lines_from l.op l.route.base l.route.target.lines.count 0 l.offsets)
