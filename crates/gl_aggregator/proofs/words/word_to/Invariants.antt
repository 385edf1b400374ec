use Rattle.std.proofs.Common.{◌≡◌, drop}
use Rattle.gl_aggregator.specs.Routes.{lines_from, with_bits_where}
use Rattle.gl_aggregator.specs.Words.{is_chosen}
use Rattle.gl_aggregator.proofs.words.word_to.Given as goal

-- the word so far, and the lines that are left, make the whole
abbrev pub invariant-loop-i : goal.invariant-loop-i
invariant-loop-i l = with_bits_where (λ p. is_chosen l.op l.choice p.line) (λ p. p.at) l.word (lines_from l.op l.route.base l.route.target.lines.count l.i (drop l.i l.offsets))
    ≡ with_bits_where (λ p. is_chosen l.op l.choice p.line) (λ p. p.at) 0 (lines_from l.op l.route.base l.route.target.lines.count 0 l.offsets)
