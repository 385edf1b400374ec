use Rattle.std.proofs.Common.{◌≡◌, ◌≤◌, ◌++◌, drop, length, map}
use Rattle.gl_aggregator.specs.Commands.{flags_attribute}
use Rattle.gl_aggregator.specs.Routes.{lines_on}
use Rattle.gl_aggregator.proofs.flag_words.attributes_for.Given as goal

-- the attributes so far, and those of the words that are left, make the whole
abbrev pub invariant-loop-word : goal.invariant-loop-word
invariant-loop-word l = (l.found ++ map (flags_attribute l.op (lines_on l.op l.route)) (drop l.word-index l.each) ≡ map (flags_attribute l.op (lines_on l.op l.route)) l.each)
    × (length l.found ≤ l.word-index)
