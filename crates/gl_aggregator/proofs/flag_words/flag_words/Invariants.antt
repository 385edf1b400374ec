use Rattle.std.proofs.Common.{◌≡◌, ◌≤◌, [], drop, length}
use Rattle.gl_aggregator.specs.Commands.{with_words}
use Rattle.gl_aggregator.specs.Routes.{lines_from}
use Rattle.gl_aggregator.proofs.flag_words.flag_words.Given as goal

-- the words so far, and the lines that are left, make the whole; at most one word is a line's
abbrev pub invariant-loop-i : goal.invariant-loop-i
invariant-loop-i l = (with_words l.op l.words (lines_from l.op l.route.base l.route.target.lines.count l.i (drop l.i l.offsets)) ≡ with_words l.op [] (lines_from l.op l.route.base l.route.target.lines.count 0 l.offsets))
    × (length l.words ≤ l.i)
