use Rattle.std.proofs.Common.{◌≡◌, ◌++◌, Ok, length, map}
use Rattle.gl_session.proofs.fork.all_printed.Given as goal

-- those that are left, and the texts so far, are all
abbrev pub invariant-loop-text : goal.invariant-loop-text
invariant-loop-text l = l.results.items ++ map Ok l.texts.items ≡ l.initial.results.items

abbrev pub decreases-loop-text : goal.decreases-loop-text
decreases-loop-text l = length l.results.items
