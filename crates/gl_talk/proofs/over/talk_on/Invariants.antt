use Rattle.std.proofs.Common.{◌≡◌, drop, map}
use Rattle.gl_talk.specs.Over.{columns_in, joined}
use Rattle.gl_talk.specs.Talk.{names_in, talk, talked, talks}
use Rattle.gl_talk.proofs.over.talk_on.Given as goal

-- what was asked and printed so far, and what the statements that are left ask and print, is the whole talk
abbrev pub invariant-loop-statement : goal.invariant-loop-statement
invariant-loop-statement l =
    (joined l.over (talked (talks l.current.begun (map columns_in (drop l.statement-index l.statements)) (names_in l.current)) (drop l.at l.results)) ≡ talk (map columns_in l.statements) l.results)
    × (l.current.begun ≡ l.statement-index)
