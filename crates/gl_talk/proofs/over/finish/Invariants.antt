use Rattle.std.proofs.Common.{◌≡◌, drop, None}
use Rattle.std.specs.Option.{option_copied}
use Rattle.gl_client.specs.Program.{given, then_left}
use Rattle.gl_talk.specs.Open.{Names}
use Rattle.gl_talk.specs.Over.{joined}
use Rattle.gl_talk.specs.Talk.{Does, left, talked}
use Rattle.gl_talk.proofs.over.finish.Given as goal

-- what was asked and printed so far, and what comes, is what was to come
abbrev pub invariant-loop : goal.invariant-loop
invariant-loop l =
    ((f : Names → Does) →
    joined l.over (talked (given (then_left (left l.talk) f) (option_copied l.got)) (drop l.at l.results)) ≡ joined l.fn.over (talked (given (then_left (left l.fn.talk) f) None) (drop l.fn.at l.results)))
    × (l.talk.begun ≡ l.fn.talk.begun)
