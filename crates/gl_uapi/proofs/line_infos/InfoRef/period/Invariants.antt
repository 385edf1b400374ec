-- What was not found so far is what is left to find.
use Rattle.std.proofs.Common.{◌≡◌, ◌-◌}
use Rattle.gl_uapi.specs.LineInfo.{first_period}
use Rattle.gl_uapi.proofs.line_infos.InfoRef.period.Given as goal

abbrev pub invariant-loop-i : goal.invariant-loop-i
invariant-loop-i l =
    first_period l.self-inside.bytes.now l.i (l.count - l.i) ≡ first_period l.self-inside.bytes.now 0 l.count
