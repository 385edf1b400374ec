use Rattle.std.proofs.Common.{◌≡◌, ◌+◌, ◌≤◌, ◌<◌, length, IfSome}
use Rattle.std.specs.Option.{option_copied}
use Rattle.gl_base.specs.Words.{pieces_left, placed, lines_of}
use Rattle.gl_script.specs.Reading.{before_in}
use Rattle.gl_script.specs.Sentence.{nothing, fault_from, behind_all, sections_in}
use Rattle.gl_script.proofs.script.Script.parse.Given as goal

abbrev pub invariant-loop-rest : goal.invariant-loop-rest
invariant-loop-rest l =
    (fault_from (before_in l.reading) l.number (placed l.at (pieces_left 10 (option_copied l.rest))) ≡ fault_from nothing 1 (lines_of l.bytes))
    × (behind_all (before_in l.reading) (placed l.at (pieces_left 10 (option_copied l.rest))) ≡ behind_all nothing (lines_of l.bytes))
    × (IfSome (option_copied l.rest) (λ rest. l.at + length rest ≡ length l.bytes))
    × (l.number ≤ l.at + 1)
    × (length (sections_in (before_in l.reading)) < l.number)
    × (l.at ≤ length l.bytes + 1)

abbrev pub decreases-loop-rest : goal.decreases-loop-rest
decreases-loop-rest l = length (pieces_left 10 (option_copied l.rest))
