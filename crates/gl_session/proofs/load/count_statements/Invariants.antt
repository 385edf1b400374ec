use Rattle.std.proofs.Common.{◌≡◌, ◌+◌, drop}
use Rattle.gl_script.specs.Script.{sections_of}
use Rattle.gl_session.specs.Figures.{statement_count}
use Rattle.gl_session.proofs.load.count_statements.Given as goal

-- the statements so far, and those after them, are all
abbrev pub invariant-loop-section : goal.invariant-loop-section
invariant-loop-section l = l.count + statement_count (drop l.section (sections_of l.script)) ≡ statement_count (sections_of l.script)
