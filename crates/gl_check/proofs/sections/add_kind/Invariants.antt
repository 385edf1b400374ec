-- the statements so far, and those of the sections that are left
use Rattle.std.proofs.Common.{◌≡◌, ◌++◌, drop, map}
use Rattle.gl_script.specs.Script.{sections_of}
use Rattle.gl_talk.specs.Over.{columns_in}
use Rattle.gl_check.specs.One.{said_in_kind}
use Rattle.gl_check.proofs.sections.add_kind.Given as goal

abbrev pub invariant-loop-section : goal.invariant-loop-section
invariant-loop-section l =
    map columns_in l.all.items ++ said_in_kind l.kind (drop l.section (sections_of l.script)) ≡ map columns_in l.initial.all.items ++ said_in_kind l.kind (sections_of l.script)
