use Rattle.std.proofs.Common.{◌≡◌, drop, map}
use Rattle.std.specs.List.{list_any}
use Rattle.gl_script.specs.Cost.{section_aggregates}
use Rattle.gl_script.specs.Meaning.{said_in}
use Rattle.gl_script.proofs.cost.has_aggregate.Given as goal

abbrev pub invariant-loop-section : goal.invariant-loop-section
invariant-loop-section l = list_any section_aggregates (map said_in (drop l.section-index l.sections)) ≡ list_any section_aggregates (map said_in l.sections)
