use Rattle.std.proofs.Common.{◌≡◌, drop, map}
use Rattle.std.specs.List.{list_any}
use Rattle.gl_script.specs.Meaning.{said_in}
use Rattle.gl_script.specs.Sentence.{is_named}
use Rattle.gl_script.proofs.heads.is_one_named.Given as goal

abbrev pub invariant-loop-section : goal.invariant-loop-section
invariant-loop-section l = list_any (is_named l.name) (map said_in (drop l.section-index l.sections)) ≡ list_any (is_named l.name) (map said_in l.sections)
