use Rattle.std.proofs.Common.{◌≡◌, ◌+◌, ◌≤◌, drop, map}
use Rattle.std.specs.Prelude.{count_by}
use Rattle.gl_script.specs.Meaning.{said_in}
use Rattle.gl_script.specs.Sentence.{is_actor}
use Rattle.gl_script.proofs.heads.actors_among.Given as goal

abbrev pub invariant-loop-section : goal.invariant-loop-section
invariant-loop-section l =
    (l.count + count_by (λ section. is_actor section.kind) (map said_in (drop l.section-index l.sections)) ≡ count_by (λ section. is_actor section.kind) (map said_in l.sections))
    × (l.count ≤ l.section-index)
