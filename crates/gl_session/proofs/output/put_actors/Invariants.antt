use Rattle.std.proofs.Common.{◌≡◌, ◌+◌, ◌++◌, drop, length}
use Rattle.gl_script.specs.Script.{sections_of}
use Rattle.gl_check.specs.Many.{actor_sections}
use Rattle.gl_session.specs.Output.{actors_text}
use Rattle.gl_session.proofs.output.put_actors.Given as goal

-- what was written, with what is left, is all; as many texts are left as actors
abbrev pub invariant-loop-section : goal.invariant-loop-section
invariant-loop-section l = record {
  whole : l.out.items ++ actors_text (actor_sections (drop l.section (sections_of l.script))) (drop l.at l.texts) ≡ l.initial.out.items ++ actors_text (actor_sections (sections_of l.script)) l.texts;
  as_many : l.at + length (actor_sections (drop l.section (sections_of l.script))) ≡ length l.texts;
}
