-- what was written, with what is left, is all; as many actors are left as seats
use Rattle.std.proofs.Common.{◌≡◌, ◌+◌, ◌++◌, drop, length, map}
use Rattle.gl_script.specs.Script.{sections_of}
use Rattle.gl_check.specs.Many.{actor_sections}
use Rattle.gl_check.specs.Seating.{text_in}
use Rattle.gl_check.specs.Texts.{actors_text}
use Rattle.gl_check.proofs.texts.put_actors.Given as goal

abbrev pub invariant-loop-section : goal.invariant-loop-section
invariant-loop-section l = record {
  whole : l.out.items ++ actors_text (actor_sections (drop l.section (sections_of l.script))) (drop l.at (map text_in l.seats))
      ≡ l.initial.out.items ++ actors_text (actor_sections (sections_of l.script)) (map text_in l.seats);
  as_many : l.at + length (actor_sections (drop l.section (sections_of l.script))) ≡ length l.seats;
}
