use Rattle.std.proofs.Common.{◌≡◌, ◌≤◌, ◌-◌, drop, get_or, length}
use Rattle.gl_script.specs.Script.{sections_of}
use Rattle.gl_check.specs.Many.{actor_sections, no_section}
use Rattle.gl_check.proofs.sections.actor_statements.Given as goal

-- the section is the one of the actors that are missing, from here on
abbrev pub invariant-loop-section : goal.invariant-loop-section
invariant-loop-section l = record {
  some_missing : 1 ≤ l.missing;
  behind : l.missing ≤ length (actor_sections (drop l.section (sections_of l.script)));
  same : get_or (actor_sections (drop l.section (sections_of l.script))) (l.missing - 1) no_section ≡ get_or (actor_sections (sections_of l.script)) (l.number - 1) no_section;
}
