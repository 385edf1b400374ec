use Rattle.std.proofs.Common.{◌≡◌, drop, map}
use Rattle.gl_talk.specs.Open.{held_of_name, set_in}
use Rattle.gl_talk.proofs.held.has_set.Given as goal

abbrev pub invariant-loop-tool : goal.invariant-loop-tool
invariant-loop-tool l = held_of_name l.name (map set_in (drop l.tool-index l.tools)) ≡ held_of_name l.name (map set_in l.tools)
