use Rattle.std.proofs.Common.{◌≡◌, drop}
use Rattle.std.specs.Prelude.{find}
use Rattle.gl_monitor.specs.ItemText.{has_offset}
use Rattle.gl_monitor.proofs.item_text.line_at.Given as goal

abbrev pub invariant-loop-line : goal.invariant-loop-line
invariant-loop-line l = find (has_offset l.offset) (drop l.line-index l.found) ≡ find (has_offset l.offset) l.found
