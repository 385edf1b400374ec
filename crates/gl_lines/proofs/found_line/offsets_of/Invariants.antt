use Rattle.std.proofs.Common.{◌≡◌, ◌++◌, drop}
use Rattle.gl_lines.specs.FoundLines.{offsets_of}
use Rattle.gl_lines.proofs.found_line.offsets_of.Given as goal

abbrev pub invariant-loop-line : goal.invariant-loop-line
invariant-loop-line l = l.offsets.items ++ offsets_of (drop l.line-index l.lines) ≡ offsets_of l.lines
