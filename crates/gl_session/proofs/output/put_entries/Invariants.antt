use Rattle.std.proofs.Common.{◌≡◌, ◌++◌, drop}
use Rattle.gl_session.specs.Output.{AreTold, entry_lines}
use Rattle.gl_session.proofs.output.put_entries.Given as goal

-- what was written, with what is left, is all; and all are told where those that are left are
abbrev pub invariant-loop-i : goal.invariant-loop-i
invariant-loop-i l = record {
  whole : l.out.items ++ entry_lines l.i (drop l.i l.history) ≡ l.initial.out.items ++ entry_lines 0 l.history;
  told : AreTold l.i (drop l.i l.history) → AreTold 0 l.history;
}
