-- the names that are left make of the lines what all of them make
use Rattle.std.proofs.Common.{◌≡◌, drop}
use Rattle.gl_model.specs.Tree.{with_names}
use Rattle.gl_core.proofs.prepared_bank.name_lines.Given as goal

abbrev pub invariant-loop-offset : goal.invariant-loop-offset
invariant-loop-offset l = with_names (drop l.offset-index l.names) l.descs ≡ with_names l.names l.initial.descs
