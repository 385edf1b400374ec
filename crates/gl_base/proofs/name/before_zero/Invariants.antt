use Rattle.std.proofs.Common.{◌≡◌, ◌+◌, drop}
use Rattle.std.specs.List.{prefix_len}
use Rattle.gl_base.specs.Name.{is_nonzero}
use Rattle.gl_base.proofs.name.before_zero.Given as goal

-- the bytes so far aren't 0
abbrev pub invariant-loop-i : goal.invariant-loop-i
invariant-loop-i l = l.i + prefix_len is_nonzero (drop l.i l.bytes) ≡ prefix_len is_nonzero l.bytes
