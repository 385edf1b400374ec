use Rattle.std.proofs.Common.{◌≡◌}
use Rattle.gl_model.specs.Bits.{bits_where}
use Rattle.gl_model.specs.Information.{line_at, shows_flag}
use Rattle.gl_core.proofs.information.flags_shown.Given as goal

-- the flags so far
abbrev pub invariant-loop-number : goal.invariant-loop-number
invariant-loop-number l = l.flags ≡ bits_where (shows_flag (line_at l.place l.offset)) l.number
