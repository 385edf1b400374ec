-- the settings so far
use Rattle.std.proofs.Common.{◌≡◌, ◌<◌, ℕ, length, get_or}
use Rattle.gl_base.specs.declared.settings.Settings.{Settings}
use Rattle.gl_core.specs.LineByLine.{line_after}
use Rattle.gl_core.proofs.configuring.settings_after.Given as goal

abbrev pub invariant-loop-i : goal.invariant-loop-i
invariant-loop-i l = (length l.lines ≡ 64) × ((k : ℕ) (d : Settings) → k < l.i → get_or l.lines k d ≡ line_after l.before l.after k)
