-- The lines so far have their settings, and the others have none.
use Rattle.std.proofs.Common.{◌≡◌}
use Rattle.gl_base.specs.Positions.{table_from}
use Rattle.gl_attrs.specs.Setting.{settings_or_none}
use Rattle.gl_attrs.proofs.resolving.settings_of.Given as goal

abbrev pub invariant-loop-i : goal.invariant-loop-i
invariant-loop-i l = l.settings ≡ table_from (settings_or_none l.config l.i) 0 64
