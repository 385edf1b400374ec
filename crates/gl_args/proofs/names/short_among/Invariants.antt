use Rattle.std.proofs.Common.{◌≡◌, drop}
use Rattle.std.specs.Prelude.{find}
use Rattle.gl_args.specs.Names.{is_short}
use Rattle.gl_args.proofs.names.short_among.Given as goal

abbrev pub invariant-loop-option : goal.invariant-loop-option
invariant-loop-option l = find (is_short l.tool l.name) (drop l.option-index l.options) ≡ find (is_short l.tool l.name) l.options
