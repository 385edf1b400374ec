use Rattle.gl_args.specs.Options.{options_in}
use Rattle.std.proofs.Common.{◌≡◌, ◌++◌, drop}
use Rattle.gl_values.specs.GetText.{values_text}
use Rattle.gl_values.proofs.get_text.values_line.Given as goal

abbrev pub invariant-loop-i : goal.invariant-loop-i
invariant-loop-i l = l.text ++ values_text (options_in l.opts) l.bits l.i (drop l.i l.opts.lines.items) ≡ values_text (options_in l.opts) l.bits 0 l.opts.lines.items
