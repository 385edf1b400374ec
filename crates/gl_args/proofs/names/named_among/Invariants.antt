use Rattle.std.proofs.Common.{◌≡◌, drop}
use Rattle.std.specs.Prelude.{find}
use Rattle.gl_args.specs.Names.{is_named}
use Rattle.gl_args.proofs.names.named_among.Given as goal

abbrev pub invariant-loop-tool : goal.invariant-loop-tool
invariant-loop-tool l = find (is_named l.word) (drop l.tool-index l.tools) ≡ find (is_named l.word) l.tools
