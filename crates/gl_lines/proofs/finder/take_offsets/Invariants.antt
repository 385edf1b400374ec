use Rattle.std.proofs.Common.{◌≡◌, ℕ, drop, length, take}
use Rattle.gl_args.specs.Options.{options_in}
use Rattle.gl_args.specs.declared.names.ToolName.{ToolName}
use Rattle.gl_lines.specs.Finding.{looks}
use Rattle.gl_lines.proofs.finder.take_offsets.Given as goal

-- what is done with the lines that are left, after those that were found, is what was to be done; those of before stay in front
abbrev pub invariant-loop-i : goal.invariant-loop-i
invariant-loop-i l =
    ((tool : ToolName) (base made : ℕ) →
    looks tool base made (options_in l.opts) (drop l.i l.opts.lines.items) l.found.items ≡ looks tool base made (options_in l.opts) (drop l.next l.opts.lines.items) l.initial.found.items)
    × (take (length l.initial.found.items) l.found.items ≡ l.initial.found.items)
