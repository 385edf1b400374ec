-- The slot of the file that is open after the finding of lines: that of the request, or of the chip's file where a tool makes no
-- request.
use Rattle.std.specs.Prelude.{ℕ, if◌then◌else◌, List, Option, None, Some}
use Rattle.gl_args.specs.declared.names.ToolName.{ToolName}
use Rattle.gl_args.specs.Names.{requests_lines}
use Rattle.gl_lines.specs.declared.found_line.FoundLine.{FoundLine}

abbrev pub found_slot : ToolName → ℕ → ℕ → Option (List FoundLine) → Option ℕ
found_slot tool base made None = None
found_slot tool base made (Some found) = Some (if requests_lines tool then made else base)
