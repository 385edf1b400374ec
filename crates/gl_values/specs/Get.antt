-- gpioget: it requests its lines, gets all values, closes the request and prints them on one line (libgpiod's manual page;
-- the order of the calls is this project's choice).
use Rattle.std.specs.Prelude.{ℕ, nat_le, if◌then◌else◌, List, length, take, Option, Some, None}
use Rattle.gl_base.specs.declared.command.TheConstants.{LINE_GET_VALUES}
use Rattle.gl_base.specs.declared.errno.Errno.{Errno}
use Rattle.gl_base.specs.declared.operation.Do.TheVariants.{Ioctl, Close}
use Rattle.gl_base.specs.Operation.{refusal, bytes_of}
use Rattle.gl_uapi.specs.Fields.{number_at}
use Rattle.gl_uapi.specs.declared.layout.TheConstants.{LINE_VALUES_SIZE, VALUES_BITS}
use Rattle.gl_args.specs.declared.names.ToolName.TheVariants.{Get as GetName}
use Rattle.gl_args.specs.Names.{tool_text}
use Rattle.gl_args.specs.Options.{options_in, Options}
use Rattle.gl_client.specs.Program.{Program, done, print, ask, Left, goes_on, waits, then_left, then_by}
use Rattle.gl_lines.specs.declared.found_line.FoundLine.{FoundLine}
use Rattle.gl_lines.specs.Bytes.{values_sent}
use Rattle.gl_lines.specs.Finding.{finds, left}
use Rattle.gl_lines.specs.Texts.{line, failed_line}
use Rattle.gl_values.specs.declared.get.Get.{Get}
use Rattle.gl_values.specs.declared.get.GetStage.{GetStage}
use Rattle.gl_values.specs.declared.get.GetStage.TheVariants.{Begin, Finding, Asking, Closing, LineOpen, Leaving, Ended}
use Rattle.gl_values.specs.GetText.{values_text}

abbrev pub tool : List ℕ
tool = tool_text GetName

-- it ends
abbrev pub ends : Program (Unit {0})
ends = done tt

-- the request is closed for the last time
abbrev pub leaves : ℕ → Program (Unit {0})
leaves made = ask (Close made) (λ _. ends)

-- the request was closed
abbrev pub closed : Options → ℕ → Option Errno → Program (Unit {0})
closed opts bits (Some errno) = print (failed_line tool errno) ends
closed opts bits None = print (line (values_text opts bits 0 opts.lines)) ends

-- the bits of values; 0 where there are too few bytes
abbrev pub bits_in : List ℕ → ℕ
bits_in bytes = if nat_le LINE_VALUES_SIZE (length bytes) then number_at 8 VALUES_BITS (take LINE_VALUES_SIZE bytes) else 0

-- the values were asked for
abbrev pub asked : ℕ → Options → Option Errno → List ℕ → Program (Unit {0})
asked made opts (Some errno) bytes = print (failed_line tool errno) (leaves made)
asked made opts None bytes = ask (Close made) (λ got. closed opts (bits_in bytes) (refusal got))

-- the lines were requested, or not
abbrev pub get : ℕ → Options → Option (List FoundLine) → Program (Unit {0})
get made opts None = ends
get made opts (Some found) = ask (Ioctl made LINE_GET_VALUES 16 (values_sent (length opts.lines)) 0) (λ got. asked made opts (refusal got) (bytes_of got))

-- gpioget
abbrev pub gets : ℕ → ℕ → Options → Program (Unit {0})
gets base made opts = then_by (finds GetName base made opts) (get made opts)

-- what is left; one line a stage
abbrev pub left_of : Get → GetStage → Left (Unit {0})
left_of g Begin = goes_on (then_by (finds g.finder.tool g.finder.base g.finder.made (options_in g.finder.opts)) (get g.finder.made (options_in g.finder.opts)))
left_of g Finding = then_left (left g.finder) (get g.finder.made (options_in g.finder.opts))
left_of g Asking = waits (λ got. asked g.finder.made (options_in g.finder.opts) (refusal got) (bytes_of got))
left_of g (Closing bits) = waits (λ got. closed (options_in g.finder.opts) bits (refusal got))
left_of g LineOpen = goes_on (leaves g.finder.made)
left_of g Leaving = waits (λ _. ends)
left_of g Ended = goes_on ends

abbrev pub get_left : Get → Left (Unit {0})
get_left g = left_of g g.stage
