-- What finds lines prints whole lines.
use Rattle.std.proofs.Common.{◌≡◌, ℕ, Bool, true, false, cond, ◌&&◌, List, [], ◌∷◌, ◌++◌, Option, None, Some}
use Rattle.std.specs.Prelude.{codes, is_some, nat_lt}
use Rattle.gl_base.specs.declared.command.TheConstants.{GET_LINE}
use Rattle.gl_base.specs.declared.errno.Errno.{Errno}
use Rattle.gl_base.specs.declared.errno.Errno.TheVariants.{Inval}
use Rattle.gl_base.specs.declared.operation.Do.TheVariants.{OpenChip, Ioctl}
use Rattle.gl_base.specs.declared.operation.Got.{Got}
use Rattle.gl_base.specs.declared.operation.Got.TheVariants.{Done, Number, Found as FoundAt, Text, Bytes, Ready, Refused}
use Rattle.gl_base.specs.Decimal.{decimal}
use Rattle.gl_base.specs.Errno.{errno_name}
use Rattle.gl_base.specs.Operation.{refusal}
use Rattle.gl_args.specs.declared.names.ToolName.{ToolName}
use Rattle.gl_args.specs.Names.{requests_lines, tool_text}
use Rattle.gl_args.specs.Options.{Options}
use Rattle.gl_base.specs.TextLines.{ends_lines}
use Rattle.gl_base.proofs.TextLines.{line_ends}
use Rattle.gl_client.specs.Printing.{PrintsLines}
use Rattle.gl_client.specs.Program.{done, ask}
use Rattle.gl_args.specs.Values.{Line}
use Rattle.gl_lines.specs.declared.found_line.FoundLine.{FoundLine}
use Rattle.gl_lines.specs.Bytes.{request_sent}
use Rattle.gl_lines.specs.Finding.{Finding, begins, chip_closed, fails, fails_at, fails_looking, finds, given_line, known, looked, looks, looks_for, named_line, named_opened, offset_said, opened, requested, all_found}
use Rattle.gl_lines.specs.FoundLines.{are_apart, offsets_of, place_of}
use Rattle.gl_lines.specs.Texts.{failed_line, line}

-- a line, and what a tool prints of a refusal
pub line_ended : (text : List ℕ) → ends_lines (line text) ≡ true
line_ended text = line_ends text

pub failed_ended : (tool : List ℕ) (errno : Errno) → ends_lines (failed_line tool errno) ≡ true
failed_ended tool errno = line_ends (tool ++ codes ": " ++ errno_name errno)

module _ (tool : ToolName) (base made : ℕ) (opts : Options) where
  fails_lines : (errno : Errno) → PrintsLines (fails tool base made opts errno)
  fails_lines errno = (failed_ended (tool_text tool) errno, tt)

  failed_at : (slot : ℕ) (errno : Errno) → PrintsLines (fails_at tool base made opts slot errno)
  failed_at slot errno = (failed_ended (tool_text tool) errno, λ got. tt)

  closed_lines : (found : List FoundLine) (r : Option Errno) → PrintsLines (chip_closed tool base made opts found r)
  closed_lines found (Some errno) = failed_at made errno
  closed_lines found None = tt

  requested_lines : (found : List FoundLine) (r : Option Errno) → PrintsLines (requested tool base made opts found r)
  requested_lines found (Some errno) = failed_at base errno
  requested_lines found None = λ got. closed_lines found (refusal got)

  known_by : (b : Bool) (found : List FoundLine)
      → PrintsLines (cond b (ask (Ioctl base GET_LINE 592 (request_sent tool opts (offsets_of found)) made) (λ got. requested tool base made opts found (refusal got))) (done (Some found)))
  known_by true found = λ got. requested_lines found (refusal got)
  known_by false found = tt

  known_lines : (found : List FoundLine) → PrintsLines (known tool base made opts found)
  known_lines found = known_by (requests_lines tool) found

  opened_lines : (found : List FoundLine) (r : Option Errno) → PrintsLines (opened tool base made opts found r)
  opened_lines found (Some errno) = fails_lines errno
  opened_lines found None = known_lines found

  apart_by : (b : Bool) (found : List FoundLine)
      → PrintsLines (cond b (fails tool base made opts Inval) (ask (OpenChip base (decimal (place_of found))) (λ got. opened tool base made opts found (refusal got))))
  apart_by true found = fails_lines Inval
  apart_by false found = λ got. opened_lines found (refusal got)

  all_by : (b : Bool) (found : List FoundLine)
      → PrintsLines (cond b (known tool base made opts found) (cond (are_apart found) (fails tool base made opts Inval) (ask (OpenChip base (decimal (place_of found))) (λ got. opened tool base made opts found (refusal got)))))
  all_by true found = known_lines found
  all_by false found = apart_by (are_apart found) found

  all_lines : (found : List FoundLine) → PrintsLines (all_found tool base made opts found)
  all_lines found = all_by (is_some opts.chip) found

  looking_by : (b : Bool) (errno : Errno) → PrintsLines (cond b (fails_at tool base made opts base errno) (fails tool base made opts errno))
  looking_by true errno = failed_at base errno
  looking_by false errno = fails_lines errno

  looking_lines : (errno : Errno) → PrintsLines (fails_looking tool base made opts errno)
  looking_lines errno = looking_by (is_some opts.chip) errno

  twice_by : (b : Bool) (next : Finding) → PrintsLines next → PrintsLines (cond b (fails_looking tool base made opts Inval) next)
  twice_by true next h = looking_lines Inval
  twice_by false next h = h

  looked_lines : (next : List FoundLine → Finding) (found : List FoundLine) (word : List ℕ) → ((more : List FoundLine) → PrintsLines (next more))
      → (got : Got) → PrintsLines (looked tool base made opts next found word got)
  looked_lines next found word h (FoundAt place offset count) = twice_by (opts.strict && nat_lt 1 count) _ (h (found ++ named_line place offset word ∷ []))
  looked_lines next found word h (Refused errno) = looking_lines errno
  looked_lines next found word h Done = h found
  looked_lines next found word h (Number number) = h found
  looked_lines next found word h (Text text) = h found
  looked_lines next found word h (Bytes bytes) = h found
  looked_lines next found word h (Ready bits) = h found

  looks_by : (o : Option ℕ) (next : List FoundLine → Finding) (found : List FoundLine) (word : List ℕ)
      → ((more : List FoundLine) → PrintsLines (next more)) → PrintsLines (looks_for tool base made opts o word next found)
  looks_by (Some offset) next found word h = h (found ++ given_line offset ∷ [])
  looks_by None next found word h = λ got. looked_lines next found word h got

  looks_lines : (lines : List Line) (found : List FoundLine) → PrintsLines (looks tool base made opts lines found)
  looks_lines [] found = all_lines found
  looks_lines (line ∷ lines) found = looks_by (offset_said opts line.0) (looks tool base made opts lines) found line.0 (looks_lines lines)

  named_lines : (r : Option Errno) → PrintsLines (named_opened tool base made opts r)
  named_lines (Some errno) = fails_lines errno
  named_lines None = looks_lines opts.lines []

  begins_lines : (o : Option (List ℕ)) → PrintsLines (begins tool base made opts o)
  begins_lines None = looks_lines opts.lines []
  begins_lines (Some chip) = λ got. named_lines (refusal got)

  pub finds_lines : PrintsLines (finds tool base made opts)
  finds_lines = begins_lines opts.chip
