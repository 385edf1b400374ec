-- What finds lines asks for no chip over requests.
use Rattle.std.proofs.Common.{◌≡◌, ℕ, Bool, true, false, cond, ◌&&◌, List, [], ◌∷◌, ◌++◌, Option, None, Some}
use Rattle.std.specs.Prelude.{codes, is_some, nat_lt}
use Rattle.gl_base.specs.declared.command.TheConstants.{GET_LINE}
use Rattle.gl_base.specs.declared.errno.Errno.{Errno}
use Rattle.gl_base.specs.declared.errno.Errno.TheVariants.{Inval}
use Rattle.gl_base.specs.declared.operation.Do.TheVariants.{OpenChip, Ioctl}
use Rattle.gl_base.specs.declared.operation.Got.{Got}
use Rattle.gl_base.specs.declared.operation.Got.TheVariants.{Done, Number, Found as FoundAt, Text, Bytes, Ready, Refused}
use Rattle.gl_base.specs.Decimal.{decimal}
use Rattle.gl_base.specs.Operation.{refusal}
use Rattle.gl_args.specs.declared.names.ToolName.{ToolName}
use Rattle.gl_args.specs.Names.{requests_lines}
use Rattle.gl_args.specs.Options.{Options}
use Rattle.gl_client.specs.Chips.{AsksNoChips}
use Rattle.gl_client.specs.Program.{done, ask}
use Rattle.gl_args.specs.Values.{Line}
use Rattle.gl_lines.specs.declared.found_line.FoundLine.{FoundLine}
use Rattle.gl_lines.specs.Bytes.{request_sent}
use Rattle.gl_lines.specs.Finding.{Finding, begins, chip_closed, fails, fails_at, fails_looking, finds, given_line, known, looked, looks, looks_for, named_line, named_opened, offset_said, opened, requested, all_found}
use Rattle.gl_lines.specs.FoundLines.{are_apart, offsets_of, place_of}

module _ (tool : ToolName) (base made : ℕ) (opts : Options) where
  fails_none : (errno : Errno) → AsksNoChips (fails tool base made opts errno)
  fails_none errno = tt

  failed_at : (slot : ℕ) (errno : Errno) → AsksNoChips (fails_at tool base made opts slot errno)
  failed_at slot errno = (tt, λ got. tt)

  closed_none : (found : List FoundLine) (r : Option Errno) → AsksNoChips (chip_closed tool base made opts found r)
  closed_none found (Some errno) = failed_at made errno
  closed_none found None = tt

  requested_none : (found : List FoundLine) (r : Option Errno) → AsksNoChips (requested tool base made opts found r)
  requested_none found (Some errno) = failed_at base errno
  requested_none found None = (tt, λ got. closed_none found (refusal got))

  known_by : (b : Bool) (found : List FoundLine)
      → AsksNoChips (cond b (ask (Ioctl base GET_LINE 592 (request_sent tool opts (offsets_of found)) made) (λ got. requested tool base made opts found (refusal got))) (done (Some found)))
  known_by true found = (tt, λ got. requested_none found (refusal got))
  known_by false found = tt

  known_none : (found : List FoundLine) → AsksNoChips (known tool base made opts found)
  known_none found = known_by (requests_lines tool) found

  opened_none : (found : List FoundLine) (r : Option Errno) → AsksNoChips (opened tool base made opts found r)
  opened_none found (Some errno) = fails_none errno
  opened_none found None = known_none found

  apart_by : (b : Bool) (found : List FoundLine)
      → AsksNoChips (cond b (fails tool base made opts Inval) (ask (OpenChip base (decimal (place_of found))) (λ got. opened tool base made opts found (refusal got))))
  apart_by true found = fails_none Inval
  apart_by false found = (tt, λ got. opened_none found (refusal got))

  all_by : (b : Bool) (found : List FoundLine)
      → AsksNoChips (cond b (known tool base made opts found) (cond (are_apart found) (fails tool base made opts Inval) (ask (OpenChip base (decimal (place_of found))) (λ got. opened tool base made opts found (refusal got)))))
  all_by true found = known_none found
  all_by false found = apart_by (are_apart found) found

  all_none : (found : List FoundLine) → AsksNoChips (all_found tool base made opts found)
  all_none found = all_by (is_some opts.chip) found

  looking_by : (b : Bool) (errno : Errno) → AsksNoChips (cond b (fails_at tool base made opts base errno) (fails tool base made opts errno))
  looking_by true errno = failed_at base errno
  looking_by false errno = fails_none errno

  looking_none : (errno : Errno) → AsksNoChips (fails_looking tool base made opts errno)
  looking_none errno = looking_by (is_some opts.chip) errno

  twice_by : (b : Bool) (next : Finding) → AsksNoChips next → AsksNoChips (cond b (fails_looking tool base made opts Inval) next)
  twice_by true next h = looking_none Inval
  twice_by false next h = h

  looked_none : (next : List FoundLine → Finding) (found : List FoundLine) (word : List ℕ) → ((more : List FoundLine) → AsksNoChips (next more))
      → (got : Got) → AsksNoChips (looked tool base made opts next found word got)
  looked_none next found word h (FoundAt place offset count) = twice_by (opts.strict && nat_lt 1 count) _ (h (found ++ named_line place offset word ∷ []))
  looked_none next found word h (Refused errno) = looking_none errno
  looked_none next found word h Done = h found
  looked_none next found word h (Number number) = h found
  looked_none next found word h (Text text) = h found
  looked_none next found word h (Bytes bytes) = h found
  looked_none next found word h (Ready bits) = h found

  looks_by : (o : Option ℕ) (next : List FoundLine → Finding) (found : List FoundLine) (word : List ℕ)
      → ((more : List FoundLine) → AsksNoChips (next more)) → AsksNoChips (looks_for tool base made opts o word next found)
  looks_by (Some offset) next found word h = h (found ++ given_line offset ∷ [])
  looks_by None next found word h = (tt, λ got. looked_none next found word h got)

  looks_none : (lines : List Line) (found : List FoundLine) → AsksNoChips (looks tool base made opts lines found)
  looks_none [] found = all_none found
  looks_none (line ∷ lines) found = looks_by (offset_said opts line.0) (looks tool base made opts lines) found line.0 (looks_none lines)

  named_none : (r : Option Errno) → AsksNoChips (named_opened tool base made opts r)
  named_none (Some errno) = fails_none errno
  named_none None = looks_none opts.lines []

  begins_none : (o : Option (List ℕ)) → AsksNoChips (begins tool base made opts o)
  begins_none None = looks_none opts.lines []
  begins_none (Some chip) = (tt, λ got. named_none (refusal got))

  pub finds_none : AsksNoChips (finds tool base made opts)
  finds_none = begins_none opts.chip
