-- A tool finds at most as many lines as it has words of lines.
use Rattle.std.proofs.Common.{◌≤◌, ◌+◌, ℕ, Bool, true, false, cond, ◌&&◌, List, [], ◌∷◌, ◌++◌, length, length-append, Option, None, Some, arith}
use Rattle.std.specs.Prelude.{is_some, nat_lt}
use Rattle.gl_base.specs.declared.command.TheConstants.{GET_LINE}
use Rattle.gl_base.specs.declared.errno.Errno.{Errno}
use Rattle.gl_base.specs.declared.errno.Errno.TheVariants.{Inval}
use Rattle.gl_base.specs.declared.operation.Do.TheVariants.{OpenChip, Ioctl}
use Rattle.gl_base.specs.declared.operation.Got.{Got}
use Rattle.gl_base.specs.declared.operation.Got.TheVariants.{Done, Number, Found as FoundAt, Text, Bytes, Ready, Refused}
use Rattle.gl_base.specs.Operation.{refusal}
use Rattle.gl_base.specs.Decimal.{decimal}
use Rattle.gl_args.specs.declared.names.ToolName.{ToolName}
use Rattle.gl_args.specs.Names.{requests_lines}
use Rattle.gl_args.specs.Options.{Options}
use Rattle.gl_client.specs.Program.{done, ask}
use Rattle.gl_args.specs.Values.{Line}
use Rattle.gl_client.specs.Gives.{Gives}
use Rattle.gl_lines.specs.declared.found_line.FoundLine.{FoundLine}
use Rattle.gl_lines.specs.Bytes.{request_sent}
use Rattle.gl_lines.specs.FoundLines.{are_apart, place_of, offsets_of}
use Rattle.gl_lines.specs.Finding.{Finding, fails, fails_at, chip_closed, requested, known, opened, fails_looking, looked, looks_for, looks, named_opened, begins, finds, offset_said, named_line, given_line}

-- at most n lines were found
abbrev pub FoundAtMost : ℕ → Option (List FoundLine) → Type 0
FoundAtMost n None = Unit {0}
FoundAtMost n (Some found) = length found ≤ n

module _ (tool : ToolName) (base made : ℕ) (opts : Options) (n : ℕ) where
  closed_few : (found : List FoundLine) → length found ≤ n → (r : Option Errno) → Gives (FoundAtMost n) (chip_closed tool base made opts found r)
  closed_few found le (Some errno) = λ got. tt
  closed_few found le None = le

  requested_few : (found : List FoundLine) → length found ≤ n → (r : Option Errno) → Gives (FoundAtMost n) (requested tool base made opts found r)
  requested_few found le (Some errno) = λ got. tt
  requested_few found le None = λ got. closed_few found le (refusal got)

  known_by : (b : Bool) (found : List FoundLine) → length found ≤ n
      → Gives (FoundAtMost n) (cond b (ask (Ioctl base GET_LINE 592 (request_sent tool opts (offsets_of found)) made) (λ got. requested tool base made opts found (refusal got))) (done (Some found)))
  known_by true found le = λ got. requested_few found le (refusal got)
  known_by false found le = le

  opened_few : (found : List FoundLine) → length found ≤ n → (r : Option Errno) → Gives (FoundAtMost n) (opened tool base made opts found r)
  opened_few found le (Some errno) = tt
  opened_few found le None = known_by (requests_lines tool) found le

  apart_few : (b : Bool) (found : List FoundLine) → length found ≤ n
      → Gives (FoundAtMost n) (cond b (fails tool base made opts Inval) (ask (OpenChip base (decimal (place_of found))) (λ got. opened tool base made opts found (refusal got))))
  apart_few true found le = tt
  apart_few false found le = λ got. opened_few found le (refusal got)

  all_by : (b : Bool) (found : List FoundLine) → length found ≤ n
      → Gives (FoundAtMost n) (cond b (known tool base made opts found) (cond (are_apart found) (fails tool base made opts Inval) (ask (OpenChip base (decimal (place_of found))) (λ got. opened tool base made opts found (refusal got)))))
  all_by true found le = known_by (requests_lines tool) found le
  all_by false found le = apart_few (are_apart found) found le

  looking_by : (b : Bool) (errno : Errno) → Gives (FoundAtMost n) (cond b (fails_at tool base made opts base errno) (fails tool base made opts errno))
  looking_by true errno = λ got. tt
  looking_by false errno = tt

  twice_by : (b : Bool) (next : Finding) → Gives (FoundAtMost n) next → Gives (FoundAtMost n) (cond b (fails_looking tool base made opts Inval) next)
  twice_by true next h = looking_by (is_some opts.chip) Inval
  twice_by false next h = h

  looked_few : (next : List FoundLine → Finding) (found : List FoundLine) (word : List ℕ)
      → ((more : List FoundLine) → length more ≤ length found + 1 → Gives (FoundAtMost n) (next more)) → (got : Got) → Gives (FoundAtMost n) (looked tool base made opts next found word got)
  looked_few next found word h (FoundAt place offset count) =
      twice_by (opts.strict && nat_lt 1 count) _ (h (found ++ named_line place offset word ∷ []) (omega (arith, length-append found (named_line place offset word ∷ []))))
  looked_few next found word h (Refused errno) = looking_by (is_some opts.chip) errno
  looked_few next found word h Done = h found (omega arith)
  looked_few next found word h (Number number) = h found (omega arith)
  looked_few next found word h (Text text) = h found (omega arith)
  looked_few next found word h (Bytes bytes) = h found (omega arith)
  looked_few next found word h (Ready bits) = h found (omega arith)

  looks_by : (o : Option ℕ) (next : List FoundLine → Finding) (found : List FoundLine) (word : List ℕ)
      → ((more : List FoundLine) → length more ≤ length found + 1 → Gives (FoundAtMost n) (next more)) → Gives (FoundAtMost n) (looks_for tool base made opts o word next found)
  looks_by (Some offset) next found word h = h (found ++ given_line offset ∷ []) (omega (arith, length-append found (given_line offset ∷ [])))
  looks_by None next found word h = λ got. looked_few next found word h got

  looks_few : (lines : List Line) (found : List FoundLine) → length found + length lines ≤ n → Gives (FoundAtMost n) (looks tool base made opts lines found)
  looks_few [] found le = all_by (is_some opts.chip) found (omega arith)
  looks_few (line ∷ lines) found le =
      looks_by (offset_said opts line.0) (looks tool base made opts lines) found line.0 (λ more few. looks_few lines more (omega (arith, few)))

  named_few : (r : Option Errno) → length opts.lines ≤ n → Gives (FoundAtMost n) (named_opened tool base made opts r)
  named_few (Some errno) le = tt
  named_few None le = looks_few opts.lines [] (omega arith)

  begins_few : (o : Option (List ℕ)) → length opts.lines ≤ n → Gives (FoundAtMost n) (begins tool base made opts o)
  begins_few None le = looks_few opts.lines [] (omega arith)
  begins_few (Some chip) le = λ got. named_few (refusal got) le

pub finds_few : (tool : ToolName) (base made : ℕ) (opts : Options) → Gives (FoundAtMost (length opts.lines)) (finds tool base made opts)
finds_few tool base made opts = begins_few tool base made opts (length opts.lines) opts.chip (omega arith)
