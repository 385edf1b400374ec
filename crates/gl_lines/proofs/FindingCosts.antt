-- What finding lines costs.
use Rattle.std.proofs.Common.{◌≡◌, ◌≤◌, ◌+◌, ◌-◌, ℕ, Bool, true, false, cond, ◌&&◌, List, [], ◌∷◌, ◌++◌, length, Option, None, Some, refl, ap, arith}
use Rattle.std.specs.Prelude.{is_some, nat_lt}
use Rattle.gl_base.specs.declared.command.TheConstants.{GET_LINE}
use Rattle.gl_base.specs.declared.errno.Errno.{Errno}
use Rattle.gl_base.specs.declared.errno.Errno.TheVariants.{Inval}
use Rattle.gl_base.specs.declared.operation.Do.TheVariants.{OpenChip, Ioctl}
use Rattle.gl_base.specs.declared.operation.Got.{Got}
use Rattle.gl_base.specs.declared.operation.Got.TheVariants.{Done, Number, Found as FoundAt, Text, Bytes, Ready, Refused}
use Rattle.gl_base.specs.Operation.{refusal}
use Rattle.gl_base.specs.Decimal.{decimal}
use Rattle.gl_args.specs.declared.names.ToolName.{ToolName}
use Rattle.gl_args.specs.Names.{requests_lines}
use Rattle.gl_args.specs.Options.{Options}
use Rattle.gl_client.specs.Program.{done, ask}
use Rattle.gl_client.specs.Costs.{CostsAtMost}
use Rattle.gl_args.specs.Values.{Line}
use Rattle.gl_client.proofs.Costs.{costs_more}
use Rattle.gl_lines.specs.declared.found_line.FoundLine.{FoundLine}
use Rattle.gl_lines.specs.Bytes.{request_sent}
use Rattle.gl_lines.specs.FoundLines.{are_apart, place_of, offsets_of}
use Rattle.gl_lines.specs.Finding.{Finding, fails, fails_at, chip_closed, requested, known, opened, all_found, fails_looking, looked, looks_for, looks, named_opened, begins, finds, offset_said, named_line, given_line}

-- the entries of a request, where a tool makes one
pub request_cost : Bool → ℕ
request_cost true = 3
request_cost false = 0

-- the entries of an opening that comes after the looking
abbrev late_opening : Bool → ℕ
late_opening true = 0
late_opening false = 2

module _ (tool : ToolName) (base made : ℕ) (opts : Options) where
  failed_at : (n slot : ℕ) (errno : Errno) → CostsAtMost n (fails_at tool base made opts slot errno)
  failed_at n slot errno = (omega arith, λ got. tt)

  closed_within : (n : ℕ) (found : List FoundLine) (r : Option Errno) → CostsAtMost n (chip_closed tool base made opts found r)
  closed_within n found (Some errno) = failed_at n made errno
  closed_within n found None = tt

  requested_within : (n : ℕ) (found : List FoundLine) (r : Option Errno) → CostsAtMost n (requested tool base made opts found r)
  requested_within n found (Some errno) = failed_at n base errno
  requested_within n found None = (omega arith, λ got. closed_within (n - 0) found (refusal got))

  known_by : (b : Bool) (n : ℕ) (found : List FoundLine) → request_cost b ≤ n
      → CostsAtMost n (cond b (ask (Ioctl base GET_LINE 592 (request_sent tool opts (offsets_of found)) made) (λ got. requested tool base made opts found (refusal got))) (done (Some found)))
  unfolding request_cost
  known_by true n found le = (le, λ got. requested_within (n - 3) found (refusal got))
  known_by false n found le = tt

  known_within : (n : ℕ) (found : List FoundLine) → request_cost (requests_lines tool) ≤ n → CostsAtMost n (known tool base made opts found)
  known_within n found le = known_by (requests_lines tool) n found le

  opened_within : (n : ℕ) (found : List FoundLine) (r : Option Errno) → request_cost (requests_lines tool) ≤ n → CostsAtMost n (opened tool base made opts found r)
  opened_within n found (Some errno) le = tt
  opened_within n found None le = known_within n found le

  apart_within : (b : Bool) (n : ℕ) (found : List FoundLine) → request_cost (requests_lines tool) + 2 ≤ n
      → CostsAtMost n (cond b (fails tool base made opts Inval) (ask (OpenChip base (decimal (place_of found))) (λ got. opened tool base made opts found (refusal got))))
  apart_within true n found le = tt
  apart_within false n found le = (omega arith, λ got. opened_within (n - 2) found (refusal got) (omega arith))

  all_by : (b : Bool) (n : ℕ) (found : List FoundLine) → request_cost (requests_lines tool) + late_opening b ≤ n
      → CostsAtMost n (cond b (known tool base made opts found) (cond (are_apart found) (fails tool base made opts Inval) (ask (OpenChip base (decimal (place_of found))) (λ got. opened tool base made opts found (refusal got)))))
  all_by true n found le = known_within n found (omega arith)
  all_by false n found le = apart_within (are_apart found) n found (omega arith)

  all_within : (n : ℕ) (found : List FoundLine) → request_cost (requests_lines tool) + late_opening (is_some opts.chip) ≤ n → CostsAtMost n (all_found tool base made opts found)
  all_within n found le = all_by (is_some opts.chip) n found le

  looking_by : (b : Bool) (n : ℕ) (errno : Errno) → CostsAtMost n (cond b (fails_at tool base made opts base errno) (fails tool base made opts errno))
  looking_by true n errno = failed_at n base errno
  looking_by false n errno = tt

  looking_fails : (n : ℕ) (errno : Errno) → CostsAtMost n (fails_looking tool base made opts errno)
  looking_fails n errno = looking_by (is_some opts.chip) n errno

  twice_by : (b : Bool) (n : ℕ) (next : Finding) → CostsAtMost n next → CostsAtMost n (cond b (fails_looking tool base made opts Inval) next)
  twice_by true n next h = looking_fails n Inval
  twice_by false n next h = h

  looked_within : (n : ℕ) (next : List FoundLine → Finding) (found : List FoundLine) (word : List ℕ) → ((more : List FoundLine) → CostsAtMost n (next more))
      → (got : Got) → CostsAtMost n (looked tool base made opts next found word got)
  looked_within n next found word h (FoundAt place offset count) = twice_by (opts.strict && nat_lt 1 count) n _ (h (found ++ named_line place offset word ∷ []))
  looked_within n next found word h (Refused errno) = looking_fails n errno
  looked_within n next found word h Done = h found
  looked_within n next found word h (Number number) = h found
  looked_within n next found word h (Text text) = h found
  looked_within n next found word h (Bytes bytes) = h found
  looked_within n next found word h (Ready bits) = h found

  looks_by : (o : Option ℕ) (n : ℕ) (next : List FoundLine → Finding) (found : List FoundLine) (word : List ℕ) → 1 ≤ n
      → ((more : List FoundLine) → CostsAtMost (n - 1) (next more)) → CostsAtMost n (looks_for tool base made opts o word next found)
  looks_by (Some offset) n next found word le h = costs_more (next (found ++ given_line offset ∷ [])) (n - 1) n (omega arith) (h (found ++ given_line offset ∷ []))
  looks_by None n next found word le h = (le, λ got. looked_within (n - 1) next found word h got)

  looks_within : (lines : List Line) (n : ℕ) (found : List FoundLine) → request_cost (requests_lines tool) + late_opening (is_some opts.chip) + length lines ≤ n
      → CostsAtMost n (looks tool base made opts lines found)
  looks_within [] n found le = all_within n found (omega arith)
  looks_within (line ∷ lines) n found le =
      looks_by (offset_said opts line.0) n (looks tool base made opts lines) found line.0 (omega arith) (λ more. looks_within lines (n - 1) more (omega arith))

  named_within : (n : ℕ) (r : Option Errno) → request_cost (requests_lines tool) + late_opening (is_some opts.chip) + length opts.lines ≤ n
      → CostsAtMost n (named_opened tool base made opts r)
  named_within n (Some errno) le = tt
  named_within n None le = looks_within opts.lines n [] le

  begins_within : (o : Option (List ℕ)) → opts.chip ≡ o → CostsAtMost (request_cost (requests_lines tool) + 2 + length opts.lines) (begins tool base made opts o)
  begins_within None e =
      looks_within opts.lines (request_cost (requests_lines tool) + 2 + length opts.lines) []
      (let late : late_opening (is_some opts.chip) ≡ 2 = ap (λ c. late_opening (is_some c)) e in omega (arith, late))
  begins_within (Some chip) e = (
    omega arith,
    λ got.
        named_within (request_cost (requests_lines tool) + 2 + length opts.lines - 2) (refusal got)
        (let late : late_opening (is_some opts.chip) ≡ 0 = ap (λ c. late_opening (is_some c)) e in omega (arith, late)),
  )

  pub finds_within : CostsAtMost (request_cost (requests_lines tool) + 2 + length opts.lines) (finds tool base made opts)
  finds_within = begins_within opts.chip refl

-- a tool that requests its lines, and one that doesn't
pub finds_requesting : (tool : ToolName) (base made : ℕ) (opts : Options) → requests_lines tool ≡ true → CostsAtMost (length opts.lines + 5) (finds tool base made opts)
unfolding request_cost
finds_requesting tool base made opts e =
    let three : request_cost (requests_lines tool) ≡ 3 = ap request_cost e in
    costs_more (finds tool base made opts) _ (length opts.lines + 5) (omega (arith, three)) (finds_within tool base made opts)

pub finds_alone : (tool : ToolName) (base made : ℕ) (opts : Options) → requests_lines tool ≡ false → CostsAtMost (length opts.lines + 2) (finds tool base made opts)
unfolding request_cost
finds_alone tool base made opts e =
    let none : request_cost (requests_lines tool) ≡ 0 = ap request_cost e in
    costs_more (finds tool base made opts) _ (length opts.lines + 2) (omega (arith, none)) (finds_within tool base made opts)
