-- Finding lines names its own two slots alone, and leaves one file open where it has found them: the request, or the chip's file
-- where it makes none.
use Rattle.std.proofs.Common.{◌≡◌, ◌≤◌, ◌+◌, ◌-◌, ℕ, Bool, true, false, cond, ◌&&◌, List, [], ◌∷◌, ◌++◌, Option, None, Some, refl, sym, ◌∙◌, ap, arith}
use Rattle.std.specs.Prelude.{is_some, nat_eq, nat_lt}
use Rattle.gl_base.specs.Decimal.{decimal}
use Rattle.gl_base.specs.Operation.{refusal}
use Rattle.gl_base.specs.declared.command.TheConstants.{GET_LINE}
use Rattle.gl_base.specs.declared.errno.Errno.{Errno}
use Rattle.gl_base.specs.declared.errno.Errno.TheVariants.{Inval}
use Rattle.gl_base.specs.declared.operation.Do.TheVariants.{OpenChip, Find, Ioctl}
use Rattle.gl_base.specs.declared.operation.Got.{Got}
use Rattle.gl_base.specs.declared.operation.Got.TheVariants.{Done, Number, Found as FoundAt, Text, Bytes, Ready, Refused}
use Rattle.gl_args.specs.declared.names.ToolName.{ToolName}
use Rattle.gl_args.specs.Names.{requests_lines}
use Rattle.gl_client.specs.OpenSlots.{AreApart, NamesOpenSlots, SameSlots, one_if, times, with_slot}
use Rattle.gl_args.specs.Options.{Options}
use Rattle.gl_client.specs.Program.{done, ask}
use Rattle.gl_args.specs.Values.{Line}
use Rattle.gl_client.proofs.OpenSlots.{Fits, Follows, counts, counts_with, names_open, with_one}
use Rattle.gl_lines.specs.declared.found_line.FoundLine.{FoundLine}
use Rattle.gl_lines.specs.Bytes.{request_sent}
use Rattle.gl_lines.specs.FoundLines.{are_apart, place_of, offsets_of}
use Rattle.gl_lines.specs.FoundSlot.{found_slot}
use Rattle.gl_lines.specs.Finding.{Finding, fails, fails_at, chip_closed, requested, known, opened, all_found, fails_looking, looked, looks_for, looks, named_opened, begins, finds, offset_said, named_line, given_line}

-- s is open n times before, and at most k times; a and b say whether it is the chip's slot or the request's
module _ (s k n : ℕ) (tool : ToolName) (base made : ℕ) (opts : Options) (room : n + one_if (nat_eq s base) + one_if (nat_eq s made) ≤ k) where
  abbrev Keeps : ℕ → Finding → Type 0
  Keeps m p = Follows s k (λ found. counts s (found_slot tool base made found) + n) m p

  -- how often s is open where the chip that was named is
  abbrev named_times : Bool → ℕ
  named_times true = n + one_if (nat_eq s base)
  named_times false = n

  failed_at : (m slot : ℕ) (errno : Errno) → m ≡ n + one_if (nat_eq s slot) → Keeps m (fails_at tool base made opts slot errno)
  failed_at m slot errno e = (omega (arith, e), λ got kept. omega (arith, e))

  failed : (m : ℕ) (errno : Errno) → m ≡ n → Keeps m (fails tool base made opts errno)
  failed m errno e = omega (arith, e)

  closed_slots : (m : ℕ) (found : List FoundLine) (r : Option Errno) → requests_lines tool ≡ true → m ≡ n + one_if (nat_eq s made) → Keeps m (chip_closed tool base made opts found r)
  closed_slots m found (Some errno) q e = failed_at m made errno e
  closed_slots m found None q e =
      let own : one_if (nat_eq s (cond (requests_lines tool) made base)) ≡ one_if (nat_eq s made) = ap (λ b. one_if (nat_eq s (cond b made base))) q in
      omega (arith, e, own)

  requested_slots : (m : ℕ) (found : List FoundLine) (r : Option Errno) → requests_lines tool ≡ true → m ≡ n + one_if (nat_eq s base)
      → Keeps (with_one s k r made m) (requested tool base made opts found r)
  requested_slots m found (Some errno) q e = failed_at m base errno e
  requested_slots m found None q e =
      (omega (arith, e), λ got kept. closed_slots (m + one_if (nat_eq s made) - one_if (nat_eq s base)) found (refusal got) q (omega (arith, e)))

  known_by : (b : Bool) (m : ℕ) (found : List FoundLine) → requests_lines tool ≡ b → m ≡ n + one_if (nat_eq s base)
      → Keeps m (cond b (ask (Ioctl base GET_LINE 592 (request_sent tool opts (offsets_of found)) made) (λ got. requested tool base made opts found (refusal got))) (done (Some found)))
  known_by true m found q e = ((omega (arith, e), omega (arith, e, room)), λ got kept. requested_slots m found (refusal got) q e)
  known_by false m found q e =
      let own : one_if (nat_eq s (cond (requests_lines tool) made base)) ≡ one_if (nat_eq s base) = ap (λ b. one_if (nat_eq s (cond b made base))) q in
      omega (arith, e, own)

  known_slots : (m : ℕ) (found : List FoundLine) → m ≡ n + one_if (nat_eq s base) → Keeps m (known tool base made opts found)
  known_slots m found e = known_by (requests_lines tool) m found refl e

  opened_slots : (found : List FoundLine) (m : ℕ) (r : Option Errno) → m ≡ n → Keeps (with_one s k r base m) (opened tool base made opts found r)
  opened_slots found m (Some errno) e = failed m errno e
  opened_slots found m None e = known_slots (m + one_if (nat_eq s base)) found (omega (arith, e))

  apart_by : (b : Bool) (m : ℕ) (found : List FoundLine) → m ≡ n
      → Keeps m (cond b (fails tool base made opts Inval) (ask (OpenChip base (decimal (place_of found))) (λ got. opened tool base made opts found (refusal got))))
  apart_by true m found e = failed m Inval e
  apart_by false m found e = (omega (arith, e, room), λ got kept. opened_slots found m (refusal got) e)

  all_by : (b : Bool) (m : ℕ) (found : List FoundLine) → m ≡ named_times b
      → Keeps m (cond b (known tool base made opts found) (cond (are_apart found) (fails tool base made opts Inval) (ask (OpenChip base (decimal (place_of found))) (λ got. opened tool base made opts found (refusal got)))))
  all_by true m found e = known_slots m found e
  all_by false m found e = apart_by (are_apart found) m found e

  all_slots : (m : ℕ) (found : List FoundLine) → m ≡ named_times (is_some opts.chip) → Keeps m (all_found tool base made opts found)
  all_slots m found e = all_by (is_some opts.chip) m found e

  looking_by : (b : Bool) (m : ℕ) (errno : Errno) → m ≡ named_times b → Keeps m (cond b (fails_at tool base made opts base errno) (fails tool base made opts errno))
  looking_by true m errno e = failed_at m base errno e
  looking_by false m errno e = failed m errno e

  looking_fails : (m : ℕ) (errno : Errno) → m ≡ named_times (is_some opts.chip) → Keeps m (fails_looking tool base made opts errno)
  looking_fails m errno e = looking_by (is_some opts.chip) m errno e

  twice_by : (b : Bool) (m : ℕ) (next : Finding) → m ≡ named_times (is_some opts.chip) → Keeps m next → Keeps m (cond b (fails_looking tool base made opts Inval) next)
  twice_by true m next e h = looking_fails m Inval e
  twice_by false m next e h = h

  looked_slots : (m : ℕ) (next : List FoundLine → Finding) (found : List FoundLine) (word : List ℕ) → m ≡ named_times (is_some opts.chip) → ((more : List FoundLine) → Keeps m (next more)) → (got : Got)
      → Keeps m (looked tool base made opts next found word got)
  looked_slots m next found word e h (FoundAt place offset count) = twice_by (opts.strict && nat_lt 1 count) m _ e (h (found ++ named_line place offset word ∷ []))
  looked_slots m next found word e h (Refused errno) = looking_fails m errno e
  looked_slots m next found word e h Done = h found
  looked_slots m next found word e h (Number number) = h found
  looked_slots m next found word e h (Text text) = h found
  looked_slots m next found word e h (Bytes bytes) = h found
  looked_slots m next found word e h (Ready bits) = h found

  -- the chip that is looked in is open
  find_fits : (b : Bool) (m : ℕ) (word : List ℕ) → m ≡ named_times b → Fits s k m (Find (cond b (Some base) None) word)
  find_fits true m word e = omega (arith, e)
  find_fits false m word e = tt

  looks_by : (o : Option ℕ) (m : ℕ) (next : List FoundLine → Finding) (found : List FoundLine) (word : List ℕ) → m ≡ named_times (is_some opts.chip) → ((more : List FoundLine) → Keeps m (next more))
      → Keeps m (looks_for tool base made opts o word next found)
  looks_by (Some offset) m next found word e h = h (found ++ given_line offset ∷ [])
  looks_by None m next found word e h = (find_fits (is_some opts.chip) m word e, λ got kept. looked_slots m next found word e h got)

  looks_slots : (lines : List Line) (m : ℕ) (found : List FoundLine) → m ≡ named_times (is_some opts.chip) → Keeps m (looks tool base made opts lines found)
  looks_slots [] m found e = all_slots m found e
  looks_slots (line ∷ lines) m found e = looks_by (offset_said opts line.0) m (looks tool base made opts lines) found line.0 e (λ more. looks_slots lines m more e)

  named_slots : (m : ℕ) (r : Option Errno) → is_some opts.chip ≡ true → m ≡ n → Keeps (with_one s k r base m) (named_opened tool base made opts r)
  named_slots m (Some errno) q e = failed m errno e
  named_slots m None q e =
      let times_then : named_times (is_some opts.chip) ≡ n + one_if (nat_eq s base) = ap named_times q in
      looks_slots opts.lines (m + one_if (nat_eq s base)) [] (omega (arith, times_then, e))

  begins_slots : (o : Option (List ℕ)) → opts.chip ≡ o → Keeps n (begins tool base made opts o)
  begins_slots None e =
      let times_then : named_times (is_some opts.chip) ≡ n = ap (λ c. named_times (is_some c)) e in
      looks_slots opts.lines n [] (omega (arith, times_then))
  begins_slots (Some chip) e = (omega (arith, room), λ got kept. named_slots n (refusal got) (ap (λ c. is_some c) e) refl)

  pub finds_slots : Keeps n (finds tool base made opts)
  finds_slots = begins_slots opts.chip refl

-- over all slots
pub finding_names : (slots : List ℕ) (tool : ToolName) (base made : ℕ) (opts : Options) → AreApart (base ∷ made ∷ slots)
    → NamesOpenSlots (λ found now. SameSlots now (with_slot (found_slot tool base made found) slots)) slots (finds tool base made opts)
finding_names slots tool base made opts apart =
    names_open (λ s. times s (base ∷ made ∷ slots)) (λ s found. counts s (found_slot tool base made found) + times s slots) (λ found now. SameSlots now (with_slot (found_slot tool base made found) slots))
    (finds tool base made opts) slots apart (λ s. omega arith)
    (λ s. finds_slots s (times s (base ∷ made ∷ slots)) (times s slots) tool base made opts (omega arith))
    (λ found now same le. λ s. same s ∙ sym (counts_with s (found_slot tool base made found) slots))
