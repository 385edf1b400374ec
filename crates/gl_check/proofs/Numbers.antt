-- The numbers that calls of the machine are answered, and the lines of requests.
use Rattle.std.proofs.Common.{◌≡◌, ℕ, ◌<◌, ◌≤◌, ◌^◌, Bool, true, false, ◌||◌, List, [], ◌∷◌, ◌++◌, length, map, Option, None, Some, refl, sym, ap, ◌∙◌, subst, arith, inl, inr}
use Rattle.std.specs.Prelude.{◌==◌, nat_lt, not, if◌then◌else◌}
use Rattle.std.specs.Option.{option_and_then, option_or}
use Rattle.std.proofs.lemmas.Bool.{cases_lt, true≢false}
use Rattle.std.proofs.lemmas.Bool.Decides.{nat_tests}
use Rattle.gl_base.proofs.FirstRows.{Each-find}
use Rattle.gl_base.specs.ChipWord.{chip_number_of}
use Rattle.gl_base.specs.Lines.{IsLineCount}
use Rattle.gl_base.specs.Refusals.{first_of, when}
use Rattle.gl_base.specs.Rows.{Each}
use Rattle.gl_base.specs.declared.errno.Errno.{Errno}
use Rattle.gl_base.specs.declared.errno.Errno.TheVariants.{Inval}
use Rattle.gl_base.specs.declared.limits.TheConstants.{LINES_PER_REQUEST, PLACES}
use Rattle.gl_registry.specs.Chips.{can_be_named, chip_at, named_place, no_chip}
use Rattle.gl_registry.specs.declared.registry.Chip.{Chip}
use Rattle.gl_uapi.specs.Command.{command_of}
use Rattle.gl_uapi.specs.declared.commands.Command.{Command}
use Rattle.gl_uapi.specs.declared.commands.Command.TheVariants.{ChipInfo, LineInfo, Watch, Unwatch, GetLine, SetConfig, GetValues, SetValues}
use Rattle.gl_watch.specs.declared.file.ChipFile.{ChipFile}
use Rattle.gl_core.specs.Kept.{Kept}
use Rattle.gl_core.specs.WellKept.{IsWellKept}
use Rattle.gl_asking.specs.Opened.{place_named, place_or_first}
use Rattle.gl_attrs.specs.ConfigFault.{config_fault}
use Rattle.gl_uapi.specs.Fields.{is_zero_at}
use Rattle.gl_uapi.specs.declared.layout.TheConstants.{REQUEST_PADDING, REQUEST_PADDING_SIZE}
use Rattle.gl_model.specs.AskedLines.{config_of, header_fault, lines_asked, num_lines, request_fault}
use Rattle.gl_model.specs.Bounds.{HasBounds}
use Rattle.gl_model.specs.Claiming.{claim_at, claim_by, claim_number, told_claim}
use Rattle.gl_model.specs.Entries.{is_get_line}
use Rattle.gl_model.specs.Holders.{file_numbers}
use Rattle.gl_model.specs.Ioctl.{by_number}
use Rattle.gl_model.specs.Opening.{open_at}
use Rattle.gl_model.specs.Replies.{has_form, numbered_form}
use Rattle.gl_model.specs.Step.{step}
use Rattle.gl_model.specs.World.{World, Request, has_number, request_at}
use Rattle.gl_model.specs.Written.{number_answered}
use Rattle.gl_model.specs.declared.call.Call.TheVariants.{OpenChip, Ioctl}
use Rattle.gl_model.specs.declared.call.Part.{Part}
use Rattle.gl_model.specs.declared.call.Part.TheVariants.{Whole, Ask, Tell}
use Rattle.gl_model.specs.declared.reply.Reply.{Reply}
use Rattle.gl_model.specs.declared.reply.Reply.TheVariants.{Done, Number, Go, Found, Text, Ready, Refused}
use Rattle.gl_model.proofs.Columns.{read_past}
use Rattle.gl_model.proofs.Replies.{replies_have_form}
use Rattle.gl_model.proofs.Requests.{claim_by_any}

-- the bounds of a world that a well-kept core stands for

each_below : (n : ℕ) (xs : List ℕ) → n ≤ 2 ^ 31 → Each (λ (x : ℕ). x < n) xs → Each (λ (x : ℕ). x < 2 ^ 31) xs
each_below n [] le h = tt
each_below n (x ∷ xs) le h = (omega (arith, le, h.0), each_below n xs le h.1)

pub bounds_of : (k : Kept) (kept : IsWellKept k) → HasBounds kept.world
bounds_of k kept = record {
  bounded = record {
    chips = subst (λ (l : Kept). length l.chips ≤ PLACES) (sym kept.stands.kept_so) kept.tables.shape.few;
    next = kept.in_order.next;
  };
  numbers = each_below kept.world.next (file_numbers kept.world) kept.in_order.next kept.in_order.numbers_below;
}

-- an opened chip

abbrev pub is_a_number : Reply → Bool
is_a_number (Number n) = true
is_a_number _ = false

can_be_named_within : (chips : List Chip) (n : ℕ) → can_be_named (chip_at chips n).phase ≡ true → n < length chips
can_be_named_within chips n h = elim (cases_lt n (length chips)) as (λ _. n < length chips) [
  | inl lt ↦ lt
  | inr le ↦ absurd (true≢false (sym h ∙ ap (λ (c : Chip). can_be_named c.phase) (read_past chips n no_chip le)))
]

by_name : (b : Bool) (n fd : ℕ) (w : World) → (open_at (if b then Some n else None) w).reply ≡ Number fd → b ≡ true
by_name true n fd w h = refl
by_name false n fd w h = absurd (true≢false (sym (ap is_a_number h)))

opened_place : (named : Option ℕ) (w : World) (fd : ℕ) → (open_at (named_place w.chips named) w).reply ≡ Number fd → place_or_first named < length w.chips
opened_place None w fd h = absurd (true≢false (sym (ap is_a_number h)))
opened_place (Some n) w fd h = can_be_named_within w.chips n (by_name (can_be_named (chip_at w.chips n).phase) n fd w h)

pub opens_a_place : (w : World) (by : ℕ) (word : List ℕ) (fd : ℕ) → HasBounds w → (step w by (OpenChip word)).reply ≡ Number fd → place_named word < PLACES
opens_a_place w by word fd bounds h = omega (arith, bounds.bounded.chips, opened_place (chip_number_of word) w fd h)

open_number : (word : List ℕ) (reply : Reply) → has_form (OpenChip word) reply ≡ true → number_answered reply < 2 ^ 32
open_number word Done form = omega arith
open_number word (Number n) form = let small : n < 2 ^ 31 = grind (arith, nat_tests, form) in omega (arith, small)
open_number word (Go n) form = omega arith
open_number word (Found p o n) form = omega arith
open_number word (Text t) form = omega arith
open_number word (Ready b) form = omega arith
open_number word (Refused errno) form = omega arith

pub opens_a_number : (w : World) (by : ℕ) (word : List ℕ) → number_answered (step w by (OpenChip word)).reply < 2 ^ 32
opens_a_number w by word = open_number word (step w by (OpenChip word)).reply (replies_have_form.form w by (OpenChip word))

-- a command's number

each_first : {X : Type 0} (P : X → Type 0) (xs ys : List X) → Each P (xs ++ ys) → Each P xs
each_first P [] ys h = tt
each_first P (x ∷ xs) ys h = (h.0, each_first P xs ys h.1)

each_mapped : (P : ℕ → Type 0) (rows : List Request) → Each P (map (λ (r : Request). r.fd) rows) → Each (λ (r : Request). P r.fd) rows
each_mapped P [] h = tt
each_mapped P (r ∷ rows) h = (h.0, each_mapped P rows h.1)

request_below : (w : World) → HasBounds w → (fd : ℕ) (request : Request) → request_at w.requests fd ≡ Some request → request.fd < 2 ^ 31
request_below w bounds fd request at = Each-find (λ (r : Request). r.fd < 2 ^ 31) (has_number fd) w.requests request
    (each_mapped (λ n. n < 2 ^ 31) w.requests (each_first (λ n. n < 2 ^ 31) (map (λ (r : Request). r.fd) w.requests) (map (λ (f : ChipFile). f.fd) w.files) bounds.numbers)) at

abbrev is_request : Option Request → Bool
is_request (Some request) = true
is_request None = false

claim_below : (w : World) → HasBounds w → (number : Option ℕ) (request : Request) → option_and_then (request_at w.requests) number ≡ Some request → request.fd < 2 ^ 31
claim_below w bounds None request e = absurd (true≢false (sym (ap is_request e)))
claim_below w bounds (Some fd) request e = request_below w bounds fd request e

told_below : (w : World) → HasBounds w → (place actor : ℕ) (answer : Option ℕ) (len : ℕ) (bytes : List ℕ) (found : Option Request) → claim_at place (claim_by w.requests actor) ≡ found → number_answered (told_claim answer len bytes found w).reply < 2 ^ 32
told_below w bounds place actor None len bytes None e = omega arith
told_below w bounds place actor (Some bits) len bytes None e = omega arith
told_below w bounds place actor None len bytes (Some request) e = omega arith
told_below w bounds place actor (Some bits) len bytes (Some request) e =
    let small = claim_below w bounds (claim_number w.requests actor) request (claim_by_any place (claim_by w.requests actor) request e) in omega (arith, small)

-- a reply that is no number
no_number : (reply : Reply) → is_a_number reply ≡ false → number_answered reply < 2 ^ 32
no_number Done e = omega arith
no_number (Number n) e = absurd (true≢false e)
no_number (Go n) e = omega arith
no_number (Found p o n) e = omega arith
no_number (Text t) e = omega arith
no_number (Ready b) e = omega arith
no_number (Refused errno) e = omega arith

abbrev pub is_told : Part → Bool
is_told Whole = false
is_told Ask = false
is_told (Tell answer) = true

-- only the tell of GET_LINE is answered a number
formed : (command : Option Command) (part : Part) (n : ℕ) → numbered_form command part (Number n) ≡ true → (is_get_line command ≡ true) × (is_told part ≡ true)
formed None part n form = absurd (true≢false (sym form))
formed (Some ChipInfo) part n form = absurd (true≢false (sym form))
formed (Some LineInfo) part n form = absurd (true≢false (sym form))
formed (Some Watch) part n form = absurd (true≢false (sym form))
formed (Some Unwatch) part n form = absurd (true≢false (sym form))
formed (Some GetLine) Whole n form = absurd (true≢false (sym form))
formed (Some GetLine) Ask n form = absurd (true≢false (sym form))
formed (Some GetLine) (Tell answer) n form = (refl, refl)
formed (Some SetConfig) Whole n form = absurd (true≢false (sym form))
formed (Some SetConfig) Ask n form = absurd (true≢false (sym form))
formed (Some SetConfig) (Tell answer) n form = absurd (true≢false (sym form))
formed (Some GetValues) Whole n form = absurd (true≢false (sym form))
formed (Some GetValues) Ask n form = absurd (true≢false (sym form))
formed (Some GetValues) (Tell answer) n form = absurd (true≢false (sym form))
formed (Some SetValues) Whole n form = absurd (true≢false (sym form))
formed (Some SetValues) Ask n form = absurd (true≢false (sym form))
formed (Some SetValues) (Tell answer) n form = absurd (true≢false (sym form))

-- a number comes of the tell of GET_LINE alone
number_of_tell : (place fd cmd len : ℕ) (bytes : List ℕ) (part : Part) (n : ℕ) → has_form (Ioctl place fd cmd len bytes part) (Number n) ≡ true → (is_get_line (command_of cmd) ≡ true) × (is_told part ≡ true)
number_of_tell place fd cmd len bytes part n form = formed (command_of cmd) part n form

pub in_form : (w : World) (by place fd cmd len : ℕ) (bytes : List ℕ) (part : Part) (n : ℕ) → (step w by (Ioctl place fd cmd len bytes part)).reply ≡ Number n → (is_get_line (command_of cmd) ≡ true) × (is_told part ≡ true)
in_form w by place fd cmd len bytes part n e =
    number_of_tell place fd cmd len bytes part n (subst (λ r. has_form (Ioctl place fd cmd len bytes part) r ≡ true) e (replies_have_form.form w by (Ioctl place fd cmd len bytes part)))

pub get_line_is : (command : Option Command) → is_get_line command ≡ true → command ≡ Some GetLine
get_line_is None e = absurd (true≢false (sym e))
get_line_is (Some ChipInfo) e = absurd (true≢false (sym e))
get_line_is (Some LineInfo) e = absurd (true≢false (sym e))
get_line_is (Some Watch) e = absurd (true≢false (sym e))
get_line_is (Some Unwatch) e = absurd (true≢false (sym e))
get_line_is (Some GetLine) e = refl
get_line_is (Some SetConfig) e = absurd (true≢false (sym e))
get_line_is (Some GetValues) e = absurd (true≢false (sym e))
get_line_is (Some SetValues) e = absurd (true≢false (sym e))

-- by the reply
pub small_if : (reply : Reply) → ((n : ℕ) → reply ≡ Number n → n < 2 ^ 32) → number_answered reply < 2 ^ 32
small_if Done h = omega arith
small_if (Number n) h = h n refl
small_if (Go n) h = omega arith
small_if (Found p o n) h = omega arith
small_if (Text t) h = omega arith
small_if (Ready b) h = omega arith
small_if (Refused errno) h = omega arith

pub command_number : (w : World) → HasBounds w → (by place fd cmd len : ℕ) (bytes : List ℕ) (part : Part) (n : ℕ) → (step w by (Ioctl place fd cmd len bytes part)).reply ≡ Number n → n < 2 ^ 32
command_number w bounds by place fd cmd len bytes Whole n e = absurd (true≢false (sym (in_form w by place fd cmd len bytes Whole n e).1))
command_number w bounds by place fd cmd len bytes Ask n e = absurd (true≢false (sym (in_form w by place fd cmd len bytes Ask n e).1))
command_number w bounds by place fd cmd len bytes (Tell answer) n e =
    let command : command_of cmd ≡ Some GetLine = get_line_is (command_of cmd) (in_form w by place fd cmd len bytes (Tell answer) n e).0 in
    let told : (by_number by place fd len (Some GetLine) bytes (Tell answer) w).reply ≡ Number n = subst (λ (o : Option Command). (by_number by place fd len o bytes (Tell answer) w).reply ≡ Number n) command e in
    subst (λ k. k < 2 ^ 32) (ap (λ r. number_answered r) told) (told_below w bounds place by answer len bytes (claim_at place (claim_by w.requests by)) refl)

-- the lines of a request

fault_first : (a b : Option Errno) → option_or a b ≡ None → a ≡ None
fault_first None b e = refl
fault_first (Some errno) b e = cc

when_none : (test : Bool) (rest : List (Option Errno)) → first_of (when test Inval ∷ rest) ≡ None → test ≡ false
when_none true rest e = cc
when_none false rest e = refl

neither : (a b : Bool) → (a || b) ≡ false → (a ≡ false) × (b ≡ false)
neither true b e = cc
neither false b e = (refl, e)

counted : (n : ℕ) → (n == 0) ≡ false → nat_lt 64 n ≡ false → IsLineCount n
counted n some few = (grind (arith, nat_tests, some), grind (arith, nat_tests, few))

pub lines_counted : (bytes : List ℕ) → request_fault bytes ≡ None → IsLineCount (lines_asked bytes).count
lines_counted bytes e =
    let none = fault_first (header_fault bytes) (config_fault (config_of bytes) (num_lines bytes)) e in
    let test = when_none ((num_lines bytes == 0) || nat_lt LINES_PER_REQUEST (num_lines bytes)) (when (not (is_zero_at REQUEST_PADDING REQUEST_PADDING_SIZE bytes)) Inval ∷ []) none in
    let tests = neither (num_lines bytes == 0) (nat_lt LINES_PER_REQUEST (num_lines bytes)) test in
    counted (num_lines bytes) tests.0 tests.1
