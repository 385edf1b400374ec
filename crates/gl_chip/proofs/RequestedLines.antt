-- GET_LINE: what its bytes say, and the number that it is answered.
use Rattle.std.proofs.Common.{◌≡◌, ℕ, ◌<◌, ◌^◌, List, [], ◌∷◌, ◌++◌, map, take, sym, refl, ap, ◌∙◌, subst, arith, Bool, true, false, Option, Some, None}
use Rattle.std.specs.Prelude.{IfSome, nat_le}
use Rattle.std.specs.Option.{option_and_then}
use Rattle.std.proofs.lemmas.Bool.{true≢false}
use Rattle.gl_attrs.specs.Setting.{resolved_for}
use Rattle.gl_base.proofs.FirstRows.{Each-find}
use Rattle.gl_base.specs.Lines.{IsLineCount}
use Rattle.gl_base.specs.Rows.{Each}
use Rattle.gl_base.specs.declared.errno.Errno.{Errno}
use Rattle.gl_base.specs.declared.lines.Lines.{Lines}
use Rattle.gl_driver.specs.Calls.{FitsOp}
use Rattle.gl_base.specs.declared.op.Op.{Op}
use Rattle.gl_base.specs.declared.op.Op.TheVariants.{Apply}
use Rattle.gl_base.specs.declared.settings.Resolved.{Resolved}
use Rattle.gl_uapi.specs.Command.{command_of, size_of}
use Rattle.gl_uapi.specs.declared.commands.Command.{Command}
use Rattle.gl_uapi.specs.declared.commands.Command.TheVariants.{ChipInfo, LineInfo, Watch, Unwatch, GetLine, SetConfig, GetValues, SetValues}
use Rattle.gl_uapi.specs.declared.layout.TheConstants.{LINE_CONFIG_SIZE, LINE_REQUEST_SIZE}
use Rattle.gl_watch.specs.declared.file.ChipFile.{ChipFile}
use Rattle.gl_model.specs.declared.call.Call.TheVariants.{Ioctl}
use Rattle.gl_model.specs.declared.call.Part.TheVariants.{Whole, Ask, Tell}
use Rattle.gl_model.specs.declared.gift.Gift.{Gift}
use Rattle.gl_model.specs.declared.reply.Reply.{Reply}
use Rattle.gl_model.specs.declared.reply.Reply.TheVariants.{Done, Number, Go, Found, Text, Ready, Refused}
use Rattle.gl_model.specs.AskedLines.{asked_in, asked_where, lines_asked, request_fault}
use Rattle.gl_model.specs.Bounds.{HasBounds}
use Rattle.gl_model.specs.Claiming.{claim, claim_at, claim_by, claim_number, told_claim}
use Rattle.gl_model.specs.Entries.{is_go}
use Rattle.gl_model.specs.Fits.{HoldsRequest}
use Rattle.gl_model.specs.Ioctl.{act_on, by_number, checked}
use Rattle.gl_model.specs.Machine.{reply_of}
use Rattle.gl_model.specs.OpenFiles.{command_refusal}
use Rattle.gl_model.specs.Outcome.{Outcome, refused_or}
use Rattle.gl_model.specs.Parts.{in_ask, is_driver_asked}
use Rattle.gl_model.specs.declared.device_call.CommandIn.{CommandIn}
use Rattle.gl_model.specs.Replies.{numbered_form}
use Rattle.gl_model.specs.World.{World, Request, has_number, request_at}
use Rattle.gl_model.specs.Written.{number_answered}
use Rattle.gl_model.proofs.Requests.{claim_by_any}
use Rattle.gl_chip.specs.DriverCommands.{IsOp, IsOpAfterGo, TakesMemory, lines_for, op_brought}
use Rattle.gl_asking.specs.Driving.{op_for, op_of, op_requested}

abbrev is_request : Option Request → Bool
is_request (Some request) = true
is_request None = false

-- of the commands on a chip file the driver is asked for GET_LINE alone
pub only_get_line : (len : ℕ) (command : Option Command) → is_driver_asked true len command ≡ true → command ≡ Some GetLine
only_get_line len None e = absurd (true≢false (sym e))
only_get_line len (Some ChipInfo) e = absurd (true≢false (sym e))
only_get_line len (Some LineInfo) e = absurd (true≢false (sym e))
only_get_line len (Some Watch) e = absurd (true≢false (sym e))
only_get_line len (Some Unwatch) e = absurd (true≢false (sym e))
only_get_line len (Some GetLine) e = refl
only_get_line len (Some SetConfig) e = absurd (true≢false (sym e))
only_get_line len (Some GetValues) e = absurd (true≢false (sym e))
only_get_line len (Some SetValues) e = absurd (true≢false (sym e))

pub gets_line : (c : CommandIn) → c.of_chip ≡ true → is_driver_asked c.of_chip c.len (command_of c.cmd) ≡ true → command_of c.cmd ≡ Some GetLine
gets_line c chip asks = only_get_line c.len (command_of c.cmd) (subst (λ (b : Bool). is_driver_asked b c.len (command_of c.cmd) ≡ true) chip asks)

-- what is answered Go wasn't refused
go_unrefused : (refusal : Option Errno) (w : World) (out : Outcome) (n : ℕ) → (refused_or refusal w out).reply ≡ Go n → (refusal ≡ None) × (out.reply ≡ Go n)
go_unrefused None w out n e = (refl, e)
go_unrefused (Some errno) w out n e = absurd (true≢false (sym (ap is_go e)))

go_by_number : (w : World) (actor place fd len n : ℕ) (bytes : List ℕ) (command : Option Command) → command ≡ Some GetLine → (by_number actor place fd len command bytes Ask w).reply ≡ Go n → request_fault (take (size_of GetLine) bytes) ≡ None
go_by_number w actor place fd len n bytes command is e =
    let go : (checked actor place fd len GetLine bytes Ask w).reply ≡ Go n = subst (λ (o : Option Command). (by_number actor place fd len o bytes Ask w).reply ≡ Go n) is e in
    let passed = go_unrefused (command_refusal place fd len GetLine Ask w) w (act_on actor place fd GetLine (take (size_of GetLine) bytes) Ask w) n go in
    (go_unrefused (request_fault (take (size_of GetLine) bytes)) w (claim place actor (asked_in (take (size_of GetLine) bytes)) w) n passed.1).0

-- a request that is answered Go has no fault by its bytes alone
pub go_has_no_fault : (w : World) (actor n place fd cmd len : ℕ) (bytes : List ℕ) → command_of cmd ≡ Some GetLine → reply_of w actor (Ioctl place fd cmd len bytes Ask) ≡ Go n → request_fault (take (size_of GetLine) bytes) ≡ None
go_has_no_fault w actor n place fd cmd len bytes is e = go_by_number w actor place fd len n bytes (command_of cmd) is e

-- there is an operation then
pub op_after_go : (fault : Option Errno) (bytes : List ℕ) (op : Option Op) → op ≡ op_requested fault bytes → IfSome op (λ o. FitsOp o) → fault ≡ None → IsOp op
op_after_go fault bytes op is fits none = let there = is ∙ ap (λ (f : Option Errno). op_requested f bytes) none in
    subst (λ (o : Option Op). IsOp o) (sym there) (subst (λ (o : Option Op). IfSome o (λ x. FitsOp x)) there fits)

-- numbers

each_first : {X : Type 0} (P : X → Type 0) (xs ys : List X) → Each P (xs ++ ys) → Each P xs
each_first P [] ys h = tt
each_first P (x ∷ xs) ys h = (h.0, each_first P xs ys h.1)

each_mapped : (P : ℕ → Type 0) (rows : List Request) → Each P (map (λ (r : Request). r.fd) rows) → Each (λ (r : Request). P r.fd) rows
each_mapped P [] h = tt
each_mapped P (r ∷ rows) h = (h.0, each_mapped P rows h.1)

request_below : (w : World) → HasBounds w → (fd : ℕ) (request : Request) → request_at w.requests fd ≡ Some request → request.fd < 2 ^ 31
request_below w bounds fd request at = Each-find (λ (r : Request). r.fd < 2 ^ 31) (has_number fd) w.requests request
    (each_mapped (λ n. n < 2 ^ 31) w.requests (each_first (λ n. n < 2 ^ 31) (map (λ (r : Request). r.fd) w.requests) (map (λ (f : ChipFile). f.fd) w.files) bounds.numbers)) at

claim_below : (w : World) → HasBounds w → (number : Option ℕ) (request : Request) → option_and_then (request_at w.requests) number ≡ Some request → request.fd < 2 ^ 31
claim_below w bounds None request e = absurd (true≢false (sym (ap is_request e)))
claim_below w bounds (Some fd) request e = request_below w bounds fd request e

told_below : (w : World) → HasBounds w → (place actor : ℕ) (answer : Option ℕ) (len : ℕ) (bytes : List ℕ) (found : Option Request) → claim_at place (claim_by w.requests actor) ≡ found → number_answered (told_claim answer len bytes found w).reply < 2 ^ 31
told_below w bounds place actor None len bytes None e = omega arith
told_below w bounds place actor (Some bits) len bytes None e = omega arith
told_below w bounds place actor None len bytes (Some request) e = omega arith
told_below w bounds place actor (Some bits) len bytes (Some request) e =
    claim_below w bounds (claim_number w.requests actor) request (claim_by_any place (claim_by w.requests actor) request e)

-- the number that a tell is answered is below 2^31
pub told_number : (w : World) → HasBounds w → (actor place fd len : ℕ) (bytes : List ℕ) (answer : Option ℕ) (command : Option Command) (n : ℕ) → (by_number actor place fd len command bytes (Tell answer) w).reply ≡ Number n
    → numbered_form command (Tell answer) (Number n) ≡ true → n < 2 ^ 31
told_number w bounds actor place fd len bytes answer None n e form = absurd (true≢false (sym form))
told_number w bounds actor place fd len bytes answer (Some ChipInfo) n e form = absurd (true≢false (sym form))
told_number w bounds actor place fd len bytes answer (Some LineInfo) n e form = absurd (true≢false (sym form))
told_number w bounds actor place fd len bytes answer (Some Watch) n e form = absurd (true≢false (sym form))
told_number w bounds actor place fd len bytes answer (Some Unwatch) n e form = absurd (true≢false (sym form))
told_number w bounds actor place fd len bytes answer (Some GetLine) n e form =
    subst (λ k. k < 2 ^ 31) (ap (λ r. number_answered r) e) (told_below w bounds place actor answer len bytes (claim_at place (claim_by w.requests actor)) refl)
told_number w bounds actor place fd len bytes answer (Some SetConfig) n e form = absurd (true≢false (sym form))
told_number w bounds actor place fd len bytes answer (Some GetValues) n e form = absurd (true≢false (sym form))
told_number w bounds actor place fd len bytes answer (Some SetValues) n e form = absurd (true≢false (sym form))

-- no ask is answered a number, and no whole command
pub ask_no_number : (command : Option Command) (n : ℕ) → numbered_form command Ask (Number n) ≡ true → ⊥
ask_no_number None n form = true≢false (sym form)
ask_no_number (Some ChipInfo) n form = true≢false (sym form)
ask_no_number (Some LineInfo) n form = true≢false (sym form)
ask_no_number (Some Watch) n form = true≢false (sym form)
ask_no_number (Some Unwatch) n form = true≢false (sym form)
ask_no_number (Some GetLine) n form = true≢false (sym form)
ask_no_number (Some SetConfig) n form = true≢false (sym form)
ask_no_number (Some GetValues) n form = true≢false (sym form)
ask_no_number (Some SetValues) n form = true≢false (sym form)

pub whole_no_number : (command : Option Command) (n : ℕ) → numbered_form command Whole (Number n) ≡ true → ⊥
whole_no_number None n form = true≢false (sym form)
whole_no_number (Some ChipInfo) n form = true≢false (sym form)
whole_no_number (Some LineInfo) n form = true≢false (sym form)
whole_no_number (Some Watch) n form = true≢false (sym form)
whole_no_number (Some Unwatch) n form = true≢false (sym form)
whole_no_number (Some GetLine) n form = true≢false (sym form)
whole_no_number (Some SetConfig) n form = true≢false (sym form)
whole_no_number (Some GetValues) n form = true≢false (sym form)
whole_no_number (Some SetValues) n form = true≢false (sym form)

-- a number in a reply, where all numbers that it may have are below this one
pub number_below : (reply : Reply) (X : Type 0) → ((n : ℕ) → reply ≡ Number n → (n < 2 ^ 31) × X) → number_answered reply < 2 ^ 32
number_below Done X h = omega arith
number_below (Number n) X h = let below = (h n refl).0 in omega arith
number_below (Go n) X h = omega arith
number_below (Found p o n) X h = omega arith
number_below (Text t) X h = omega arith
number_below (Ready b) X h = omega arith
number_below (Refused errno) X h = omega arith

-- what the driver is asked for is what the bytes ask for
op_by_fault : (fault : Option Errno) (bytes : List ℕ) → op_brought (Some (asked_where fault bytes)) ≡ op_requested fault bytes
op_by_fault None bytes = refl
op_by_fault (Some errno) bytes = refl

pub op_is_requested : (bytes : List ℕ) (gift : Gift) (op : Option Op) → op ≡ op_brought gift.asked → HoldsRequest bytes gift → op ≡ op_requested (request_fault bytes) bytes
op_is_requested bytes gift op is holds = is ∙ (ap op_brought holds.asked ∙ op_by_fault (request_fault bytes) bytes)

-- the driver is asked what the bytes of the command ask for
abbrev pub AsksByBytes : CommandIn → Option Op → Type 0
AsksByBytes c op = op ≡ op_requested (request_fault (take LINE_REQUEST_SIZE c.bytes)) (take LINE_REQUEST_SIZE c.bytes)

-- so of GET_LINE
pub op_is_for : (lines : Lines) (c : CommandIn) (op : Option Op) → command_of c.cmd ≡ Some GetLine → AsksByBytes c op → op ≡ op_for lines c
op_is_for lines c op is asked = asked ∙ ap (λ (o : Option Command). op_of lines o c.bytes) (sym is)

-- after Go it is one, on 1 to 64 lines
pub op_goes : (c : CommandIn) (op : Option Op) → command_of c.cmd ≡ Some GetLine → AsksByBytes c op → IfSome op (λ o. FitsOp o) → IsOpAfterGo (in_ask c) op
op_goes c op is asked fits w actor n e =
    op_after_go (request_fault (take LINE_REQUEST_SIZE c.bytes)) (take LINE_REQUEST_SIZE c.bytes) op asked fits (go_has_no_fault w actor n c.place c.fd c.cmd c.len c.bytes is e)

-- and the lines that it is asked for are those that the bytes name
lines_by_fault : (fault : Option Errno) (bytes : List ℕ) (op : Option Op) → op ≡ op_requested fault bytes → IsOp op → lines_for op ≡ Some (lines_asked bytes)
lines_by_fault None bytes op is there = ap lines_for is
lines_by_fault (Some errno) bytes op is there = absurd (subst (λ (o : Option Op). IsOp o) is there)

pub lines_are_named : (c : CommandIn) (op : Option Op) → AsksByBytes c op → IsOp op → lines_for op ≡ Some (lines_asked (take LINE_REQUEST_SIZE c.bytes))
lines_are_named c op asked there = lines_by_fault (request_fault (take LINE_REQUEST_SIZE c.bytes)) (take LINE_REQUEST_SIZE c.bytes) op asked there

-- memory was wanted for it
pub takes_memory : (c : CommandIn) → c.of_chip ≡ true → is_driver_asked c.of_chip c.len (command_of c.cmd) ≡ true → request_fault (take LINE_REQUEST_SIZE c.bytes) ≡ None → TakesMemory c
takes_memory c chip asks faultless = (asks, gets_line c chip asks, faultless)

-- SET_CONFIG on a request with these lines applies to them what its bytes give them
pub config_op : (lines : Lines) (command : Command) (len : ℕ) (bytes view : List ℕ) (settings : Resolved) → command ≡ SetConfig → nat_le (size_of command) len ≡ true → view ≡ take LINE_CONFIG_SIZE bytes → settings ≡ resolved_for view lines.count → IsLineCount lines.count
    → (is_driver_asked false len (Some command) ≡ true) × (op_of lines (Some command) bytes ≡ Some (Apply lines settings)) × FitsOp (Apply lines settings)
config_op lines command len bytes view settings is long first are few =
    subst (λ k. (is_driver_asked false len (Some k) ≡ true) × (op_of lines (Some k) bytes ≡ Some (Apply lines settings)) × FitsOp (Apply lines settings)) (sym is) (
      subst (λ k. nat_le (size_of k) len ≡ true) is long,
      ap (λ s. Some (Apply lines s)) (ap (λ v. resolved_for v lines.count) (sym first) ∙ sym are),
      (few, ap (λ s. s.count) are),
    )
