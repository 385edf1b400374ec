-- The numbers that calls are answered, in each world that a core stands for, and the lines of the requests that they are.
use Rattle.std.proofs.Common.{◌≡◌, ℕ, ◌<◌, ◌^◌, Bool, true, false, List, take, Option, None, Some, refl, sym, ap, ◌∙◌, subst, arith}
use Rattle.std.specs.Prelude.{if◌then◌else◌}
use Rattle.std.proofs.lemmas.Bool.{true≢false}
use Rattle.gl_base.specs.Lines.{IsLineCount}
use Rattle.gl_base.specs.declared.errno.Errno.{Errno}
use Rattle.gl_base.specs.declared.lines.Lines.{Lines}
use Rattle.gl_uapi.specs.Command.{command_of, size_of}
use Rattle.gl_uapi.specs.declared.commands.Command.{Command}
use Rattle.gl_uapi.specs.declared.layout.TheConstants.{LINE_REQUEST_SIZE}
use Rattle.gl_uapi.specs.declared.commands.Command.TheVariants.{GetLine}
use Rattle.gl_core.specs.Kept.{Kept, StandsFor}
use Rattle.gl_core.specs.WellKept.{IsWellKept}
use Rattle.gl_model.specs.AskedLines.{asked_in, asked_where, lines_asked, request_fault}
use Rattle.gl_model.specs.Claiming.{claim}
use Rattle.gl_model.specs.Chips.{phase_at}
use Rattle.gl_model.specs.Entries.{begins, is_get_line, is_go}
use Rattle.gl_model.specs.Fits.{FitsGift}
use Rattle.gl_model.specs.Ioctl.{act_on, by_number, checked}
use Rattle.gl_model.specs.OpenFiles.{command_refusal}
use Rattle.gl_model.specs.Outcome.{Outcome, refused_or}
use Rattle.gl_model.specs.Parts.{in_ask, in_tell, in_whole, is_driver_asked}
use Rattle.gl_model.specs.Step.{guard_reply, step}
use Rattle.gl_model.specs.World.{World}
use Rattle.gl_model.specs.Written.{number_answered}
use Rattle.gl_model.specs.declared.call.Call.{Call}
use Rattle.gl_model.specs.declared.call.Call.TheVariants.{Probe, Unplug, MakeDir, RemoveDir, Write, Read, Live, Remove, Tick, Pin, Irq, Pull, Level, Interrupt, OpenChip, Find, Ioctl, ReadEdges, ReadInfo, PollLine, PollChip, Close, Refused as RefusedCall}
use Rattle.gl_model.specs.declared.device_call.CommandIn.{CommandIn}
use Rattle.gl_model.specs.declared.device_call.DeviceCall.{DeviceCall}
use Rattle.gl_model.specs.declared.device_call.DeviceCall.TheVariants.{Once, Removing, Commanding}
use Rattle.gl_model.specs.declared.call.Part.{Part}
use Rattle.gl_model.specs.declared.call.Part.TheVariants.{Whole, Ask}
use Rattle.gl_model.specs.declared.gift.Gift.{Gift}
use Rattle.gl_model.specs.declared.reply.Reply.{Reply}
use Rattle.gl_model.specs.declared.reply.Reply.TheVariants.{Number}
use Rattle.gl_check.specs.One.{comes_to, goes_on, inside, is_gone, two}
use Rattle.gl_check.proofs.Numbers.{bounds_of, command_number, in_form, is_a_number, is_told, lines_counted, opens_a_number, opens_a_place, small_if}
use Rattle.gl_served.specs.Opening.{GivesLines, LinesBy, LinesFit, NumberFits, NumbersBy, lines_brought}

-- what a call is answered, whatever world the core stands for
pub number_fits : (k : Kept) (kept : IsWellKept k) (call : Call) (reply : Reply) → ((w : World) → StandsFor k w → reply ≡ (step w 0 call).reply) → NumberFits call reply
number_fits k kept (OpenChip word) reply told =
    let is = told kept.world kept.stands in
    (subst (λ r. number_answered r < 2 ^ 32) (sym is) (opens_a_number kept.world 0 word), λ fd e. opens_a_place kept.world 0 word fd (bounds_of k kept) (sym is ∙ e))
number_fits k kept (Ioctl place fd cmd len bytes part) reply told =
    let is = told kept.world kept.stands in
    small_if reply (λ n e. command_number kept.world (bounds_of k kept) 0 place fd cmd len bytes part n (sym is ∙ e))
number_fits k kept (Probe label lines kind) reply told = tt
number_fits k kept (Unplug place last) reply told = tt
number_fits k kept (MakeDir path) reply told = tt
number_fits k kept (RemoveDir path) reply told = tt
number_fits k kept (Write path value) reply told = tt
number_fits k kept (Read path) reply told = tt
number_fits k kept (Live device) reply told = tt
number_fits k kept (Remove device last) reply told = tt
number_fits k kept (Tick mono real) reply told = tt
number_fits k kept (Pin place what) reply told = tt
number_fits k kept (Irq place offset what) reply told = tt
number_fits k kept (Pull place offset up) reply told = tt
number_fits k kept (Level place offset pull) reply told = tt
number_fits k kept (Interrupt place offset up) reply told = tt
number_fits k kept (Find place name) reply told = tt
number_fits k kept (ReadEdges place fd len) reply told = tt
number_fits k kept (ReadInfo place fd len) reply told = tt
number_fits k kept (PollLine place fd) reply told = tt
number_fits k kept (PollChip place fd) reply told = tt
number_fits k kept (Close fd) reply told = tt
number_fits k kept (RefusedCall place poll) reply told = tt

-- what is recorded at a closed guard is no number
guard_small : (poll : Bool) → number_answered (guard_reply poll) < 2 ^ 32
guard_small true = omega arith
guard_small false = omega arith

guard_no_number : (poll : Bool) (n : ℕ) → guard_reply poll ≡ Number n → ⊥
guard_no_number true n e = true≢false (sym (ap is_a_number e))
guard_no_number false n e = true≢false (sym (ap is_a_number e))

any_number_fits : (call : Call) (reply : Reply) → number_answered reply < 2 ^ 32 → ((n : ℕ) → reply ≡ Number n → ⊥) → NumberFits call reply
any_number_fits (OpenChip word) reply small none = (small, λ fd e. absurd (none fd e))
any_number_fits (Ioctl place fd cmd len bytes part) reply small none = small
any_number_fits (Probe label lines kind) reply small none = tt
any_number_fits (Unplug place last) reply small none = tt
any_number_fits (MakeDir path) reply small none = tt
any_number_fits (RemoveDir path) reply small none = tt
any_number_fits (Write path value) reply small none = tt
any_number_fits (Read path) reply small none = tt
any_number_fits (Live device) reply small none = tt
any_number_fits (Remove device last) reply small none = tt
any_number_fits (Tick mono real) reply small none = tt
any_number_fits (Pin place what) reply small none = tt
any_number_fits (Irq place offset what) reply small none = tt
any_number_fits (Pull place offset up) reply small none = tt
any_number_fits (Level place offset pull) reply small none = tt
any_number_fits (Interrupt place offset up) reply small none = tt
any_number_fits (Find place name) reply small none = tt
any_number_fits (ReadEdges place fd len) reply small none = tt
any_number_fits (ReadInfo place fd len) reply small none = tt
any_number_fits (PollLine place fd) reply small none = tt
any_number_fits (PollChip place fd) reply small none = tt
any_number_fits (Close fd) reply small none = tt
any_number_fits (RefusedCall place poll) reply small none = tt

pub guard_numbers : (call : DeviceCall) (reply : Reply) (poll : Bool) → reply ≡ guard_reply poll → NumbersBy call reply
guard_numbers (Once call) reply poll is = any_number_fits call reply (subst (λ r. number_answered r < 2 ^ 32) (sym is) (guard_small poll)) (λ n e. guard_no_number poll n (sym is ∙ e))
guard_numbers (Removing removal) reply poll is = tt
guard_numbers (Commanding c) reply poll is = subst (λ r. number_answered r < 2 ^ 32) (sym is) (guard_small poll)

-- what is answered Go wasn't refused
go_unrefused : (refusal : Option Errno) (w : World) (out : Outcome) → is_go (refused_or refusal w out).reply ≡ true → (refusal ≡ None) × (is_go out.reply ≡ true)
go_unrefused None w out e = (refl, e)
go_unrefused (Some errno) w out e = absurd (true≢false (sym e))

go_by_number : (w : World) (place fd len : ℕ) (bytes : List ℕ) (command : Option Command) → command ≡ Some GetLine → is_go (by_number 0 place fd len command bytes Ask w).reply ≡ true → request_fault (take (size_of GetLine) bytes) ≡ None
go_by_number w place fd len bytes command is e =
    let go : is_go (checked 0 place fd len GetLine bytes Ask w).reply ≡ true = subst (λ (o : Option Command). is_go (by_number 0 place fd len o bytes Ask w).reply ≡ true) is e in
    let passed = go_unrefused (command_refusal place fd len GetLine Ask w) w (act_on 0 place fd GetLine (take (size_of GetLine) bytes) Ask w) go in
    (go_unrefused (request_fault (take (size_of GetLine) bytes)) w (claim place 0 (asked_in (take (size_of GetLine) bytes)) w) passed.1).0

module _ (w : World) (c : CommandIn) (answer : Option ℕ) (fd : ℕ) where
  abbrev Counted : Type 0
  Counted = IsLineCount (lines_asked (take LINE_REQUEST_SIZE c.bytes)).count

  abbrev asks : Call
  asks = in_ask c

  of_two : (goes : Bool) → goes ≡ is_go (step w 0 (in_ask c)).reply → command_of c.cmd ≡ Some GetLine → (if goes then step (step w 0 (in_ask c)).world 0 (in_tell answer c) else step w 0 (in_ask c)).reply ≡ Number fd → Counted
  of_two true goes command e = lines_counted (take LINE_REQUEST_SIZE c.bytes) (go_by_number w c.place c.fd c.len c.bytes (command_of c.cmd) command (sym goes))
  of_two false goes command e = absurd (true≢false (sym (in_form w 0 c.place c.fd c.cmd c.len c.bytes Ask fd e).1))

  of_inside : (driven : Bool) → command_of c.cmd ≡ Some GetLine → (if driven then two w (in_ask c) (in_tell answer c) else step w 0 (in_whole c)).reply ≡ Number fd → Counted
  of_inside true command e = of_two (goes_on w (in_ask c)) refl command e
  of_inside false command e = absurd (true≢false (sym (in_form w 0 c.place c.fd c.cmd c.len c.bytes Whole fd e).1))

  of_guard : (gone : Bool) → command_of c.cmd ≡ Some GetLine → (if gone then step w 0 (RefusedCall c.place false) else inside w (Commanding c) answer).reply ≡ Number fd → Counted
  of_guard true command e = absurd (guard_no_number false fd e)
  of_guard false command e = of_inside (is_driver_asked c.of_chip c.len (command_of c.cmd)) command e

-- the lines that an ask brings are those that its structure names, where nothing is wrong with the bytes
faultless_lines : (fault : Option Errno) (bytes : List ℕ) → fault ≡ None → lines_brought (Some (asked_where fault bytes)) ≡ Some (lines_asked bytes)
faultless_lines None bytes e = refl
faultless_lines (Some errno) bytes e = cc

no_number : (w : World) (place fd cmd len : ℕ) (bytes : List ℕ) (part : Part) (n : ℕ) → is_told part ≡ false → (step w 0 (Ioctl place fd cmd len bytes part)).reply ≡ Number n → ⊥
no_number w place fd cmd len bytes part n early e = true≢false (sym (in_form w 0 place fd cmd len bytes part n e).1 ∙ early)

pub lines_fit : (k : Kept) (kept : IsWellKept k) (call : Call) (gift : Gift) (lines : Option Lines) (reply : Reply)
    → FitsGift call gift → lines ≡ lines_brought gift.asked → ((w : World) → StandsFor k w → reply ≡ (step w 0 call).reply) → LinesFit call reply lines
lines_fit k kept (Ioctl place fd cmd len bytes Whole) gift lines reply brings is told = λ n e. no_number kept.world place fd cmd len bytes Whole n refl (sym (told kept.world kept.stands) ∙ e)
lines_fit k kept (Ioctl place fd cmd len bytes Ask) gift lines reply brings is told = (
  λ n e. no_number kept.world place fd cmd len bytes Ask n refl (sym (told kept.world kept.stands) ∙ e),
  λ command goes.
      let named : List ℕ = take LINE_REQUEST_SIZE bytes in
      let none = go_by_number kept.world place fd len bytes (command_of cmd) command (subst (λ r. is_go r ≡ true) (told kept.world kept.stands) goes) in
      is ∙ (ap lines_brought (brings (ap is_get_line command)).asked ∙ faultless_lines (request_fault named) named none),
)
lines_fit k kept _ gift lines reply brings is told = tt

-- the lines of a command are those of its ask; none are a request's where it has no tell
pub asked_lines : (c : CommandIn) (ask : Call) (reply : Reply) (lines : Option Lines) → ask ≡ in_ask c → LinesFit ask reply lines → GivesLines (Commanding c) reply lines
asked_lines c ask reply lines is fits = λ command n e. absurd ((subst (λ (call : Call). LinesFit call reply lines) is fits).0 n e)

pub told_lines : (c : CommandIn) (ask : Call) (asked told : Reply) (lines : Option Lines) → ask ≡ in_ask c → LinesFit ask asked lines → begins ask asked ≡ true → GivesLines (Commanding c) told lines
told_lines c ask asked told lines is fits goes = λ command n e. (subst (λ (call : Call). LinesFit call asked lines) is fits).1 command (subst (λ (call : Call). begins call asked ≡ true) is goes)

pub whole_lines : (c : CommandIn) (whole : Call) (reply : Reply) (lines : Option Lines) → whole ≡ in_whole c → LinesFit whole reply lines → GivesLines (Commanding c) reply lines
whole_lines c whole reply lines is fits = λ command n e. absurd (subst (λ (call : Call). LinesFit call reply lines) is fits n e)

pub guard_lines : (call : DeviceCall) (reply : Reply) (poll : Bool) (lines : Option Lines) → reply ≡ guard_reply poll → GivesLines call reply lines
guard_lines (Once call) reply poll lines is = tt
guard_lines (Removing removal) reply poll lines is = tt
guard_lines (Commanding c) reply poll lines is = λ command n e. absurd (guard_no_number poll n (sym is ∙ e))

pub lines_by : (w : World) (call : DeviceCall) (answer : Option ℕ) (reply : Reply) → reply ≡ (comes_to w call answer).reply → LinesBy call reply
lines_by w (Once call) answer reply is = tt
lines_by w (Removing removal) answer reply is = tt
lines_by w (Commanding c) answer reply is = λ command fd e. of_guard w c answer fd (is_gone (phase_at w c.place)) command (sym is ∙ e)
