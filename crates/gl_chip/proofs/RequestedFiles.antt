-- Where a command on a chip gives a file: its reply is a number exactly where it is GET_LINE and wasn't refused.
use Rattle.std.proofs.Common.{◌≡◌, ℕ, List, [], ◌∷◌, sym, refl, ap, ◌∙◌, subst, Bool, true, false, Option, Some, None, Result, IfOk, ◌⊎◌, inl, inr}
use Rattle.std.specs.Prelude.{is_some}
use Rattle.std.proofs.lemmas.Bool.{true≢false}
use Rattle.gl_base.specs.Refusals.{first_of, when}
use Rattle.gl_base.specs.declared.errno.Errno.{Errno}
use Rattle.gl_base.specs.declared.errno.Errno.TheVariants.{Fault, Inval}
use Rattle.gl_base.specs.declared.lines.Lines.{Lines}
use Rattle.gl_uapi.specs.Command.{command_of}
use Rattle.gl_uapi.specs.declared.commands.Command.{Command}
use Rattle.gl_uapi.specs.declared.commands.Command.TheVariants.{ChipInfo, LineInfo, Watch, Unwatch, GetLine, SetConfig, GetValues, SetValues}
use Rattle.gl_world.specs.Deeds.{entries_in}
use Rattle.gl_world.specs.History.{entry, fold}
use Rattle.gl_core.specs.Kept.{Kept}
use Rattle.gl_model.specs.declared.call.Call.TheVariants.{Ioctl, Refused as RefusedCall}
use Rattle.gl_model.specs.declared.call.Part.{Part}
use Rattle.gl_model.specs.declared.call.Part.TheVariants.{Whole, Ask, Tell}
use Rattle.gl_model.specs.declared.reply.Reply.{Reply}
use Rattle.gl_model.specs.declared.reply.Reply.TheVariants.{Done, Number, Go, Found, Text, Ready, Refused}
use Rattle.gl_model.specs.Entries.{is_ask, is_done, is_get_line, is_go}
use Rattle.gl_model.specs.Ioctl.{by_number}
use Rattle.gl_model.specs.OpenFiles.{kind_refusal}
use Rattle.gl_model.specs.Outcome.{Outcome, refused_or}
use Rattle.gl_model.specs.declared.device_call.CommandIn.{CommandIn}
use Rattle.gl_model.specs.declared.device_call.DeviceCall.TheVariants.{Commanding}
use Rattle.gl_model.specs.Parts.{MakesAt, MakesCommand, MakesRest, guard_of, in_ask, in_tell, in_whole, is_driver_asked}
use Rattle.gl_model.specs.Replies.{has_form, is_go_below, is_number, numbered_form}
use Rattle.gl_model.specs.Step.{guard_reply}
use Rattle.gl_model.specs.World.{World}
use Rattle.gl_model.proofs.Replies.{replies_have_form}
use Rattle.gl_chip.specs.Called.{HasCalled, last_entry}
use Rattle.gl_chip.specs.DriverCommands.{requested_of}
use Rattle.gl_chip.specs.Files.{LineFile}
use Rattle.gl_core.specs.Device.{OneEntry, core}
use Rattle.gl_chip.specs.Values.{OneView}
use Rattle.gl_chip.proofs.CommandCalls.{last_entry_on}
use Rattle.gl_chip.proofs.CommandResults.{called_last, entry_or}

abbrev is_refused : Reply → Bool
is_refused (Refused errno) = true
is_refused _ = false

-- the reply is a refusal, or a number exactly where the command is GET_LINE
abbrev IsTold : Reply → Option Command → Type 0
IsTold reply command = (is_refused reply ≡ true) ⊎ (is_number reply ≡ is_get_line command)

third_refuses : (a : Option Errno) (b : Bool) (w : World) (out : Outcome) → is_refused (refused_or (first_of (a ∷ when b Fault ∷ when true Inval ∷ [])) w out).reply ≡ true
third_refuses (Some errno) b w out = refl
third_refuses None true w out = refl
third_refuses None false w out = refl

-- GET_LINE isn't whole: as a whole it is refused
whole_refused : (w : World) (actor place fd len : ℕ) (bytes : List ℕ) (command : Option Command) → command ≡ Some GetLine → is_refused (by_number actor place fd len command bytes Whole w).reply ≡ true
whole_refused w actor place fd len bytes command is = subst (λ (o : Option Command). is_refused (by_number actor place fd len o bytes Whole w).reply ≡ true) (sym is)
    (third_refuses (kind_refusal place fd true w) _ w _)

done_no_number : (reply : Reply) → is_done reply ≡ true → is_number reply ≡ false
done_no_number Done d = refl
done_no_number (Number n) d = absurd (true≢false (sym d))
done_no_number (Go n) d = refl
done_no_number (Found p o n) d = refl
done_no_number (Text t) d = refl
done_no_number (Ready b) d = refl
done_no_number (Refused errno) d = refl

pub below_is_go : (k : ℕ) (reply : Reply) → is_go_below k reply ≡ true → is_go reply ≡ true
below_is_go k Done d = absurd (true≢false (sym d))
below_is_go k (Number n) d = absurd (true≢false (sym d))
below_is_go k (Go n) d = refl
below_is_go k (Found p o n) d = absurd (true≢false (sym d))
below_is_go k (Text t) d = absurd (true≢false (sym d))
below_is_go k (Ready b) d = absurd (true≢false (sym d))
below_is_go k (Refused errno) d = absurd (true≢false (sym d))

-- a reply of this form, that is neither Go of an ask nor that of a whole GET_LINE
by_form : (command : Option Command) (part : Part) (reply : Reply) → numbered_form command part reply ≡ true → (part ≡ Ask → is_go reply ≡ false) → (command ≡ Some GetLine → part ≡ Whole → is_refused reply ≡ true) → IsTold reply command
by_form None part reply form ask whole = absurd (true≢false (sym form))
by_form (Some ChipInfo) part reply form ask whole = inr (done_no_number reply form)
by_form (Some LineInfo) part reply form ask whole = inr (done_no_number reply form)
by_form (Some Watch) part reply form ask whole = inr (done_no_number reply form)
by_form (Some Unwatch) part reply form ask whole = inr (done_no_number reply form)
by_form (Some GetLine) Whole reply form ask whole = inl (whole refl refl)
by_form (Some GetLine) Ask reply form ask whole = absurd (true≢false (sym (below_is_go _ reply form) ∙ ask refl))
by_form (Some GetLine) (Tell answer) reply form ask whole = inr form
by_form (Some SetConfig) Whole reply form ask whole = inr (done_no_number reply form)
by_form (Some SetConfig) Ask reply form ask whole = absurd (true≢false (sym (below_is_go _ reply form) ∙ ask refl))
by_form (Some SetConfig) (Tell answer) reply form ask whole = inr (done_no_number reply form)
by_form (Some GetValues) Whole reply form ask whole = inr (done_no_number reply form)
by_form (Some GetValues) Ask reply form ask whole = absurd (true≢false (sym (below_is_go _ reply form) ∙ ask refl))
by_form (Some GetValues) (Tell answer) reply form ask whole = inr (done_no_number reply form)
by_form (Some SetValues) Whole reply form ask whole = inr (done_no_number reply form)
by_form (Some SetValues) Ask reply form ask whole = absurd (true≢false (sym (below_is_go _ reply form) ∙ ask refl))
by_form (Some SetValues) (Tell answer) reply form ask whole = inr (done_no_number reply form)

by_reply : (place fd cmd len : ℕ) (bytes : List ℕ) (part : Part) (reply : Reply) → has_form (Ioctl place fd cmd len bytes part) reply ≡ true → (part ≡ Ask → is_go reply ≡ false) → (command_of cmd ≡ Some GetLine → part ≡ Whole → is_refused reply ≡ true)
    → IsTold reply (command_of cmd)
by_reply place fd cmd len bytes part Done form ask whole = by_form (command_of cmd) part Done form ask whole
by_reply place fd cmd len bytes part (Number n) form ask whole = by_form (command_of cmd) part (Number n) form ask whole
by_reply place fd cmd len bytes part (Go n) form ask whole = by_form (command_of cmd) part (Go n) form ask whole
by_reply place fd cmd len bytes part (Found p o n) form ask whole = by_form (command_of cmd) part (Found p o n) form ask whole
by_reply place fd cmd len bytes part (Text t) form ask whole = by_form (command_of cmd) part (Text t) form ask whole
by_reply place fd cmd len bytes part (Ready b) form ask whole = by_form (command_of cmd) part (Ready b) form ask whole
by_reply place fd cmd len bytes part (Refused errno) form ask whole = inl refl

-- what a command is told in one of its parts, where it isn't the Go of an ask
told_in : (w : World) (n : ℕ) (place fd cmd len : ℕ) (bytes : List ℕ) (part : Part) (reply : Reply) → reply ≡ core.reply_of w n (Ioctl place fd cmd len bytes part) → (part ≡ Ask → is_go reply ≡ false) → IsTold reply (command_of cmd)
told_in w n place fd cmd len bytes part reply replied ask =
    by_reply place fd cmd len bytes part reply (subst (λ r. has_form (Ioctl place fd cmd len bytes part) r ≡ true) (sym replied) (replies_have_form.form w n (Ioctl place fd cmd len bytes part))) ask
    (λ is whole. subst (λ r. is_refused r ≡ true) (sym (replied ∙ ap (λ (p : Part). core.reply_of w n (Ioctl place fd cmd len bytes p)) whole)) (whole_refused w n place fd len bytes (command_of cmd) is))

whole_no_ask : Whole ≡ Ask → ⊥
whole_no_ask e = true≢false (sym (ap is_ask e))

tell_no_ask : (answer : Option ℕ) → Tell answer ≡ Ask → ⊥
tell_no_ask answer e = true≢false (sym (ap is_ask e))

-- the last of the two entries of a command, by whether its ask was answered Go
told_two : (n : ℕ) (c : CommandIn) (answer : Option ℕ) (own made rest : List OneEntry) (first : Reply) (w : World) (last : OneEntry) → made ≡ entry n (in_ask c) first ∷ rest
    → (go : Bool) → is_go first ≡ go → MakesRest {M = Kept} n go (in_tell answer c) own rest → last_entry made ≡ Some last → last.reply ≡ core.reply_of w last.actor last.call → IsTold last.reply (command_of c.cmd)
told_two n c answer own made rest first w last is false go makes is_last replied =
    let e : OneEntry = entry n (in_ask c) first in
    let same : e ≡ last = ap (entry_or e) (sym (ap last_entry (is ∙ ap (λ (l : List OneEntry). e ∷ l) makes.0)) ∙ is_last) in
    subst (λ (x : OneEntry). IsTold x.reply (command_of c.cmd)) same (told_in w n c.place c.fd c.cmd c.len c.bytes Ask first (subst (λ (x : OneEntry). x.reply ≡ core.reply_of w x.actor x.call) (sym same) replied) (λ _. go))
told_two n c answer own made rest first w last is true go makes is_last replied =
    let e : OneEntry = entry n (in_tell answer c) makes.0 in
    let same : e ≡ last = ap (entry_or e) (sym (ap last_entry (is ∙ ap (λ (l : List OneEntry). entry n (in_ask c) first ∷ l) makes.1) ∙ last_entry_on (entry n (in_ask c) first) own e) ∙ is_last) in
    subst (λ (x : OneEntry). IsTold x.reply (command_of c.cmd)) same
    (told_in w n c.place c.fd c.cmd c.len c.bytes (Tell answer) makes.0 (subst (λ (x : OneEntry). x.reply ≡ core.reply_of w x.actor x.call) (sym same) replied) (λ ask. absurd (tell_no_ask answer ask)))

told_inside : (n : ℕ) (asked : Bool) (c : CommandIn) (answer : Option ℕ) (own made : List OneEntry) (w : World) (last : OneEntry) → MakesCommand {M = Kept} n asked answer c own made → last_entry made ≡ Some last → last.reply ≡ core.reply_of w last.actor last.call
    → IsTold last.reply (command_of c.cmd)
told_inside n true c answer own made w last makes is_last replied = told_two n c answer own made makes.1 makes.0 w last makes.2 (is_go makes.0) refl makes.3 is_last replied
told_inside n false c answer own made w last makes is_last replied =
    let e : OneEntry = entry n (in_whole c) makes.0.0 in
    let same : e ≡ last = ap (entry_or e) (sym (ap last_entry makes.0.1) ∙ is_last) in
    subst (λ (x : OneEntry). IsTold x.reply (command_of c.cmd)) same
    (told_in w n c.place c.fd c.cmd c.len c.bytes Whole makes.0.0 (subst (λ (x : OneEntry). x.reply ≡ core.reply_of w x.actor x.call) (sym same) replied) (λ ask. absurd (whole_no_ask ask)))

told_at : (n : ℕ) (closed : Bool) (c : CommandIn) (answer : Option ℕ) (own made : List OneEntry) (w : World) (last : OneEntry) → MakesAt {M = Kept} n (guard_of (Commanding c)) closed (Commanding c) answer own made → last_entry made ≡ Some last
    → last.reply ≡ core.reply_of w last.actor last.call → IsTold last.reply (command_of c.cmd)
told_at n true c answer own made w last makes is_last replied =
    let e : OneEntry = entry n (RefusedCall c.place false) (guard_reply false) in
    let same : e ≡ last = ap (entry_or e) (sym (ap last_entry makes.0) ∙ is_last) in subst (λ (x : OneEntry). IsTold x.reply (command_of c.cmd)) same (inl refl)
told_at n false c answer own made w last makes is_last replied = told_inside n (is_driver_asked c.of_chip c.len (command_of c.cmd)) c answer own made w last makes is_last replied

told_called : (limit : ℕ) (v w : OneView) (c : CommandIn) (reply : Reply) (bytes : List ℕ) → HasCalled limit v (Commanding c) reply bytes w → IsTold reply (command_of c.cmd)
told_called limit v w c reply bytes called = let h = called_last limit v w c reply bytes called in
    subst (λ r. IsTold r (command_of c.cmd)) h.1 (told_at v.number called.closed c called.answer called.own (entries_in called.did) (fold core called.last.at.0) called.last.last called.makes.1 called.last.is_last h.0)

by_told : (place : ℕ) (lines : Lines) (command : Option Command) (reply : Reply) → IsTold reply command → IfOk (requested_of place lines reply) (λ file. is_some file ≡ is_get_line command)
by_told place lines command Done (inl e) = absurd (true≢false (sym e))
by_told place lines command Done (inr e) = e
by_told place lines command (Number n) (inl e) = absurd (true≢false (sym e))
by_told place lines command (Number n) (inr e) = e
by_told place lines command (Go n) (inl e) = absurd (true≢false (sym e))
by_told place lines command (Go n) (inr e) = e
by_told place lines command (Found p o n) (inl e) = absurd (true≢false (sym e))
by_told place lines command (Found p o n) (inr e) = e
by_told place lines command (Text t) (inl e) = absurd (true≢false (sym e))
by_told place lines command (Text t) (inr e) = e
by_told place lines command (Ready b) (inl e) = absurd (true≢false (sym e))
by_told place lines command (Ready b) (inr e) = e
by_told place lines command (Refused errno) told = tt

-- a command that was made gives a file where it is GET_LINE, and else none
pub file_where_requested : (limit : ℕ) (v w : OneView) (c : CommandIn) (reply : Reply) (bytes : List ℕ) (place : ℕ) (lines : Lines) (result : Result (Option LineFile) Errno) → result ≡ requested_of place lines reply
    → HasCalled limit v (Commanding c) reply bytes w → IfOk result (λ file. is_some file ≡ is_get_line (command_of c.cmd))
file_where_requested limit v w c reply bytes place lines result is called = subst (λ (r : Result (Option LineFile) Errno). IfOk r (λ file. is_some file ≡ is_get_line (command_of c.cmd))) (sym is)
    (by_told place lines (command_of c.cmd) reply (told_called limit v w c reply bytes called))
