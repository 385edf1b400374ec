-- Each entry of a legal history has a text.
use Rattle.std.proofs.Common.{◌≡◌, ℕ, Bool, true, false, List, [], ◌∷◌, Option, Some, None, refl, sym, ap, ◌∙◌, subst}
use Rattle.std.specs.Prelude.{◌||◌, ◌==◌, nat_lt, take}
use Rattle.std.proofs.lemmas.Bool.{true≢false, false≢true}
use Rattle.gl_base.specs.Refusals.{first_of, when}
use Rattle.gl_base.specs.Rows.{Each}
use Rattle.gl_base.specs.declared.errno.Errno.{Errno}
use Rattle.gl_base.specs.declared.errno.Errno.TheVariants.{Fault, Inval}
use Rattle.gl_uapi.specs.Command.{command_of, size_of}
use Rattle.gl_uapi.specs.declared.commands.Command.{Command}
use Rattle.gl_uapi.specs.declared.commands.Command.TheVariants.{ChipInfo, LineInfo, Watch, Unwatch, GetLine, SetConfig, GetValues, SetValues}
use Rattle.gl_world.specs.declared.history.Entry.{Entry}
use Rattle.gl_world.specs.History.{AnsweredFrom}
use Rattle.gl_model.specs.declared.call.Call.{Call}
use Rattle.gl_model.specs.declared.call.Call.TheVariants.{Probe, Unplug, MakeDir, RemoveDir, Write, Read, Live, Remove, Tick, Pin, Irq, Pull, Level, Interrupt, OpenChip, Find, Ioctl, ReadEdges, ReadInfo, PollLine, PollChip, Close, Refused as RefusedCall}
use Rattle.gl_model.specs.declared.call.Part.{Part}
use Rattle.gl_model.specs.declared.call.Part.TheVariants.{Whole, Ask, Tell}
use Rattle.gl_model.specs.declared.gift.Gift.{Gift}
use Rattle.gl_model.specs.declared.reply.Reply.{Reply}
use Rattle.gl_model.specs.declared.reply.Reply.TheVariants.{Done, Number, Go, Found, Text, Ready, Refused}
use Rattle.gl_model.specs.Fits.{FitsCall}
use Rattle.gl_model.specs.Ioctl.{act_on, by_number, in_part}
use Rattle.gl_model.specs.Machine.{machine}
use Rattle.gl_model.specs.OpenFiles.{command_refusal, has_part, is_for_chips, kind_refusal}
use Rattle.gl_model.specs.Outcome.{Outcome, refused_or}
use Rattle.gl_model.specs.Replies.{has_form, numbered_form}
use Rattle.gl_model.specs.Step.{step}
use Rattle.gl_model.specs.World.{World, opening}
use Rattle.gl_model.proofs.MachineLaws.{always}
use Rattle.gl_model.proofs.Replies.{replies_have_form}
use Rattle.gl_trace.specs.EntryText.{HasText, LegalEntriesHaveTexts, TellsBytes}
use Rattle.gl_trace.specs.Forms.{command_form, form_of, is_of, is_readiness}

abbrev Of : Call → Reply → Type 0
Of call reply = is_of (form_of call) reply ≡ true

-- commands

-- the reply is a refusal
abbrev IsRefused : Reply → Type 0
IsRefused (Refused errno) = Unit {0}
IsRefused _ = ⊥

-- a command that is refused for its part
refuses : (file : Option Errno) (short : Bool) (w : World) (out : Outcome) → IsRefused (refused_or (first_of (file ∷ when short Fault ∷ when true Inval ∷ [])) w out).reply
refuses None true w out = tt
refuses None false w out = tt
refuses (Some errno) short w out = tt

wrong_part : (place fd len : ℕ) (command : Command) (part : Part) (w : World) (out : Outcome) → has_part command part ≡ false → IsRefused (refused_or (command_refusal place fd len command part w) w out).reply
wrong_part place fd len command part w out e =
    rw e (refuses (kind_refusal place fd (is_for_chips command) w) (nat_lt len (size_of command)) w out)

part_refused : (actor place fd len : ℕ) (command : Command) (bytes : List ℕ) (part : Part) (w : World) → has_part command part ≡ false → IsRefused (in_part actor place fd len command bytes part w).reply
part_refused actor place fd len ChipInfo bytes part w e = wrong_part place fd len ChipInfo part w (act_on actor place fd ChipInfo (take (size_of ChipInfo) bytes) part w) e
part_refused actor place fd len LineInfo bytes part w e = wrong_part place fd len LineInfo part w (act_on actor place fd LineInfo (take (size_of LineInfo) bytes) part w) e
part_refused actor place fd len Watch bytes part w e = wrong_part place fd len Watch part w (act_on actor place fd Watch (take (size_of Watch) bytes) part w) e
part_refused actor place fd len Unwatch bytes part w e = wrong_part place fd len Unwatch part w (act_on actor place fd Unwatch (take (size_of Unwatch) bytes) part w) e
part_refused actor place fd len SetConfig bytes part w e = wrong_part place fd len SetConfig part w (act_on actor place fd SetConfig (take (size_of SetConfig) bytes) part w) e
part_refused actor place fd len GetValues bytes part w e = wrong_part place fd len GetValues part w (act_on actor place fd GetValues (take (size_of GetValues) bytes) part w) e
part_refused actor place fd len SetValues bytes part w e = wrong_part place fd len SetValues part w (act_on actor place fd SetValues (take (size_of SetValues) bytes) part w) e
part_refused actor place fd len GetLine bytes Whole w e = wrong_part place fd len GetLine Whole w (act_on actor place fd GetLine (take (size_of GetLine) bytes) Whole w) e
part_refused actor place fd len GetLine bytes Ask w e = absurd (true≢false e)
part_refused actor place fd len GetLine bytes (Tell answer) w e = absurd (true≢false e)

-- what numbered_form says of a reply that isn't refused
abbrev IsNumbered : Option Command → Part → Reply → Type 0
IsNumbered c part (Refused errno) = Unit {0}
IsNumbered c part reply = numbered_form c part reply ≡ true

by_part : (c : Command) (part : Part) (reply : Reply) → IsNumbered (Some c) part reply → (has_part c part ≡ false → IsRefused reply) → is_of (command_form (Some c) part) reply ≡ true
by_part ChipInfo Whole (Refused errno) h r = refl
by_part ChipInfo Whole Done h r = refl
by_part ChipInfo Whole _ h r = absurd (false≢true h)
by_part ChipInfo Ask (Refused errno) h r = refl
by_part ChipInfo Ask _ h r = absurd (r refl)
by_part ChipInfo (Tell answer) (Refused errno) h r = refl
by_part ChipInfo (Tell answer) _ h r = absurd (r refl)
by_part LineInfo Whole (Refused errno) h r = refl
by_part LineInfo Whole Done h r = refl
by_part LineInfo Whole _ h r = absurd (false≢true h)
by_part LineInfo Ask (Refused errno) h r = refl
by_part LineInfo Ask _ h r = absurd (r refl)
by_part LineInfo (Tell answer) (Refused errno) h r = refl
by_part LineInfo (Tell answer) _ h r = absurd (r refl)
by_part Watch Whole (Refused errno) h r = refl
by_part Watch Whole Done h r = refl
by_part Watch Whole _ h r = absurd (false≢true h)
by_part Watch Ask (Refused errno) h r = refl
by_part Watch Ask _ h r = absurd (r refl)
by_part Watch (Tell answer) (Refused errno) h r = refl
by_part Watch (Tell answer) _ h r = absurd (r refl)
by_part Unwatch Whole (Refused errno) h r = refl
by_part Unwatch Whole Done h r = refl
by_part Unwatch Whole _ h r = absurd (false≢true h)
by_part Unwatch Ask (Refused errno) h r = refl
by_part Unwatch Ask _ h r = absurd (r refl)
by_part Unwatch (Tell answer) (Refused errno) h r = refl
by_part Unwatch (Tell answer) _ h r = absurd (r refl)
by_part GetLine Whole (Refused errno) h r = refl
by_part GetLine Whole _ h r = absurd (r refl)
by_part GetLine Ask (Refused errno) h r = refl
by_part GetLine Ask (Go n) h r = refl
by_part GetLine Ask _ h r = absurd (false≢true h)
by_part GetLine (Tell answer) (Refused errno) h r = refl
by_part GetLine (Tell answer) (Number n) h r = refl
by_part GetLine (Tell answer) _ h r = absurd (false≢true h)
by_part SetConfig Whole (Refused errno) h r = refl
by_part SetConfig Whole _ h r = absurd (r refl)
by_part SetConfig Ask (Refused errno) h r = refl
by_part SetConfig Ask (Go n) h r = refl
by_part SetConfig Ask _ h r = absurd (false≢true h)
by_part SetConfig (Tell answer) (Refused errno) h r = refl
by_part SetConfig (Tell answer) Done h r = refl
by_part SetConfig (Tell answer) _ h r = absurd (false≢true h)
by_part GetValues Whole (Refused errno) h r = refl
by_part GetValues Whole _ h r = absurd (r refl)
by_part GetValues Ask (Refused errno) h r = refl
by_part GetValues Ask (Go n) h r = refl
by_part GetValues Ask _ h r = absurd (false≢true h)
by_part GetValues (Tell answer) (Refused errno) h r = refl
by_part GetValues (Tell answer) Done h r = refl
by_part GetValues (Tell answer) _ h r = absurd (false≢true h)
by_part SetValues Whole (Refused errno) h r = refl
by_part SetValues Whole _ h r = absurd (r refl)
by_part SetValues Ask (Refused errno) h r = refl
by_part SetValues Ask (Go n) h r = refl
by_part SetValues Ask _ h r = absurd (false≢true h)
by_part SetValues (Tell answer) (Refused errno) h r = refl
by_part SetValues (Tell answer) Done h r = refl
by_part SetValues (Tell answer) _ h r = absurd (false≢true h)

by_command : (c : Option Command) (part : Part) (reply : Reply) → IsNumbered c part reply → ((command : Command) → c ≡ Some command → has_part command part ≡ false → IsRefused reply) → is_of (command_form c part) reply ≡ true
by_command None part (Refused errno) h r = refl
by_command None part _ h r = absurd (false≢true h)
by_command (Some command) part reply h r = by_part command part reply h (r command refl)

numbered : (place fd cmd len : ℕ) (bytes : List ℕ) (part : Part) (reply : Reply) → has_form (Ioctl place fd cmd len bytes part) reply ≡ true → IsNumbered (command_of cmd) part reply
numbered place fd cmd len bytes part Done h = h
numbered place fd cmd len bytes part (Number n) h = h
numbered place fd cmd len bytes part (Go n) h = h
numbered place fd cmd len bytes part (Found p offset count) h = h
numbered place fd cmd len bytes part (Text text) h = h
numbered place fd cmd len bytes part (Ready bits) h = h
numbered place fd cmd len bytes part (Refused errno) h = tt

-- polls

either : (a b c : Bool) → (a || b) ≡ true → (a || (b || c)) ≡ true
either true b c e = refl
either false true c e = refl
either false false c e = cc

six : (bits : ℕ) → (bits == 6) ≡ true → is_readiness bits ≡ true
six bits e = rw e (last (bits == 0) (bits == 1)) where
  last : (a b : Bool) → (a || (b || true)) ≡ true
  last true b = refl
  last false true = refl
  last false false = refl

-- a reply of the form that the machine gives is of the form that has a text
of_form : (w : World) (actor : ℕ) (call : Call) (reply : Reply) → reply ≡ (step w actor call).reply → has_form call reply ≡ true → Of call reply
of_form w actor (Probe label lines kind) (Refused errno) e h = refl
of_form w actor (Probe label lines kind) (Number n) e h = refl
of_form w actor (Probe label lines kind) _ e h = absurd (false≢true h)
of_form w actor (Unplug place true) (Refused errno) e h = refl
of_form w actor (Unplug place true) Done e h = refl
of_form w actor (Unplug place true) _ e h = absurd (false≢true h)
of_form w actor (Unplug place false) (Refused errno) e h = refl
of_form w actor (Unplug place false) Done e h = refl
of_form w actor (Unplug place false) _ e h = absurd (false≢true h)
of_form w actor (MakeDir path) (Refused errno) e h = refl
of_form w actor (MakeDir path) Done e h = refl
of_form w actor (MakeDir path) _ e h = absurd (false≢true h)
of_form w actor (RemoveDir path) (Refused errno) e h = refl
of_form w actor (RemoveDir path) Done e h = refl
of_form w actor (RemoveDir path) _ e h = absurd (false≢true h)
of_form w actor (Write path value) (Refused errno) e h = refl
of_form w actor (Write path value) Done e h = refl
of_form w actor (Write path value) _ e h = absurd (false≢true h)
of_form w actor (Read path) (Refused errno) e h = refl
of_form w actor (Read path) (Text text) e h = refl
of_form w actor (Read path) _ e h = absurd (false≢true h)
of_form w actor (Live device) (Refused errno) e h = refl
of_form w actor (Live device) Done e h = refl
of_form w actor (Live device) _ e h = absurd (false≢true h)
of_form w actor (Remove device true) (Refused errno) e h = refl
of_form w actor (Remove device true) Done e h = refl
of_form w actor (Remove device true) _ e h = absurd (false≢true h)
of_form w actor (Remove device false) (Refused errno) e h = refl
of_form w actor (Remove device false) Done e h = refl
of_form w actor (Remove device false) _ e h = absurd (false≢true h)
of_form w actor (Tick mono real) (Refused errno) e h = refl
of_form w actor (Tick mono real) Done e h = refl
of_form w actor (Tick mono real) _ e h = absurd (false≢true h)
of_form w actor (Pin place what) (Refused errno) e h = refl
of_form w actor (Pin place what) Done e h = refl
of_form w actor (Pin place what) _ e h = absurd (false≢true h)
of_form w actor (Irq place offset what) (Refused errno) e h = refl
of_form w actor (Irq place offset what) Done e h = refl
of_form w actor (Irq place offset what) _ e h = absurd (false≢true h)
of_form w actor (Pull place offset up) (Refused errno) e h = refl
of_form w actor (Pull place offset up) Done e h = refl
of_form w actor (Pull place offset up) _ e h = absurd (false≢true h)
of_form w actor (Level place offset pull) (Refused errno) e h = refl
of_form w actor (Level place offset pull) (Number n) e h = refl
of_form w actor (Level place offset pull) _ e h = absurd (false≢true h)
of_form w actor (Interrupt place offset up) (Refused errno) e h = refl
of_form w actor (Interrupt place offset up) Done e h = refl
of_form w actor (Interrupt place offset up) _ e h = absurd (false≢true h)
of_form w actor (OpenChip word) (Refused errno) e h = refl
of_form w actor (OpenChip word) (Number n) e h = refl
of_form w actor (OpenChip word) _ e h = absurd (false≢true h)
of_form w actor (Find place name) (Refused errno) e h = refl
of_form w actor (Find place name) (Found p offset count) e h = refl
of_form w actor (Find place name) _ e h = absurd (false≢true h)
of_form w actor (ReadEdges place fd len) (Refused errno) e h = refl
of_form w actor (ReadEdges place fd len) (Number n) e h = refl
of_form w actor (ReadEdges place fd len) _ e h = absurd (false≢true h)
of_form w actor (ReadInfo place fd len) (Refused errno) e h = refl
of_form w actor (ReadInfo place fd len) (Number n) e h = refl
of_form w actor (ReadInfo place fd len) _ e h = absurd (false≢true h)
of_form w actor (Close fd) (Refused errno) e h = refl
of_form w actor (Close fd) Done e h = refl
of_form w actor (Close fd) _ e h = absurd (false≢true h)
of_form w actor (PollLine place fd) (Refused errno) e h = refl
of_form w actor (PollLine place fd) (Ready bits) e h = either (bits == 0) (bits == 1) (bits == 6) h
of_form w actor (PollLine place fd) _ e h = absurd (false≢true h)
of_form w actor (PollChip place fd) (Refused errno) e h = refl
of_form w actor (PollChip place fd) (Ready bits) e h = either (bits == 0) (bits == 1) (bits == 6) h
of_form w actor (PollChip place fd) _ e h = absurd (false≢true h)
of_form w actor (RefusedCall place true) (Refused errno) e h = refl
of_form w actor (RefusedCall place true) (Ready bits) e h = six bits h
of_form w actor (RefusedCall place true) _ e h = absurd (false≢true h)
of_form w actor (RefusedCall place false) (Refused errno) e h = refl
of_form w actor (RefusedCall place false) _ e h = absurd (false≢true h)
of_form w actor (Ioctl place fd cmd len bytes part) reply e h =
    by_command (command_of cmd) part reply (numbered place fd cmd len bytes part reply h)
    (λ command is wrong. subst IsRefused (sym (e ∙ ap (λ c. (by_number actor place fd len c bytes part w).reply) is)) (part_refused actor place fd len command bytes part w wrong))

-- the bytes of a call in range are told
tells_bytes : (call : Call) → FitsCall call → TellsBytes call
tells_bytes (Ioctl place fd cmd len bytes part) h = h.1.zeros
tells_bytes _ h = tt

module _ {K : Type 0} (stands_for : K → World → Type 0) where
  answered : (w : World) (history : List (Entry K Call Reply Gift)) → AnsweredFrom (machine stands_for) w history → Each (λ (e : Entry K Call Reply Gift). HasText e) history
  answered w [] h = tt
  answered w (e ∷ history) h =
      let form : has_form e.call e.reply ≡ true = rw h.0 (replies_have_form.form w e.actor e.call) in
      (record { form = of_form w e.actor e.call e.reply h.0 form; bytes = tells_bytes e.call h.1 }, answered ((step w e.actor e.call).world) history h.2)

  pub legal_entries_have_texts : LegalEntriesHaveTexts stands_for
  legal_entries_have_texts = always stands_for (λ history. Each (λ (e : Entry K Call Reply Gift). HasText e) history) (λ history legal. answered opening history legal.0)
