-- One entry as a whole call of the device.
use Rattle.std.proofs.Common.{◌≡◌, ◌≢◌, ℕ, ◌<◌, List, [], ◌∷◌, ◌++◌, length, drop, sym, refl, ap, ◌∙◌, subst, arith, Bool, true, false, Option, Some, None, Result, Ok, Err, IfOk, IfErr, ◌⊎◌, inl, inr, ⊎_elim, length-append}
use Rattle.std.specs.Prelude.{cond}
use Rattle.std.proofs.lemmas.Bool.{true≢false}
use Rattle.std.proofs.lemmas.List.{append_assoc, append-nil}
use Rattle.gl_base.specs.declared.errno.Errno.{Errno}
use Rattle.gl_base.specs.declared.errno.Errno.TheVariants.{Full, NoEnt, NoMemory}
use Rattle.gl_base.specs.Rows.{Each}
use Rattle.gl_world.specs.Deeds.{entries_in}
use Rattle.gl_world.specs.History.{Answered, Legal, entry, entries_of, fold}
use Rattle.gl_world.proofs.Histories.{answered_rest}
use Rattle.gl_gate.specs.Calls.{KnowsAsMuch, KnowsClosed, MayName}
use Rattle.gl_gate.specs.Grown.{Grew, IsFree}
use Rattle.gl_uapi.specs.Command.{command_of}
use Rattle.gl_core.specs.Kept.{Kept, StandsFor}
use Rattle.gl_model.specs.declared.call.Call.{Call}
use Rattle.gl_model.specs.declared.call.Call.TheVariants.{Probe, Unplug, MakeDir, RemoveDir, Write, Read, Live, Remove, Tick, Pin, Irq, Pull, Level, Interrupt, OpenChip, Find, Ioctl, ReadEdges, ReadInfo, PollLine, PollChip, Close, Refused as RefusedCall}
use Rattle.gl_model.specs.declared.reply.Reply.{Reply}
use Rattle.gl_model.specs.declared.reply.Reply.TheVariants.{Done, Number, Go, Found, Text, Ready, Refused}
use Rattle.gl_model.specs.Calling.{AreOfCalls, Called, IsCalled, made_by}
use Rattle.gl_model.specs.Entries.{guarded_place, refused_place}
use Rattle.gl_model.specs.Fits.{FitsCall}
use Rattle.gl_model.specs.Written.{bytes_written, number_answered}
use Rattle.gl_model.proofs.LegalLengths.{legal_replies_tell_lengths}
use Rattle.gl_model.specs.declared.device_call.CommandIn.{CommandIn}
use Rattle.gl_model.specs.declared.device_call.DeviceCall.{DeviceCall}
use Rattle.gl_model.specs.Parts.{MakesAt, MakesCommand, MakesInside, device_has, guard_of, in_whole, is_driver_asked, is_poll, is_single, last_reply}
use Rattle.gl_model.specs.declared.device_call.DeviceCall.TheVariants.{Commanding, Once}
use Rattle.gl_model.specs.Replies.{has_form}
use Rattle.gl_model.specs.Step.{guard_reply}
use Rattle.gl_model.proofs.Replies.{replies_have_form}
use Rattle.gl_chip.specs.Called.{ComesOut, HasCalled, last_entry}
use Rattle.gl_asking.specs.Results.{value_of}
use Rattle.gl_chip.specs.Steps.{CalledGuarded, CalledOnce, EndsWith, FoundNoRoom, IsAnswered, IsWhole, Owes, StoodFull, deed_of}
use Rattle.gl_chip.specs.Values.{ActorValue, IsIdle, OneView}
use Rattle.gl_core.specs.Device.{MayOwn, OneEntry, core}
use Rattle.gl_chip.proofs.GateSteps.{is_free, knows_same}

abbrev pub place_or : ℕ → Option ℕ → ℕ
place_or d (Some p) = p
place_or d None = d

abbrev is_there : Option ℕ → Bool
is_there (Some p) = true
is_there None = false

pub none_not_some : (p : ℕ) → None ≡ Some p → ⊥
none_not_some p e = true≢false (sym (ap is_there e))

-- a call that is whole by itself
pub single_is_whole : (call : Call) → is_single call ≡ true → IsWhole core call
single_is_whole (Probe a b c) s = record { ends_not = refl; begins_not = λ _. refl; no_last_removal = refl; begins_no_removal = λ _ _. refl }
single_is_whole (Unplug a b) s = absurd (true≢false (sym s))
single_is_whole (MakeDir a) s = record { ends_not = refl; begins_not = λ _. refl; no_last_removal = refl; begins_no_removal = λ _ _. refl }
single_is_whole (RemoveDir a) s = record { ends_not = refl; begins_not = λ _. refl; no_last_removal = refl; begins_no_removal = λ _ _. refl }
single_is_whole (Write a b) s = record { ends_not = refl; begins_not = λ _. refl; no_last_removal = refl; begins_no_removal = λ _ _. refl }
single_is_whole (Read a) s = record { ends_not = refl; begins_not = λ _. refl; no_last_removal = refl; begins_no_removal = λ _ _. refl }
single_is_whole (Live a) s = record { ends_not = refl; begins_not = λ _. refl; no_last_removal = refl; begins_no_removal = λ _ _. refl }
single_is_whole (Remove a b) s = absurd (true≢false (sym s))
single_is_whole (Tick a b) s = record { ends_not = refl; begins_not = λ _. refl; no_last_removal = refl; begins_no_removal = λ _ _. refl }
single_is_whole (Pin a b) s = record { ends_not = refl; begins_not = λ _. refl; no_last_removal = refl; begins_no_removal = λ _ _. refl }
single_is_whole (Irq a b c) s = record { ends_not = refl; begins_not = λ _. refl; no_last_removal = refl; begins_no_removal = λ _ _. refl }
single_is_whole (Pull a b c) s = record { ends_not = refl; begins_not = λ _. refl; no_last_removal = refl; begins_no_removal = λ _ _. refl }
single_is_whole (Level a b c) s = record { ends_not = refl; begins_not = λ _. refl; no_last_removal = refl; begins_no_removal = λ _ _. refl }
single_is_whole (Interrupt a b c) s = record { ends_not = refl; begins_not = λ _. refl; no_last_removal = refl; begins_no_removal = λ _ _. refl }
single_is_whole (OpenChip a) s = record { ends_not = refl; begins_not = λ _. refl; no_last_removal = refl; begins_no_removal = λ _ _. refl }
single_is_whole (Find a b) s = record { ends_not = refl; begins_not = λ _. refl; no_last_removal = refl; begins_no_removal = λ _ _. refl }
single_is_whole (Ioctl a b c d e f) s = absurd (true≢false (sym s))
single_is_whole (ReadEdges a b c) s = record { ends_not = refl; begins_not = λ _. refl; no_last_removal = refl; begins_no_removal = λ _ _. refl }
single_is_whole (ReadInfo a b c) s = record { ends_not = refl; begins_not = λ _. refl; no_last_removal = refl; begins_no_removal = λ _ _. refl }
single_is_whole (PollLine a b) s = record { ends_not = refl; begins_not = λ _. refl; no_last_removal = refl; begins_no_removal = λ _ _. refl }
single_is_whole (PollChip a b) s = record { ends_not = refl; begins_not = λ _. refl; no_last_removal = refl; begins_no_removal = λ _ _. refl }
single_is_whole (Close a) s = record { ends_not = refl; begins_not = λ _. refl; no_last_removal = refl; begins_no_removal = λ _ _. refl }
single_is_whole (RefusedCall a b) s = absurd (true≢false (sym s))

pub single_not_refused : (call : Call) → is_single call ≡ true → refused_place call ≡ None
single_not_refused (Probe a b c) s = refl
single_not_refused (Unplug a b) s = absurd (true≢false (sym s))
single_not_refused (MakeDir a) s = refl
single_not_refused (RemoveDir a) s = refl
single_not_refused (Write a b) s = refl
single_not_refused (Read a) s = refl
single_not_refused (Live a) s = refl
single_not_refused (Remove a b) s = absurd (true≢false (sym s))
single_not_refused (Tick a b) s = refl
single_not_refused (Pin a b) s = refl
single_not_refused (Irq a b c) s = refl
single_not_refused (Pull a b c) s = refl
single_not_refused (Level a b c) s = refl
single_not_refused (Interrupt a b c) s = refl
single_not_refused (OpenChip a) s = refl
single_not_refused (Find a b) s = refl
single_not_refused (Ioctl a b c d e f) s = absurd (true≢false (sym s))
single_not_refused (ReadEdges a b c) s = refl
single_not_refused (ReadInfo a b c) s = refl
single_not_refused (PollLine a b) s = refl
single_not_refused (PollChip a b) s = refl
single_not_refused (Close a) s = refl
single_not_refused (RefusedCall a b) s = absurd (true≢false (sym s))

pub record_is_whole : (place : ℕ) (poll : Bool) → IsWhole core (RefusedCall place poll)
record_is_whole place poll = record { ends_not = refl; begins_not = λ _. refl; no_last_removal = refl; begins_no_removal = λ _ _. refl }

pub named_nowhere : (v : OneView) (call : Call) → is_single call ≡ true → guarded_place call ≡ None → MayName core v call
named_nowhere v call single none = record {
  named = λ p at. absurd (none_not_some p (sym none ∙ at));
  refused = λ p at. absurd (none_not_some p (sym (single_not_refused call single) ∙ at));
}

owns_nothing : MayOwn []
owns_nothing = record { quiet = tt; no_claims = tt }

nothing_wrote : (xs ys : List ℕ) → length (xs ++ ys) ≡ 0 → xs ≡ []
nothing_wrote [] ys e = refl
nothing_wrote (x ∷ xs) ys e = absurd (omega arith)

-- one entry, without a guard
pub called_alone : (v w : OneView) (call : Call) (reply : Reply) (old new : List ℕ) → is_single call ≡ true → guarded_place call ≡ None → length new ≡ 0 → CalledOnce core v call reply old new w → HasCalled 0 v (Once call) reply [] w
called_alone v w call reply old new single none empty step = record {
  closed = false;
  answer = None;
  own = [];
  did = deed_of v.number call reply step.wrote ∷ [];
  makes = (single, subst (λ g. MakesAt {M = Kept} v.number g false (Once call) None [] (entry v.number call reply ∷ [])) (sym none) ((reply, refl), refl));
  few_own = omega arith;
  may_own = owns_nothing;
  grew = step.grew;
  last = record { last = entry v.number call reply; is_last = refl; at = step.last };
  had_room = record { first = entry v.number call reply; is_first = refl; before = step.last.0; behind = []; at = step.last.1; room_left = step.had_room (single_is_whole call single).ends_not; own_before = step.own_before };
  legal = step.legal;
  reply_is = refl;
  bytes_are = nothing_wrote step.wrote (drop (length step.wrote) old) (sym (ap (λ (l : List ℕ). length l) step.bytes) ∙ empty);
  guard = λ p at. absurd (none_not_some p (sym none ∙ at));
  knows_as_much = knows_same v w step.same.closed step.same.drained;
}

-- the form of what it is answered
pub form_alone : (v w : OneView) (call : Call) (reply : Reply) (old new : List ℕ) → CalledOnce core v call reply old new w → has_form call reply ≡ true
form_alone v w call reply old new step = let a = step.answered in subst (λ r. has_form call r ≡ true) (sym a.reply_is) (replies_have_form.form (fold core a.before) v.number call)

-- no call is answered that the history is full
never_full : (n : ℕ) (call : Call) (reply : Reply) (wrote : List ℕ) → IsAnswered core n call reply wrote → reply ≢ Refused Full
never_full n call reply wrote a is = replies_have_form.not_full (fold core a.before) n call (sym a.reply_is ∙ is)

pub alone_not_full : (v w : OneView) (call : Call) (reply : Reply) (old new : List ℕ) → CalledOnce core v call reply old new w → reply ≢ Refused Full
alone_not_full v w call reply old new step = never_full v.number call reply step.wrote step.answered

pub guarded_not_full : (place : ℕ) (refused : Call) (v w : OneView) (call : Call) (reply : Reply) (old new : List ℕ) → CalledGuarded core place refused v call reply old new w → reply ≢ Refused Full
guarded_not_full place refused v w call reply old new c = never_full v.number (cond c.closed refused call) reply c.wrote c.answered

abbrev pub errno_in : {X : Type 0} → Result X Errno → Errno
errno_in (Ok x) = NoEnt
errno_in (Err errno) = errno

abbrev is_err : {X : Type 0} → Result X Errno → Bool
is_err (Ok x) = false
is_err (Err errno) = true

-- a result that is an error was told by its reply
pub errno_is_told : {X : Type 0} (value : Reply → X) (errno : Errno) (reply : Reply) → value_of value reply ≡ Err errno → reply ≡ Refused errno
errno_is_told value errno Done e = absurd (true≢false (sym (ap is_err e)))
errno_is_told value errno (Number n) e = absurd (true≢false (sym (ap is_err e)))
errno_is_told value errno (Go n) e = absurd (true≢false (sym (ap is_err e)))
errno_is_told value errno (Found p o n) e = absurd (true≢false (sym (ap is_err e)))
errno_is_told value errno (Text t) e = absurd (true≢false (sym (ap is_err e)))
errno_is_told value errno (Ready b) e = absurd (true≢false (sym (ap is_err e)))
errno_is_told value errno (Refused told) e = ap Refused (ap errno_in e)

-- Behind the guard of this place, a call of the device is this one entry.
pub record IsOneEntry (place : ℕ) (poll : Bool) (call : Call) (whole : DeviceCall) : Type 0 where
  pub has : device_has whole ≡ true
  pub at : guard_of whole ≡ Some place
  pub polls : is_poll whole ≡ poll
  pub tells : has_form call (guard_reply poll) ≡ false
  pub inside : (actor : ℕ) (reply : Reply) → MakesInside {M = Kept} actor whole None [] (entry actor call reply ∷ [])

-- so are a call of the machine that needs the guard
pub once_is_one : (place : ℕ) (poll : Bool) (call : Call) → is_single call ≡ true → guarded_place call ≡ Some place → is_poll (Once call) ≡ poll → has_form call (guard_reply poll) ≡ false → IsOneEntry place poll call (Once call)
once_is_one place poll call single at polls tells = record { has = single; at = at; polls = polls; tells = tells; inside = λ actor reply. ((reply, refl), refl) }

-- and a command that asks no driver
pub command_is_one : (c : CommandIn) → is_driver_asked c.of_chip c.len (command_of c.cmd) ≡ false → IsOneEntry c.place false (in_whole c) (Commanding c)
command_is_one c not_asked = record {
  has = refl;
  at = refl;
  polls = refl;
  tells = refl;
  inside = λ actor reply. subst (λ asked. MakesCommand {M = Kept} actor asked None c [] (entry actor (in_whole c) reply ∷ [])) (sym not_asked) ((reply, refl), refl);
}

pub command_is_whole : (c : CommandIn) → IsWhole core (in_whole c)
command_is_whole c = record { ends_not = refl; begins_not = λ _. refl; no_last_removal = refl; begins_no_removal = λ _ _. refl }

-- One entry behind the guard of a place, or the record that it was closed, by whether it was.
guarded_by : (place : ℕ) (poll : Bool) (v w : OneView) (call : Call) (whole : DeviceCall) (reply : Reply) (wrote : List ℕ) → IsOneEntry place poll call whole
    → (b : Bool) → (last : EndsWith w.seen (entry v.number (cond b (RefusedCall place poll) call) reply)) → length last.0 < v.room → entries_of v.number last.0 ≡ v.mine → Grew core v (deed_of v.number (cond b (RefusedCall place poll) call) reply wrote ∷ []) w → Legal core w.seen
    → IsAnswered core v.number (cond b (RefusedCall place poll) call) reply wrote → (KnowsClosed v place → b ≡ true) → (b ≡ true → KnowsClosed w place) → KnowsAsMuch v w → HasCalled 0 v whole reply wrote w
guarded_by place poll v w call whole reply wrote one true last room before grew legal answered known knows knows_as_much = let e : OneEntry = entry v.number (RefusedCall place poll) reply in record {
  closed = true;
  answer = None;
  own = [];
  did = deed_of v.number (RefusedCall place poll) reply wrote ∷ [];
  makes = (
    one.has,
    subst (λ g. MakesAt {M = Kept} v.number g true whole None [] (e ∷ [])) (sym one.at) (
      subst (λ q. e ∷ [] ≡ entry v.number (RefusedCall place q) (guard_reply q) ∷ []) (sym one.polls) (ap (λ r. entry v.number (RefusedCall place poll) r ∷ []) answered.reply_is),
      refl,
    ),
  );
  few_own = omega arith;
  may_own = owns_nothing;
  grew = grew;
  last = record { last = e; is_last = refl; at = last };
  had_room = record { first = e; is_first = refl; before = last.0; behind = []; at = last.1; room_left = room; own_before = before };
  legal = legal;
  reply_is = refl;
  bytes_are = refl;
  guard = λ p its. record {
    known = λ _. refl;
    knows = λ _. subst (λ q. KnowsClosed w q) (ap (place_or p) (sym one.at ∙ its)) (knows refl);
    gone = λ _. answered.reply_is ∙ ap guard_reply (sym one.polls);
    gone_alone = λ _. refl;
  };
  knows_as_much = knows_as_much;
}
guarded_by place poll v w call whole reply wrote one false last room before grew legal answered known knows knows_as_much = let e : OneEntry = entry v.number call reply in record {
  closed = false;
  answer = None;
  own = [];
  did = deed_of v.number call reply wrote ∷ [];
  makes = (one.has, subst (λ g. MakesAt {M = Kept} v.number g false whole None [] (e ∷ [])) (sym one.at) (one.inside v.number reply));
  few_own = omega arith;
  may_own = owns_nothing;
  grew = grew;
  last = record { last = e; is_last = refl; at = last };
  had_room = record { first = e; is_first = refl; before = last.0; behind = []; at = last.1; room_left = room; own_before = before };
  legal = legal;
  reply_is = refl;
  bytes_are = refl;
  guard = λ p its. record {
    known = λ k. known (subst (λ q. KnowsClosed v q) (ap (place_or p) (sym its ∙ one.at)) k);
    knows = λ f. absurd (true≢false (sym f));
    gone = λ f. absurd (true≢false (sym f));
    gone_alone = λ told. absurd (true≢false (sym (subst (λ r. has_form call r ≡ true) (sym answered.reply_is ∙ (told ∙ ap guard_reply one.polls)) (replies_have_form.form (fold core answered.before) v.number call)) ∙ one.tells));
  };
  knows_as_much = knows_as_much;
}

pub called_guarded : (place : ℕ) (poll : Bool) (v w : OneView) (call : Call) (whole : DeviceCall) (reply : Reply) (old new : List ℕ) → IsOneEntry place poll call whole
    → CalledGuarded core place (RefusedCall place poll) v call reply old new w → (bytes : List ℕ) × (new ≡ bytes ++ drop (length bytes) old) × HasCalled 0 v whole reply bytes w
called_guarded place poll v w call whole reply old new one c = (c.wrote, c.bytes, guarded_by place poll v w call whole reply c.wrote one c.closed c.last c.had_room c.own_before c.grew c.legal c.answered c.known c.knows c.knows_as_much)

-- the same of a call that is known as another one
pub guarded_as : (result : Result Reply Errno) (place : ℕ) (poll : Bool) (v w : OneView) (call part : Call) (old new : List ℕ) → call ≡ part
    → IfOk result (λ r. CalledGuarded core place (RefusedCall place poll) v call r old new w) → IfOk result (λ r. CalledGuarded core place (RefusedCall place poll) v part r old new w)
guarded_as result place poll v w call part old new is h = subst (λ (x : Call). IfOk result (λ r. CalledGuarded core place (RefusedCall place poll) v x r old new w)) is h

-- the form of what it is answered
form_by : (place : ℕ) (poll : Bool) (n : ℕ) (call : Call) (reply : Reply) (wrote : List ℕ) (b : Bool) → IsAnswered core n (cond b (RefusedCall place poll) call) reply wrote → (reply ≡ guard_reply poll) ⊎ (has_form call reply ≡ true)
form_by place poll n call reply wrote true a = inl a.reply_is
form_by place poll n call reply wrote false a = inr (subst (λ r. has_form call r ≡ true) (sym a.reply_is) (replies_have_form.form (fold core a.before) n call))

pub form_guarded : (place : ℕ) (poll : Bool) (v w : OneView) (call : Call) (reply : Reply) (old new : List ℕ) → CalledGuarded core place (RefusedCall place poll) v call reply old new w → (reply ≡ guard_reply poll) ⊎ (has_form call reply ≡ true)
form_guarded place poll v w call reply old new c = form_by place poll v.number call reply c.wrote c.closed c.answered

-- how much it has written
length_by : (place : ℕ) (poll : Bool) (n : ℕ) (call : Call) (reply : Reply) (wrote : List ℕ) (b : Bool) → FitsCall call → IsAnswered core n (cond b (RefusedCall place poll) call) reply wrote → (reply ≡ guard_reply poll) ⊎ (length wrote ≡ bytes_written call reply)
length_by place poll n call reply wrote true fits a = inl a.reply_is
length_by place poll n call reply wrote false fits a = inr (ap (λ (l : List ℕ). length l) a.bytes_are ∙ ((legal_replies_tell_lengths StandsFor).lengths.behind_a_history a.before a.legal_before n call fits ∙ ap (λ r. bytes_written call r) (sym a.reply_is)))

pub length_guarded : (place : ℕ) (poll : Bool) (v w : OneView) (call : Call) (reply : Reply) (old new : List ℕ) → FitsCall call → CalledGuarded core place (RefusedCall place poll) v call reply old new w
    → (bytes : List ℕ) × (new ≡ bytes ++ drop (length bytes) old) × ((reply ≡ guard_reply poll) ⊎ (length bytes ≡ bytes_written call reply))
length_guarded place poll v w call reply old new fits c = (c.wrote, c.bytes, length_by place poll v.number call reply c.wrote c.closed fits c.answered)

-- a read gives no more bytes than its buffer has
pub few_read : (call : Call) (reply : Reply) (old new : List ℕ) (limit : ℕ) → bytes_written call reply ≡ number_answered reply → length new < limit → (bytes : List ℕ) × (new ≡ bytes ++ drop (length bytes) old) × ((reply ≡ guard_reply false) ⊎ (length bytes ≡ bytes_written call reply))
    → number_answered reply < limit
few_read call reply old new limit is few h = let all = length-append h.0 (drop (length h.0) old) in let size : length new ≡ length (h.0 ++ drop (length h.0) old) = ap (λ (l : List ℕ). length l) h.1 in
    ⊎_elim (λ e. let none : number_answered reply ≡ 0 = ap (λ r. number_answered r) e in omega arith) (λ e. let same : length h.0 ≡ number_answered reply = e ∙ is in omega arith) h.2

made_by_snoc : (calls : List (Called Kept)) (called : Called Kept) → made_by (calls ++ called ∷ []) ≡ made_by calls ++ called.made
made_by_snoc [] called = append-nil called.made
made_by_snoc (c ∷ calls) called = ap (λ l. c.made ++ l) (made_by_snoc calls called) ∙ sym (append_assoc c.made (made_by calls) called.made)

each_snoc : {X : Type 0} (P : X → Type 0) (xs : List X) (x : X) → Each P xs → P x → Each P (xs ++ x ∷ [])
each_snoc P [] x h p = (p, tt)
each_snoc P (y ∷ ys) x h p = (h.0, each_snoc P ys x h.1 p)

-- one more whole call
calls_on : (n : ℕ) (mine : List OneEntry) (called : Called Kept) → AreOfCalls StandsFor n mine → IsCalled StandsFor n called → AreOfCalls StandsFor n (mine ++ called.made)
calls_on n mine called of one = record {
  calls = of.calls ++ called ∷ [];
  each = each_snoc (IsCalled StandsFor n) of.calls called of.each one;
  are = ap (λ l. l ++ called.made) of.are ∙ sym (made_by_snoc of.calls called);
}

-- an actor that made a whole call is idle again
pub idle_called : (limit : ℕ) (v w : OneView) (call : DeviceCall) (reply : Reply) (bytes : List ℕ) → IsIdle v → IsFree core w → HasCalled limit v call reply bytes w → IsIdle w
idle_called limit v w call reply bytes idle free c = record {
  free = free;
  whole_calls = subst (λ (x : ℕ × List OneEntry). AreOfCalls StandsFor x.0 x.1) (λ i. (sym c.grew.number i, sym c.grew.mine i))
      (calls_on v.number v.mine (record { closed = c.closed; call = call; answer = c.answer; own = c.own; made = entries_in c.did }) idle.whole_calls (record { makes = c.makes; quiet = c.may_own.quiet; no_claims = c.may_own.no_claims }));
}

-- and so is one that made no entry
pub idle_still : (v w : OneView) → IsIdle v → IsFree core w → Grew core v [] w → IsIdle w
idle_still v w idle free grew = record {
  free = free;
  whole_calls = subst (λ (x : ℕ × List OneEntry). AreOfCalls StandsFor x.0 x.1) (λ i. (sym grew.number i, (sym (append-nil v.mine) ∙ sym grew.mine) i)) idle.whole_calls;
}

pub no_room_alone : (v w : OneView) → StoodFull core v w → FoundNoRoom core v w
no_room_alone v w full = record { grew = full.grew; full = full.full; legal = full.legal; knows_as_much = knows_same v w full.same.closed full.same.drained }

-- the actor after a call of the gate that was made or was not
pub idle_alone : (r : Result Reply Errno) (v w : OneView) (call : Call) (old new : List ℕ) (Taken Left : Type 0) → is_single call ≡ true → guarded_place call ≡ None → length new ≡ 0 → IsIdle v → Owes core w 0 → IfOk r (λ reply. CalledOnce core v call reply old new w)
    → IfErr r (λ e. (e ≡ Full) × Taken × Left × StoodFull core v w) → IsIdle w
idle_alone (Ok reply) v w call old new T L single none empty idle owes step full = idle_called 0 v w (Once call) reply [] idle (is_free core w (step.same.inside ∙ idle.free.inside) owes) (called_alone v w call reply old new single none empty step)
idle_alone (Err errno) v w call old new T L single none empty idle owes step full = idle_still v w idle (is_free core w (full.3.same.inside ∙ idle.free.inside) owes) full.3.grew

pub idle_guarded : (r : Result Reply Errno) (place : ℕ) (poll : Bool) (v w : OneView) (call : Call) (whole : DeviceCall) (old new : List ℕ) (Left : Type 0) → IsOneEntry place poll call whole → IsIdle v → IsFree core w
    → IfOk r (λ reply. CalledGuarded core place (RefusedCall place poll) v call reply old new w) → IfErr r (λ e. (e ≡ Full) × Left × FoundNoRoom core v w) → IsIdle w
idle_guarded (Ok reply) place poll v w call whole old new L one idle free c full = let h = called_guarded place poll v w call whole reply old new one c in idle_called 0 v w whole reply h.0 idle free h.2
idle_guarded (Err errno) place poll v w call whole old new L one idle free c full = idle_still v w idle free full.2.grew

-- what is said of an actor's pass is said of the actor
pub seen_from : {P : Type 0} (a b : ActorValue P) (Q : OneView → Type 0) → a ≡ b → Q a.pass.view → Q b.pass.view
seen_from a b Q e = subst (λ x. Q x.pass.view) e

pub port_from : {P : Type 0} (a b : ActorValue P) → a ≡ b → a.port ≡ b.port
port_from a b e = ap (λ x. x.port) e

abbrev is_some_entry : Option OneEntry → Bool
is_some_entry (Some e) = true
is_some_entry None = false

abbrev reply_in : Option OneEntry → Option Reply
reply_in (Some e) = Some e.reply
reply_in None = None

none_not_some_entry : (e : OneEntry) → None ≡ Some e → ⊥
none_not_some_entry e is = true≢false (sym (ap is_some_entry is))

pub last_reply_is : (made : List OneEntry) (last : OneEntry) → last_entry made ≡ Some last → last_reply made ≡ Some last.reply
last_reply_is [] last e = absurd (none_not_some_entry last e)
last_reply_is (x ∷ []) last e = ap reply_in e
last_reply_is (x ∷ y ∷ zs) last e = last_reply_is (y ∷ zs) last e

abbrev pub reply_or : Reply → Option Reply → Reply
reply_or d (Some r) = r
reply_or d None = d

-- what a call is answered at its last entry, the machine answered there
answered_at : (limit : ℕ) (v w : OneView) (call : DeviceCall) (reply : Reply) (bytes : List ℕ) (called : HasCalled limit v call reply bytes w) → core.reply_of (fold core called.last.at.0) called.last.last.actor called.last.last.call ≡ reply
answered_at limit v w call reply bytes called =
    let l = called.last in
    let told : l.last.reply ≡ reply = ap (reply_or reply) (sym (last_reply_is (entries_in called.did) l.last l.is_last) ∙ called.reply_is) in
    let answered = answered_rest core core.opening l.at.0 (l.last ∷ []) (subst (λ s. Answered core s) l.at.1 called.legal.0) in sym answered.0 ∙ told

-- whatever a call of the device made, it isn't answered that the history is full
pub called_not_full : (limit : ℕ) (v w : OneView) (call : DeviceCall) (reply : Reply) (bytes : List ℕ) → HasCalled limit v call reply bytes w → reply ≢ Refused Full
called_not_full limit v w call reply bytes c is = replies_have_form.not_full (fold core c.last.at.0) c.last.last.actor c.last.last.call (answered_at limit v w call reply bytes c ∙ is)

-- nor being out of memory
pub called_not_memory : (limit : ℕ) (v w : OneView) (call : DeviceCall) (reply : Reply) (bytes : List ℕ) → HasCalled limit v call reply bytes w → reply ≢ Refused NoMemory
called_not_memory limit v w call reply bytes c is = replies_have_form.no_memory (fold core c.last.at.0) c.last.last.actor c.last.last.call (answered_at limit v w call reply bytes c ∙ is)

-- a call that was made comes out as its reply
pub is_made : {X : Type 0} (value : Reply → X) (result : Result X Errno) (v w : OneView) (call : DeviceCall) (bytes : List ℕ) (reply : Reply) → result ≡ value_of value reply → reply ≢ Refused Full → HasCalled 0 v call reply bytes w
    → ComesOut (λ r. value_of value r) result v call bytes w
is_made value result v w call bytes reply is not_full called = inl record { reply = reply; result_is = is; not_full = λ full. not_full (errno_is_told value Full reply (sym is ∙ full)); not_memory = λ none. called_not_memory 0 v w call reply bytes called (errno_is_told value NoMemory reply (sym is ∙ none)); called = called }

-- and one for which the history had no room
pub is_full : {X : Type 0} (value : Reply → X) (errno : Errno) (v w : OneView) (call : DeviceCall) → errno ≡ Full → FoundNoRoom core v w → ComesOut {X = X} (λ r. value_of value r) (Err errno) v call [] w
is_full value errno v w call is full = inr (ap Err is, full, refl)

-- a call without a buffer wrote nothing
pub made_with_nothing : (v w : OneView) (call : DeviceCall) (reply : Reply) (old new : List ℕ) → length new ≡ 0 → (bytes : List ℕ) × (new ≡ bytes ++ drop (length bytes) old) × HasCalled 0 v call reply bytes w → HasCalled 0 v call reply [] w
made_with_nothing v w call reply old new empty h = subst (λ (bytes : List ℕ). HasCalled 0 v call reply bytes w) (nothing_wrote h.0 (drop (length h.0) old) (sym (ap (λ (l : List ℕ). length l) h.1) ∙ empty)) h.2
