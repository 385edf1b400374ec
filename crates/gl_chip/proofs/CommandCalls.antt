-- A command that asks the driver, as a whole call of the device.
use Rattle.std.proofs.Common.{◌≡◌, ◌≢◌, ℕ, suc, ◌+◌, ◌<◌, ◌≤◌, List, [], ◌∷◌, ◌++◌, length, length-append, take, drop, sym, refl, ap, ◌∙◌, subst, arith, Bool, true, false, Option, Some, None, Result, Ok, Err, IfOk, IfErr, inl, inr}
use Rattle.std.proofs.lemmas.Bool.{true≢false}
use Rattle.std.proofs.lemmas.List.{append_assoc, append-nil}
use Rattle.gl_base.specs.Count.{Rises}
use Rattle.gl_base.specs.declared.errno.Errno.{Errno}
use Rattle.gl_base.specs.declared.errno.Errno.TheVariants.{Full, Io, NoDev}
use Rattle.gl_driver.specs.declared.map.Map.{Map}
use Rattle.gl_driver.proofs.Backs.{owes_at}
use Rattle.gl_driver.specs.Calls.{Drives, FitsOp, OwesAt}
use Rattle.gl_driver.specs.Maps.{map_for}
use Rattle.gl_driver.specs.Told.{Told, faults_after}
use Rattle.gl_base.specs.declared.op.Op.{Op}
use Rattle.gl_uapi.specs.Command.{command_of}
use Rattle.gl_uapi.specs.declared.commands.Command.{Command}
use Rattle.gl_uapi.specs.declared.commands.Command.TheVariants.{ChipInfo, LineInfo, Watch, Unwatch, GetLine, SetConfig, GetValues, SetValues}
use Rattle.gl_uapi.specs.declared.layout.TheConstants.{LINE_REQUEST_SIZE}
use Rattle.gl_world.specs.Deeds.{deeds_of, entries_in}
use Rattle.gl_world.specs.History.{Answered, Legal, StartsWith, entry, entries_of, fold}
use Rattle.gl_world.proofs.Deeds.{entries_in_append}
use Rattle.gl_world.proofs.Histories.{answered_prefix, answered_rest, placed_prefix}
use Rattle.gl_rule.specs.Sums.{times, without}
use Rattle.gl_chip.proofs.RequestedLines.{ask_no_number, told_number}
use Rattle.gl_chip.proofs.Idle.{OnePass}
use Rattle.gl_gate.specs.Calls.{IsInside, KnowsAsMuch, KnowsClosed, MayName}
use Rattle.gl_gate.specs.Grown.{Grew, IsFree, Moved}
use Rattle.gl_gate.specs.Values.{knowing}
use Rattle.gl_rule.specs.Views.{without_inside}
use Rattle.gl_gate.proofs.Grown.{begins_further, grows_on, moves_do_nothing}
use Rattle.gl_core.specs.Kept.{Kept, StandsFor}
use Rattle.gl_model.specs.declared.call.Call.{Call}
use Rattle.gl_model.specs.declared.call.Call.TheVariants.{Ioctl, Refused as RefusedCall}
use Rattle.gl_model.specs.declared.call.Part.{Part}
use Rattle.gl_model.specs.declared.call.Part.TheVariants.{Whole, Ask, Tell}
use Rattle.gl_model.specs.declared.gift.Gift.{Gift}
use Rattle.gl_model.specs.declared.reply.Reply.{Reply}
use Rattle.gl_model.specs.declared.reply.Reply.TheVariants.{Done, Number, Go, Found, Text, Ready, Refused}
use Rattle.gl_model.specs.Entries.{is_go, is_tell}
use Rattle.gl_model.specs.Fits.{Fits, FitsGift}
use Rattle.gl_model.specs.declared.device_call.CommandIn.{CommandIn}
use Rattle.gl_model.specs.declared.device_call.DeviceCall.TheVariants.{Commanding}
use Rattle.gl_model.specs.Parts.{MakesCommand, MakesRest, MakesTwo, in_ask, in_tell, is_driver_asked, last_reply}
use Rattle.gl_model.specs.Replies.{IoCause, has_form}
use Rattle.gl_model.specs.Step.{guard_reply}
use Rattle.gl_model.specs.World.{World}
use Rattle.gl_model.specs.Bounds.{HasBounds}
use Rattle.gl_model.proofs.Bounds.{legal_worlds_have_bounds}
use Rattle.gl_model.proofs.IoCauses.{io_has_cause}
use Rattle.gl_model.proofs.Replies.{replies_have_form}
use Rattle.gl_core.specs.Device.{MayOwn, OneDeed, OneEntry, core, last_bytes}
use Rattle.gl_chip.specs.Called.{last_entry}
use Rattle.gl_chip.specs.DriverCommands.{CommandedInside, HasCommanded, IoComesOf, IsOp, PortOf, is_asked}
use Rattle.gl_asking.specs.Handed.{command_in}
use Rattle.gl_asking.proofs.HandedBytes.{handed_fits, handed_start}
use Rattle.gl_base.specs.declared.limits.TheConstants.{PLACES}
use Rattle.gl_chip.specs.Steps.{CalledOnce, EndsWith, IsAsk, IsTell, StoodFull, deed_of}
use Rattle.gl_chip.specs.Values.{ActorValue, FollowsRelation, IsIdle, OneView, OwnRelation}
use Rattle.gl_chip.proofs.GateSteps.{knows_on, knows_same}
use Rattle.gl_chip.proofs.WholeCalls.{idle_called, idle_still, none_not_some, place_or}

pub ask_is_ask : (c : CommandIn) → IsAsk core (in_ask c)
ask_is_ask c = record { ends_not = refl; no_last_removal = refl; begins_no_removal = λ _ _. refl }

pub tell_is_tell : (answer : Option ℕ) (c : CommandIn) → IsTell core (in_tell answer c)
tell_is_tell answer c = record { ends_it = refl; begins_not = λ _. refl; no_last_removal = refl; begins_no_removal = λ _ _. refl }

-- a command names the place of its file
pub named_inside : (v : OneView) (place fd cmd len : ℕ) (bytes : List ℕ) (part : Part) → IsInside v place → MayName core v (Ioctl place fd cmd len bytes part)
named_inside v place fd cmd len bytes part inside = record {
  named = λ p at. subst (λ q. IsInside v q) (ap (place_or p) at) inside;
  refused = λ p at. absurd (none_not_some p at);
}

-- after the ask of a command its tell is owed at the place of its file
pub asked_here : (v w : OneView) (c : CommandIn) (reply : Reply) (old new : List ℕ) → CalledOnce core v (in_ask c) reply old new w → OwesAt core w c.place
asked_here v w c reply old new step = owes_at core v w (deed_of v.number (in_ask c) reply step.wrote) c.place step.grew.mine (λ p at. sym (ap (place_or p) at))

-- a call that is known as a part of a command
pub as_part : (v w : OneView) (call part : Call) (reply : Reply) (old new : List ℕ) → call ≡ part → CalledOnce core v call reply old new w → CalledOnce core v part reply old new w
as_part v w call part reply old new is step = subst (λ (x : Call). CalledOnce core v x reply old new w) is step

-- what the machine answered at the last entry
pub answered_last : (v w : OneView) (call : Call) (reply : Reply) (last : EndsWith w.seen (entry v.number call reply)) → Legal core w.seen → reply ≡ core.reply_of (fold core last.0) v.number call
answered_last v w call reply last legal = (answered_rest core core.opening last.0 (entry v.number call reply ∷ []) (subst (λ s. Answered core s) last.1 legal.0)).0

-- EIO of an ask, and of a tell
io_asked : (Counted : Type 0) (w : World) (place fd : ℕ) (command : Option Command) (bytes : List ℕ) → IoCause w place fd command bytes Ask → IoComesOf Counted w place fd command bytes
io_asked C w place fd None bytes h = h
io_asked C w place fd (Some ChipInfo) bytes h = h
io_asked C w place fd (Some LineInfo) bytes h = h
io_asked C w place fd (Some Watch) bytes h = h
io_asked C w place fd (Some Unwatch) bytes h = h
io_asked C w place fd (Some GetLine) bytes (inl e) = absurd (true≢false (sym (ap is_tell e)))
io_asked C w place fd (Some GetLine) bytes (inr h) = inr h
io_asked C w place fd (Some SetConfig) bytes (inl e) = absurd (true≢false (sym (ap is_tell e)))
io_asked C w place fd (Some SetConfig) bytes (inr h) = inr h
io_asked C w place fd (Some GetValues) bytes e = absurd (true≢false (sym (ap is_tell e)))
io_asked C w place fd (Some SetValues) bytes e = absurd (true≢false (sym (ap is_tell e)))

abbrev answer_told : Part → Option ℕ
answer_told (Tell answer) = answer
answer_told Whole = Some 0
answer_told Ask = Some 0

io_told : (Counted : Type 0) (answer : Option ℕ) (w : World) (place fd : ℕ) (command : Option Command) (bytes : List ℕ) → (answer ≡ None → Counted) → IoCause w place fd command bytes (Tell answer) → IoComesOf Counted w place fd command bytes
io_told C answer w place fd None bytes f h = h
io_told C answer w place fd (Some ChipInfo) bytes f h = h
io_told C answer w place fd (Some LineInfo) bytes f h = h
io_told C answer w place fd (Some Watch) bytes f h = h
io_told C answer w place fd (Some Unwatch) bytes f h = h
io_told C answer w place fd (Some GetLine) bytes f (inl e) = inl (f (ap answer_told e))
io_told C answer w place fd (Some GetLine) bytes f (inr h) = inr h
io_told C answer w place fd (Some SetConfig) bytes f (inl e) = inl (f (ap answer_told e))
io_told C answer w place fd (Some SetConfig) bytes f (inr h) = inr h
io_told C answer w place fd (Some GetValues) bytes f e = f (ap answer_told e)
io_told C answer w place fd (Some SetValues) bytes f e = f (ap answer_told e)

-- a command that the machine looks at isn't answered as at a closed guard
not_gone : (w : World) (actor place fd cmd len : ℕ) (bytes : List ℕ) (part : Part) (reply : Reply) → reply ≡ core.reply_of w actor (Ioctl place fd cmd len bytes part) → reply ≢ guard_reply false
not_gone w actor place fd cmd len bytes part reply is gone = true≢false (sym (subst (λ r. has_form (Ioctl place fd cmd len bytes part) r ≡ true) (sym is ∙ gone) (replies_have_form.form w actor (Ioctl place fd cmd len bytes part))))

-- the bounds of the world in which the last entry was made
bounds_before : (seen : List OneEntry) (e : OneEntry) (last : EndsWith seen e) → Legal core seen → HasBounds (fold core last.0)
bounds_before seen e last legal = let whole : Legal core (last.0 ++ e ∷ []) = subst (λ l. Legal core l) last.1 legal in
    (legal_worlds_have_bounds StandsFor).behind_a_history last.0 (answered_prefix core core.opening last.0 (e ∷ []) whole.0, placed_prefix core core.opening last.0 (e ∷ []) whole.1)

abbrev is_number_reply : Reply → Bool
is_number_reply (Number n) = true
is_number_reply _ = false

-- at a closed guard no number is answered
pub refused_no_number : (v w : OneView) (place : ℕ) (reply : Reply) (old new : List ℕ) → CalledOnce core v (RefusedCall place false) reply old new w → (n : ℕ) → reply ≡ Number n → ⊥
refused_no_number v w place reply old new step n is = true≢false (ap is_number_reply (sym is ∙ step.answered.reply_is))

last_entry_snoc : (xs : List OneEntry) (e : OneEntry) → last_entry (xs ++ e ∷ []) ≡ Some e
last_entry_snoc [] e = refl
last_entry_snoc (x ∷ []) e = refl
last_entry_snoc (x ∷ y ∷ zs) e = last_entry_snoc (y ∷ zs) e

pub last_entry_on : (x : OneEntry) (xs : List OneEntry) (e : OneEntry) → last_entry (x ∷ (xs ++ e ∷ [])) ≡ Some e
last_entry_on x xs e = last_entry_snoc (x ∷ xs) e

pub last_reply_snoc : (xs : List OneEntry) (e : OneEntry) → last_reply (xs ++ e ∷ []) ≡ Some e.reply
last_reply_snoc [] e = refl
last_reply_snoc (x ∷ []) e = refl
last_reply_snoc (x ∷ y ∷ zs) e = last_reply_snoc (y ∷ zs) e

last_bytes_snoc : (xs : List OneDeed) (d : OneDeed) → last_bytes (xs ++ d ∷ []) ≡ d.bytes
last_bytes_snoc [] d = refl
last_bytes_snoc (x ∷ []) d = refl
last_bytes_snoc (x ∷ y ∷ zs) d = last_bytes_snoc (y ∷ zs) d

abbrev is_no_dev : Reply → Bool
is_no_dev (Refused NoDev) = true
is_no_dev _ = false

pub not_gone_io : guard_reply false ≡ Refused Io → ⊥
not_gone_io e = true≢false (ap is_no_dev e)

owns_nothing : MayOwn []
owns_nothing = record { quiet = tt; no_claims = tt }

-- the number in a reply that says Go
pub go_is : (reply : Reply) → is_go reply ≡ true → (n : ℕ) × (reply ≡ Go n)
go_is Done e = absurd (true≢false (sym e))
go_is (Number n) e = absurd (true≢false (sym e))
go_is (Go n) e = (n, refl)
go_is (Found p o n) e = absurd (true≢false (sym e))
go_is (Text t) e = absurd (true≢false (sym e))
go_is (Ready b) e = absurd (true≢false (sym e))
go_is (Refused errno) e = absurd (true≢false (sym e))

-- an ask that is answered Go writes nothing
pub go_wrote_nothing : (v w : OneView) (c : CommandIn) (reply : Reply) (old new : List ℕ) (step : CalledOnce core v (in_ask c) reply old new w) → is_go reply ≡ true → step.wrote ≡ []
go_wrote_nothing v w c reply old new step go = let g = go_is reply go in let a = step.answered in a.bytes_are ∙ replies_have_form.go_writes_nothing (fold core a.before) v.number (in_ask c) g.0 (sym a.reply_is ∙ g.1)

pub go_left_buffer : (v w : OneView) (c : CommandIn) (reply : Reply) (old new : List ℕ) → CalledOnce core v (in_ask c) reply old new w → is_go reply ≡ true → new ≡ old
go_left_buffer v w c reply old new step go = step.bytes ∙ ap (λ (l : List ℕ). l ++ drop (length l) old) (go_wrote_nothing v w c reply old new step go)

-- what holds of an operation after Go
pub fits_after_go : (v w : OneView) (c : CommandIn) (op : Option Op) (reply : Reply) (old new : List ℕ) → CalledOnce core v (in_ask c) reply old new w → is_go reply ≡ true
    → ((world : World) (actor n : ℕ) → core.reply_of world actor (in_ask c) ≡ Go n → IsOp op) → IsOp op
fits_after_go v w c op reply old new step go fits = let g = go_is reply go in let a = step.answered in fits (fold core a.before) v.number g.0 (sym a.reply_is ∙ g.1)

-- a reply that can't be Go isn't
pub never_go : (reply : Reply) → (is_go reply ≡ true → ⊥) → is_go reply ≡ false
never_go reply never = by_test (is_go reply) refl
  where
    by_test : (go : Bool) → is_go reply ≡ go → is_go reply ≡ false
    by_test true e = absurd (never e)
    by_test false e = e

-- a pass does as many deeds as it makes entries
entries_length : (did : List OneDeed) → length (entries_in did) ≡ length did
entries_length [] = refl
entries_length (d ∷ ds) = let e = entries_length ds in omega (arith, e)

-- before the last entry stand at least those that its pass had seen when it made it
fewer_by : (n : ℕ) (v : List OneEntry) (d : OneDeed) (rest before : List OneEntry) (e : OneEntry) → v ++ rest ≡ before ++ e ∷ [] → deeds_of core n (v ++ rest) ≡ deeds_of core n v ++ d ∷ [] → length v ≤ length before
fewer_by n v d [] before e at did = let same : deeds_of core n v ≡ deeds_of core n v ++ d ∷ [] = ap (λ l. deeds_of core n l) (sym (append-nil v)) ∙ did in
    let long : length (deeds_of core n v) ≡ length (deeds_of core n v) + 1 = ap (λ l. length l) same ∙ length-append (deeds_of core n v) (d ∷ []) in absurd (omega arith)
fewer_by n v d (x ∷ xs) before e at did = let long : length v + suc (length xs) ≡ length before + 1 = sym (length-append v (x ∷ xs)) ∙ (ap (λ l. length l) at ∙ length-append before (e ∷ [])) in omega arith

saw_fewer : (u x : OneView) (d : OneDeed) (e : OneEntry) → Grew core u (d ∷ []) x → (last : EndsWith x.seen e) → length u.seen ≤ length last.0
saw_fewer u x d e grew last = fewer_by u.number u.seen d grew.seen.0 last.0 e (sym grew.seen.1 ∙ last.1) (ap (λ l. deeds_of core u.number l) (sym grew.seen.1) ∙ grew.deeds)

module _ {P : Type 0} (told : P → Option Told) (faults : P → ℕ) (maps : P → List Map) (maps_left : P → ℕ) (Own : OwnRelation) (Follows : FollowsRelation) (limit : ℕ) where
  -- the driver wasn't asked
  pub not_asked : (op : Option Op) (v w : OneView) (p : P) (c : CommandIn) (reply : Reply) (old new : List ℕ) → CalledOnce core v (in_ask c) reply old new w → is_go reply ≡ false
      → CommandedInside told faults maps maps_left Own Follows limit op v p c reply old new w p
  not_asked op v w p c reply old new step unasked = record {
    answer = None;
    own = [];
    did = deed_of v.number (in_ask c) reply step.wrote ∷ [];
    makes = (reply, [], refl, subst (λ b. MakesRest {M = Kept} v.number b (in_tell None c) [] []) (sym unasked) (refl, refl));
    few_own = omega arith;
    may_own = owns_nothing;
    grew = step.grew;
    last = record { last = entry v.number (in_ask c) reply; is_last = refl; at = step.last };
    had_room = record { first = entry v.number (in_ask c) reply; is_first = refl; before = step.last.0; behind = []; at = step.last.1; room_left = step.had_room refl; own_before = step.own_before };
    legal = step.legal;
    reply_is = refl;
    bytes = step.bytes;
    port = subst (λ b. PortOf told faults maps maps_left Own Follows limit b op c.place None [] (deed_of v.number (in_ask c) reply step.wrote ∷ []) v.room (length step.last.0) p p) (sym unasked) refl;
    never_falls = omega arith;
    io = λ is. io_asked (Rises (faults p) (faults p)) (fold core step.last.0) c.place c.fd (command_of c.cmd) c.bytes
        (io_has_cause (fold core step.last.0) v.number c.place c.fd c.cmd c.len c.bytes Ask (sym (answered_last v w (in_ask c) reply step.last step.legal) ∙ is));
    let_in = not_gone (fold core step.last.0) v.number c.place c.fd c.cmd c.len c.bytes Ask reply (answered_last v w (in_ask c) reply step.last step.legal);
    numbered = λ n is. absurd (ask_no_number (command_of c.cmd) n (subst (λ r. has_form (in_ask c) r ≡ true) (sym (answered_last v w (in_ask c) reply step.last step.legal) ∙ is) (replies_have_form.form (fold core step.last.0) v.number (in_ask c))));
    knows_as_much = knows_same v w step.same.closed step.same.drained;
  }

  -- it was asked, and the machine told
  pub asked_and_told : (op : Option Op) (asked_for : Op) (v w u x : OneView) (p q : P) (c : CommandIn) (first : Reply) (answer : Option ℕ) (reply : Reply) (old mid new : List ℕ)
      → CalledOnce core v (in_ask c) first old mid w → is_go first ≡ true → op ≡ Some asked_for → FitsOp asked_for
      → (drives : Drives core limit Own Follows (map_for limit c.place (maps p)) asked_for (told p) (told q) answer w u) → MayOwn (entries_in drives.did) → CalledOnce core u (in_tell answer c) reply mid new x
      → maps q ≡ maps p → maps_left q ≡ maps_left p → faults p ≤ faults q → (answer ≡ None → Rises (faults p) (faults q)) → faults q ≡ faults_after answer (faults p)
      → CommandedInside told faults maps maps_left Own Follows limit op v p c reply old new x q
  asked_and_told op asked_for v w u x p q c first answer reply old mid new step go this fits drives may last same_maps same_left never counted after =
      let did : List OneDeed = drives.did in
      let own : List OneEntry = entries_in did in
      let grew = drives.back.grew in
      let number : u.number ≡ v.number = grew.number ∙ step.grew.number in
      let second : OneEntry = entry v.number (in_tell answer c) reply in
      let told_deed : OneDeed = deed_of v.number (in_tell answer c) reply last.wrote in
      let ask_deed : OneDeed = deed_of v.number (in_ask c) first step.wrote in
      let entries : entries_in (did ++ told_deed ∷ []) ≡ own ++ second ∷ [] = entries_in_append did (told_deed ∷ []) in
      let ends : EndsWith x.seen second = (last.last.0, last.last.1 ∙ ap (λ n. last.last.0 ++ entry n (in_tell answer c) reply ∷ []) number) in
      let answered : reply ≡ core.reply_of (fold core ends.0) v.number (in_tell answer c) = answered_last v x (in_tell answer c) reply ends last.legal in
      let seen : StartsWith x.seen w.seen = begins_further x.seen u.seen w.seen last.grew.seen grew.seen in
      record {
        answer = answer;
        own = own;
        did = ask_deed ∷ (did ++ told_deed ∷ []);
        makes = (first, own ++ second ∷ [], ap (λ l. entry v.number (in_ask c) first ∷ l) entries, subst (λ b. MakesRest {M = Kept} v.number b (in_tell answer c) own (own ++ second ∷ [])) (sym go) (reply, refl));
        few_own = let few = drives.few in let same = entries_length did in omega (arith, few, same);
        may_own = may;
        grew = grows_on core v w x (ask_deed ∷ []) (did ++ told_deed ∷ []) step.grew (grows_on core w u x did (told_deed ∷ []) grew (subst (λ n. Grew core u (deed_of n (in_tell answer c) reply last.wrote ∷ []) x) number last.grew));
        last = record { last = second; is_last = ap (λ l. last_entry (entry v.number (in_ask c) first ∷ l)) entries ∙ last_entry_on (entry v.number (in_ask c) first) own second; at = ends };
        had_room = record {
          first = entry v.number (in_ask c) first;
          is_first = refl;
          before = step.last.0;
          behind = seen.0;
          at = seen.1 ∙ (ap (λ l. l ++ seen.0) step.last.1 ∙ append_assoc step.last.0 (entry v.number (in_ask c) first ∷ []) seen.0);
          room_left = step.had_room refl;
          own_before = step.own_before;
        };
        legal = last.legal;
        reply_is = ap (λ l. last_reply (entry v.number (in_ask c) first ∷ l)) entries ∙ last_reply_snoc (entry v.number (in_ask c) first ∷ own) second;
        bytes = subst (λ (l : List ℕ). new ≡ l ++ drop (length l) old) (sym (last_bytes_snoc (ask_deed ∷ did) told_deed)) (subst (λ (m : List ℕ). new ≡ last.wrote ++ drop (length last.wrote) m) (go_left_buffer v w c first old mid step go) last.bytes);
        port = subst (λ b. PortOf told faults maps maps_left Own Follows limit b op c.place answer own (ask_deed ∷ (did ++ told_deed ∷ [])) v.room (length last.last.0) p q) (sym go) record {
          asked_for = asked_for;
          is_this = this;
          ask = ask_deed;
          did = did;
          tell = told_deed;
          deeds_are = refl;
          did_own = refl;
          seen = length u.seen;
          seen_before = saw_fewer u x (deed_of u.number (in_tell answer c) reply last.wrote) (entry u.number (in_tell answer c) reply) last.grew last.last;
          own_entries = drives.own;
          follows = subst (λ k. Follows (map_for limit c.place (maps p)) (told p) asked_for did k (length u.seen) answer) step.grew.room drives.follows;
          told_then = drives.told;
          counted = counted;
          count_after = after;
          same_maps = same_maps;
          same_left = same_left;
        };
        never_falls = never;
        io = λ is. io_told (Rises (faults p) (faults q)) answer (fold core ends.0) c.place c.fd (command_of c.cmd) c.bytes counted
            (io_has_cause (fold core ends.0) v.number c.place c.fd c.cmd c.len c.bytes (Tell answer) (sym answered ∙ is));
        let_in = not_gone (fold core ends.0) v.number c.place c.fd c.cmd c.len c.bytes (Tell answer) reply answered;
        numbered = λ n is. (
          told_number (fold core ends.0) (bounds_before x.seen second ends last.legal) v.number c.place c.fd c.len c.bytes answer (command_of c.cmd) n (sym answered ∙ is)
              (subst (λ r. has_form (in_tell answer c) r ≡ true) (sym answered ∙ is) (replies_have_form.form (fold core ends.0) v.number (in_tell answer c))),
          subst (λ (o : Option Op). IsOp o) (sym this) fits,
        );
        knows_as_much = knows_on v w x (knows_same v w step.same.closed step.same.drained) (knows_on w u x drives.back.knows (knows_same u x last.same.closed last.same.drained));
      }

  -- a command whose actor entered its place and left it again
  pub called_command : (op : Option Op) (a b : ActorValue P) (v w : OneView) (c : CommandIn) (reply : Reply) (old new : List ℕ) → is_driver_asked c.of_chip c.len (command_of c.cmd) ≡ true
      → Moved core a.pass.view v → KnowsAsMuch a.pass.view v → (KnowsClosed a.pass.view c.place → ⊥) → CommandedInside told faults maps maps_left Own Follows limit op v a.port c reply old new w b.port
      → Moved core w b.pass.view → b.pass.view.closed ≡ w.closed → b.pass.view.drained ≡ w.drained
      → (bytes : List ℕ) × (new ≡ bytes ++ drop (length bytes) old) × HasCommanded told faults maps maps_left Own Follows limit op a c reply bytes b
  called_command op a b v w c reply old new asks entered knows unknown did left closed drained =
      let n = entered.number in (
        last_bytes did.did,
        did.bytes,
        record {
          called = record {
            closed = false;
            answer = did.answer;
            own = did.own;
            did = did.did;
            makes = (refl, subst (λ asked. MakesCommand {M = Kept} a.pass.view.number asked did.answer c did.own (entries_in did.did)) (sym asks) (subst (λ k. MakesTwo {M = Kept} k (in_ask c) (in_tell did.answer c) did.own (entries_in did.did)) n did.makes));
            few_own = did.few_own;
            may_own = did.may_own;
            grew = subst (λ (l : List OneDeed). Grew core a.pass.view l b.pass.view) (append-nil did.did)
                (grows_on core a.pass.view w b.pass.view did.did [] (grows_on core a.pass.view v w [] did.did (moves_do_nothing core a.pass.view v entered) did.grew) (moves_do_nothing core w b.pass.view left));
            last = record { last = did.last.last; is_last = did.last.is_last; at = (did.last.at.0, left.seen ∙ did.last.at.1) };
            had_room = let h = did.had_room in record { first = h.first; is_first = h.is_first; before = h.before; behind = h.behind; at = left.seen ∙ h.at; room_left = subst (λ k. length h.before < k) entered.room h.room_left; own_before = ap (λ k. entries_of k h.before) (sym n) ∙ (h.own_before ∙ entered.mine) };
            legal = subst (λ l. Legal core l) (sym left.seen) did.legal;
            reply_is = did.reply_is;
            bytes_are = refl;
            guard = λ p its. record {
              known = λ k. absurd (unknown (subst (λ q. KnowsClosed a.pass.view q) (sym (ap (place_or p) its)) k));
              knows = λ f. absurd (true≢false (sym f));
              gone = λ f. absurd (true≢false (sym f));
              gone_alone = λ is. absurd (did.let_in is);
            };
            knows_as_much = knows_on a.pass.view v b.pass.view knows (knows_on v w b.pass.view did.knows_as_much (knows_same w b.pass.view closed drained));
          };
          port = subst (λ k. PortOf told faults maps maps_left Own Follows limit (is_asked (entries_in did.did)) op c.place did.answer did.own did.did k (length did.last.at.0) a.port b.port) entered.room did.port;
          never_falls = did.never_falls;
          io = did.io;
        },
      )

  -- a command whose actor found its place closed
  pub turned_away : (op : Option Op) (a b : ActorValue P) (v : OneView) (c : CommandIn) (reply : Reply) (old new : List ℕ)
      → Moved core a.pass.view v → KnowsAsMuch a.pass.view v → KnowsClosed v c.place → CalledOnce core v (RefusedCall c.place false) reply old new b.pass.view → b.port ≡ a.port
      → (bytes : List ℕ) × (new ≡ bytes ++ drop (length bytes) old) × HasCommanded told faults maps maps_left Own Follows limit op a c reply bytes b
  turned_away op a b v c reply old new moved knows shut step same =
      let w = b.pass.view in
      let call : Call = RefusedCall c.place false in
      let ends : EndsWith w.seen (entry a.pass.view.number call reply) = (step.last.0, step.last.1 ∙ ap (λ n. step.last.0 ++ entry n call reply ∷ []) moved.number) in
      let told_gone : reply ≡ guard_reply false = answered_last a.pass.view w call reply ends step.legal in
      let d : OneDeed = deed_of a.pass.view.number call reply step.wrote in (
        step.wrote,
        step.bytes,
        record {
          called = record {
            closed = true;
            answer = None;
            own = [];
            did = d ∷ [];
            makes = (refl, (ap (λ r. entry a.pass.view.number call r ∷ []) told_gone, refl));
            few_own = omega arith;
            may_own = owns_nothing;
            grew = grows_on core a.pass.view v w [] (d ∷ []) (moves_do_nothing core a.pass.view v moved) (subst (λ n. Grew core v (deed_of n call reply step.wrote ∷ []) w) moved.number step.grew);
            last = record { last = entry a.pass.view.number call reply; is_last = refl; at = ends };
            had_room = record { first = entry a.pass.view.number call reply; is_first = refl; before = ends.0; behind = []; at = ends.1; room_left = subst (λ k. length step.last.0 < k) moved.room (step.had_room refl); own_before = ap (λ k. entries_of k step.last.0) (sym moved.number) ∙ (step.own_before ∙ moved.mine) };
            legal = step.legal;
            reply_is = refl;
            bytes_are = refl;
            guard = λ p its. record {
              known = λ _. refl;
              knows = λ _. subst (λ q. KnowsClosed w q) (ap (place_or p) its) (subst (λ l. 0 < times c.place l) (sym step.same.closed) shut);
              gone = λ _. told_gone;
              gone_alone = λ _. refl;
            };
            knows_as_much = knows_on a.pass.view v w knows (knows_same v w step.same.closed step.same.drained);
          };
          port = same;
          never_falls = subst (λ x. faults a.port ≤ faults x) (sym same) (omega arith);
          io = λ is. absurd (not_gone_io (sym told_gone ∙ is));
        },
      )

-- the ask of a command with the buffer that it is called with
pub fits_ask : (c : CommandIn) (buffer : List ℕ) (gift : Gift) → c.place < PLACES → c ≡ command_in c.place c.fd c.of_chip c.cmd buffer → FitsGift (in_ask c) gift → Fits (in_ask c) gift buffer
fits_ask c buffer gift below is brings = subst (λ (x : CommandIn). Fits (in_ask x) gift buffer) (sym is)
    record { fits_call = (below, handed_fits buffer); brings = subst (λ (x : CommandIn). FitsGift (in_ask x) gift) is brings; buffer_fits = (refl, handed_start buffer) }

-- and its tell, with the buffer as it was
pub fits_tell : (c : CommandIn) (buffer now : List ℕ) (answer : Option ℕ) (gift : Gift) → c.place < PLACES → c ≡ command_in c.place c.fd c.of_chip c.cmd buffer → now ≡ buffer → Fits (in_tell answer c) gift now
fits_tell c buffer now answer gift below is same = subst (λ (x : CommandIn). Fits (in_tell answer x) gift now) (sym is)
    record { fits_call = (below, handed_fits buffer); brings = tt; buffer_fits = (ap (λ (l : List ℕ). length l) same, ap (λ (l : List ℕ). take LINE_REQUEST_SIZE l) same ∙ handed_start buffer) }

-- where a pass is after a call alone that was made or wasn't
pub inside_after : (r : Result Reply Errno) (v w : OneView) (call : Call) (old new : List ℕ) (Left : Type 0) → IfOk r (λ reply. CalledOnce core v call reply old new w) → IfErr r (λ e. (e ≡ Full) × Left × StoodFull core v w) → w.inside ≡ v.inside
inside_after (Ok reply) v w call old new L step full = step.same.inside
inside_after (Err errno) v w call old new L step full = full.2.same.inside

-- the same of a call that brought a gift
pub inside_after_gift : (r : Result Reply Errno) (v w : OneView) (call : Call) (old new : List ℕ) (Left Gift : Type 0) → IfOk r (λ reply. CalledOnce core v call reply old new w) → IfErr r (λ e. (e ≡ Full) × Left × Gift × StoodFull core v w) → w.inside ≡ v.inside
inside_after_gift (Ok reply) v w call old new L G step full = step.same.inside
inside_after_gift (Err errno) v w call old new L G step full = full.3.same.inside

-- where it is after it has left a place
pub left_place : (place : ℕ) (x y : OnePass) → y ≡ knowing x (without_inside x.view place) → y.view.inside ≡ without place x.view.inside
left_place place x y is = ap (λ (z : OnePass). z.view.inside) is

-- an actor that made a command, or found no room for it, is idle again
pub idle_commanded : {P : Type 0} (told : P → Option Told) (faults : P → ℕ) (maps : P → List Map) (maps_left : P → ℕ) (Own : OwnRelation) (Follows : FollowsRelation) (limit : ℕ)
    (r : Result Reply Errno) (op : Option Op) (a b : ActorValue P) (c : CommandIn) (old new : List ℕ) → IsIdle a.pass.view → IsFree core b.pass.view
    → IfOk r (λ reply. (bytes : List ℕ) × (new ≡ bytes ++ drop (length bytes) old) × HasCommanded told faults maps maps_left Own Follows limit op a c reply bytes b) → IfErr r (λ e. Grew core a.pass.view [] b.pass.view) → IsIdle b.pass.view
idle_commanded told faults maps maps_left Own Follows limit (Ok reply) op a b c old new idle free did full = idle_called limit a.pass.view b.pass.view (Commanding c) reply did.0 idle free did.2.called
idle_commanded told faults maps maps_left Own Follows limit (Err errno) op a b c old new idle free did full = idle_still a.pass.view b.pass.view idle free full
