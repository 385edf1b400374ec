-- The entries of a removal.
use Rattle.std.proofs.Common.{◌≡◌, ℕ, ◌+◌, ◌-◌, ◌<◌, ◌≤◌, List, [], ◌∷◌, ◌++◌, length, drop, sym, refl, ap, ◌∙◌, subst, arith, Bool, true, false, Option, Some, None, Result, Err, IfOk, inl, inr, ⊎_elim}
use Rattle.std.specs.Prelude.{Contains, cond, slice_index_or}
use Rattle.std.proofs.lemmas.Bool.{true≢false}
use Rattle.std.proofs.lemmas.List.{append_assoc}
use Rattle.gl_base.specs.declared.errno.Errno.{Errno}
use Rattle.gl_base.specs.declared.errno.Errno.TheVariants.{Full, NoMemory}
use Rattle.gl_base.specs.declared.limits.TheConstants.{PLACES}
use Rattle.gl_world.specs.History.{Legal, entries_of, entry, fold, owed}
use Rattle.gl_world.specs.Removal.{AllQuiet, Removes}
use Rattle.gl_world.proofs.Histories.{answered_prefix, placed_prefix, entries_append}
use Rattle.gl_gate.specs.Calls.{Acts, HasItsOwn, KnowsClosed, KnowsDrained, MayEndRemoval, MayName, Refuses, SamePass}
use Rattle.gl_gate.specs.Grown.{Grew, IsFree, Moved}
use Rattle.gl_gate.proofs.Grown.{acts_are_deeds, grows_on, moves_do_nothing, still_removes_nothing}
use Rattle.gl_core.specs.Kept.{Kept, StandsFor}
use Rattle.gl_model.specs.declared.call.Call.{Call}
use Rattle.gl_model.specs.declared.call.Call.TheVariants.{Probe, Unplug, MakeDir, RemoveDir, Write, Read, Live, Remove, Tick, Pin, Irq, Pull, Level, Interrupt, OpenChip, Find, Ioctl, ReadEdges, ReadInfo, PollLine, PollChip, Close, Refused as RefusedCall}
use Rattle.gl_model.specs.declared.gift.Gift.{Gift}
use Rattle.gl_model.specs.declared.reply.Reply.{Reply}
use Rattle.gl_model.specs.declared.reply.Reply.TheVariants.{Done, Number, Go, Found, Text, Ready, Refused}
use Rattle.gl_model.specs.Chips.{places_from}
use Rattle.gl_model.specs.Entries.{awaited_call, begins, begun_places, ends, guarded_place, is_done, is_last_removal, last_call, places_named, refused_place}
use Rattle.gl_model.specs.Fits.{Fits, FitsCall}
use Rattle.gl_model.specs.Machine.{bytes_of, reply_of}
use Rattle.gl_model.specs.Outcome.{refused_or, writes}
use Rattle.gl_model.specs.declared.device_call.DeviceCall.{DeviceCall}
use Rattle.gl_model.specs.Parts.{MakesRest, MakesTwo, first_call, guard_of}
use Rattle.gl_model.specs.declared.device_call.RemovalOf.TheVariants.{OfChip, OfDevice}
use Rattle.gl_model.specs.declared.device_call.RemovalOf.{RemovalOf}
use Rattle.gl_model.specs.declared.device_call.DeviceCall.TheVariants.{Removing}
use Rattle.gl_model.specs.Removal.{removal_bytes, up_places}
use Rattle.gl_model.specs.World.{World}
use Rattle.gl_model.specs.Replies.{has_form}
use Rattle.gl_model.proofs.Replies.{replies_have_form}
use Rattle.gl_model.proofs.Bounds.{legal_worlds_have_bounds}
use Rattle.gl_model.proofs.EndingRemovals.{last_calls_are_done}
use Rattle.gl_model.proofs.Phases.{length-places_from, read_places, within_chips}
use Rattle.gl_chip.specs.Called.{HasCalled}
use Rattle.gl_chip.specs.Removals.{AllDrained, EndsAsBegun, HasBegun, HasDrained, HasEnded, RemovedBy, RemovesOut, is_first_call, removal_of}
use Rattle.gl_asking.specs.Results.{done_of}
use Rattle.gl_chip.specs.Steps.{FoundNoRoom, deed_of}
use Rattle.gl_chip.specs.Values.{IsIdle, OneView}
use Rattle.gl_core.specs.Device.{MayOwn, OneEntry, core}
use Rattle.gl_chip.proofs.GateSteps.{free_owes, is_free, knows_on, knows_same, own_in_front, owes_refused, stood_full}
use Rattle.gl_chip.proofs.WholeCalls.{called_not_full, called_not_memory, errno_is_told, idle_still, no_room_alone, none_not_some}

-- what the first and the last call of a removal are

pub first_is : (call : Call) → is_first_call call ≡ true → call ≡ first_call (removal_of call)
first_is (Probe a b c) s = absurd (true≢false (sym s))
first_is (Unplug a false) s = refl
first_is (Unplug a true) s = absurd (true≢false (sym s))
first_is (MakeDir a) s = absurd (true≢false (sym s))
first_is (RemoveDir a) s = absurd (true≢false (sym s))
first_is (Write a b) s = absurd (true≢false (sym s))
first_is (Read a) s = absurd (true≢false (sym s))
first_is (Live a) s = absurd (true≢false (sym s))
first_is (Remove a false) s = refl
first_is (Remove a true) s = absurd (true≢false (sym s))
first_is (Tick a b) s = absurd (true≢false (sym s))
first_is (Pin a b) s = absurd (true≢false (sym s))
first_is (Irq a b c) s = absurd (true≢false (sym s))
first_is (Pull a b c) s = absurd (true≢false (sym s))
first_is (Level a b c) s = absurd (true≢false (sym s))
first_is (Interrupt a b c) s = absurd (true≢false (sym s))
first_is (OpenChip a) s = absurd (true≢false (sym s))
first_is (Find a b) s = absurd (true≢false (sym s))
first_is (Ioctl a b c d e f) s = absurd (true≢false (sym s))
first_is (ReadEdges a b c) s = absurd (true≢false (sym s))
first_is (ReadInfo a b c) s = absurd (true≢false (sym s))
first_is (PollLine a b) s = absurd (true≢false (sym s))
first_is (PollChip a b) s = absurd (true≢false (sym s))
first_is (Close a) s = absurd (true≢false (sym s))
first_is (RefusedCall a b) s = absurd (true≢false (sym s))

-- what is true of the first call of every removal
by_removal : (P : Call → Type 0) → ((removal : RemovalOf) → P (first_call removal)) → (call : Call) → is_first_call call ≡ true → P call
by_removal P h call first = subst P (sym (first_is call first)) (h (removal_of call))

pub first_ends_not : (call : Call) → is_first_call call ≡ true → ends call ≡ false
first_ends_not call first = by_removal (λ call. ends call ≡ false) at call first
  where
    at : (removal : RemovalOf) → ends (first_call removal) ≡ false
    at (OfChip a) = refl
    at (OfDevice a) = refl

pub first_is_not_last : (call : Call) → is_first_call call ≡ true → is_last_removal call ≡ false
first_is_not_last call first = by_removal (λ call. is_last_removal call ≡ false) at call first
  where
    at : (removal : RemovalOf) → is_last_removal (first_call removal) ≡ false
    at (OfChip a) = refl
    at (OfDevice a) = refl

pub first_needs_no_place : (call : Call) → is_first_call call ≡ true → (guarded_place call ≡ None) × (refused_place call ≡ None)
first_needs_no_place call first = by_removal (λ call. (guarded_place call ≡ None) × (refused_place call ≡ None)) at call first
  where
    at : (removal : RemovalOf) → (guarded_place (first_call removal) ≡ None) × (refused_place (first_call removal) ≡ None)
    at (OfChip a) = (refl, refl)
    at (OfDevice a) = (refl, refl)

pub last_needs_no_place : (call : Call) → is_first_call call ≡ true → (guarded_place (last_call call) ≡ None) × (refused_place (last_call call) ≡ None)
last_needs_no_place call first = by_removal (λ call. (guarded_place (last_call call) ≡ None) × (refused_place (last_call call) ≡ None)) at call first
  where
    at : (removal : RemovalOf) → (guarded_place (last_call (first_call removal)) ≡ None) × (refused_place (last_call (first_call removal)) ≡ None)
    at (OfChip a) = (refl, refl)
    at (OfDevice a) = (refl, refl)

pub last_ends : (call : Call) → is_first_call call ≡ true → ends (last_call call) ≡ true
last_ends call first = by_removal (λ call. ends (last_call call) ≡ true) at call first
  where
    at : (removal : RemovalOf) → ends (last_call (first_call removal)) ≡ true
    at (OfChip a) = refl
    at (OfDevice a) = refl

-- it is at no guard, so a pass may make it wherever it is
pub last_names_nothing : (first call : Call) (v : OneView) → is_first_call first ≡ true → call ≡ last_call first → MayName core v call
last_names_nothing first call v is_first is = let none = last_needs_no_place first is_first in
    record { named = λ p e. absurd (none_not_some p (sym none.0 ∙ (ap guarded_place (sym is) ∙ e))); refused = λ p e. absurd (none_not_some p (sym none.1 ∙ (ap refused_place (sym is) ∙ e))) }

-- and it isn't refused for want of room
pub last_has_room : (first call : Call) (v w : OneView) → is_first_call first ≡ true → call ≡ last_call first → Refuses core v call w → ⊥
last_has_room first call v w is_first is refuses = true≢false (sym (last_ends first is_first) ∙ (ap ends (sym is) ∙ refuses.not_second))

pub last_begins_not : (call : Call) → is_first_call call ≡ true → (reply : Reply) → begins (last_call call) reply ≡ false
last_begins_not call first = by_removal (λ call. (reply : Reply) → begins (last_call call) reply ≡ false) at call first
  where
    at : (removal : RemovalOf) → (reply : Reply) → begins (last_call (first_call removal)) reply ≡ false
    at (OfChip a) r = refl
    at (OfDevice a) r = refl

pub last_begins_no_removal : (call : Call) → is_first_call call ≡ true → (reply : Reply) (bytes : List ℕ) → begun_places (last_call call) reply bytes ≡ []
last_begins_no_removal call first = by_removal (λ call. (reply : Reply) (bytes : List ℕ) → begun_places (last_call call) reply bytes ≡ []) at call first
  where
    at : (removal : RemovalOf) → (reply : Reply) (bytes : List ℕ) → begun_places (last_call (first_call removal)) reply bytes ≡ []
    at (OfChip a) r bytes = refl
    at (OfDevice a) r bytes = refl

pub first_begins : (call : Call) → is_first_call call ≡ true → (reply : Reply) → begins call reply ≡ is_done reply
first_begins call first = by_removal (λ call. (reply : Reply) → begins call reply ≡ is_done reply) at call first
  where
    at : (removal : RemovalOf) → (reply : Reply) → begins (first_call removal) reply ≡ is_done reply
    at (OfChip a) r = refl
    at (OfDevice a) r = refl

pub first_begun : (call : Call) → is_first_call call ≡ true → (reply : Reply) (bytes : List ℕ) → is_done reply ≡ true → begun_places call reply bytes ≡ places_named bytes
first_begun call first = by_removal (λ call. (reply : Reply) (bytes : List ℕ) → is_done reply ≡ true → begun_places call reply bytes ≡ places_named bytes) at call first
  where
    at : (removal : RemovalOf) → (reply : Reply) (bytes : List ℕ) → is_done reply ≡ true → begun_places (first_call removal) reply bytes ≡ places_named bytes
    at (OfChip a) r bytes is_so = ap (λ b. cond b (places_named bytes) []) is_so
    at (OfDevice a) r bytes is_so = ap (λ b. cond b (places_named bytes) []) is_so

pub first_refused : (call : Call) → is_first_call call ≡ true → (reply : Reply) (bytes : List ℕ) → is_done reply ≡ false → begun_places call reply bytes ≡ []
first_refused call first = by_removal (λ call. (reply : Reply) (bytes : List ℕ) → is_done reply ≡ false → begun_places call reply bytes ≡ []) at call first
  where
    at : (removal : RemovalOf) → (reply : Reply) (bytes : List ℕ) → is_done reply ≡ false → begun_places (first_call removal) reply bytes ≡ []
    at (OfChip a) r bytes is_so = ap (λ b. cond b (places_named bytes) []) is_so
    at (OfDevice a) r bytes is_so = ap (λ b. cond b (places_named bytes) []) is_so

pub done_is : (reply : Reply) → is_done reply ≡ true → reply ≡ Done
done_is Done d = refl
done_is (Number n) d = absurd (true≢false (sym d))
done_is (Go n) d = absurd (true≢false (sym d))
done_is (Found p o n) d = absurd (true≢false (sym d))
done_is (Text t) d = absurd (true≢false (sym d))
done_is (Ready b) d = absurd (true≢false (sym d))
done_is (Refused e) d = absurd (true≢false (sym d))

writes_two : (refusal : Option Errno) (w v : World) (places : List ℕ) → is_done (refused_or refusal w (writes (removal_bytes places) v)).reply ≡ true
    → (from count : ℕ) × ((refused_or refusal w (writes (removal_bytes places) v)).bytes ≡ from ∷ count ∷ [])
writes_two None w v places d = (slice_index_or places 0 0, length places, refl)
writes_two (Some errno) w v places d = absurd (true≢false (sym d))

-- the first call writes its first place, and how many there are
pub first_writes : (call : Call) → is_first_call call ≡ true → (w : World) (actor : ℕ) → is_done (reply_of w actor call) ≡ true → (from count : ℕ) × (bytes_of w actor call ≡ from ∷ count ∷ [])
first_writes call first = by_removal (λ call. (w : World) (actor : ℕ) → is_done (reply_of w actor call) ≡ true → (from count : ℕ) × (bytes_of w actor call ≡ from ∷ count ∷ [])) at call first
  where
    at : (removal : RemovalOf) → (w : World) (actor : ℕ) → is_done (reply_of w actor (first_call removal)) ≡ true → (from count : ℕ) × (bytes_of w actor (first_call removal) ≡ from ∷ count ∷ [])
    at (OfChip a) w actor is_so = writes_two _ w _ (a ∷ []) is_so
    at (OfDevice a) w actor is_so = writes_two _ w _ (up_places a w) is_so

abbrev first_of_two : List ℕ → ℕ
first_of_two [] = 0
first_of_two (x ∷ xs) = x

abbrev second_of_two : List ℕ → ℕ
second_of_two [] = 0
second_of_two (x ∷ xs) = first_of_two xs

no_more : (old : List ℕ) → length old ≡ 2 → drop 2 old ≡ []
no_more [] e = refl
no_more (x ∷ []) e = refl
no_more (x ∷ y ∷ []) e = refl
no_more (x ∷ y ∷ z ∷ zs) e = absurd (omega arith)

-- what was written is what stands in the buffer
written_are : (bytes old new : List ℕ) (from count : ℕ) (f : (a b : ℕ) × (bytes ≡ a ∷ b ∷ [])) → length old ≡ 2 → new ≡ bytes ++ drop (length bytes) old → new ≡ from ∷ count ∷ [] → bytes ≡ from ∷ count ∷ []
written_are bytes old new from count f two is are = let e : new ≡ f.0 ∷ f.1 ∷ [] = is ∙ (ap (λ l. l ++ drop (length l) old) f.2 ∙ ap (λ l. f.0 ∷ f.1 ∷ l) (no_more old two)) in
    let same : f.0 ∷ f.1 ∷ [] ≡ from ∷ count ∷ [] = sym e ∙ are in f.2 ∙ same

named_at : (from count p : ℕ) → from ≤ p → p < from + count → Contains (places_from from count) p
named_at from count p low high = let is_p : from + (p - from) ≡ p = omega arith in
    (p - from, subst (λ n. p - from < n) (sym (length-places_from from count)) (omega arith), read_places from count (p - from) p (omega arith) ∙ is_p)

at_named : (from count p : ℕ) → Contains (places_from from count) p → (from ≤ p) × (p < from + count)
at_named from count p (k, lt, e) = let small : k < count = subst (λ n. k < n) (length-places_from from count) lt in
    let is_p : from + k ≡ p = sym (read_places from count k p small) ∙ e in (omega arith, omega arith)

none_in : (p : ℕ) → Contains {X = ℕ} [] p → ⊥
none_in p c = let less = c.1 in absurd (omega arith)

-- the first entry was answered Done
pub has_begun : (v w : OneView) (first : Call) (reply : Reply) (old new : List ℕ) (from count : ℕ) → is_first_call first ≡ true → length old ≡ 2 → new ≡ from ∷ count ∷ [] → SamePass v w → Acts core v first reply old new w → is_done reply ≡ true → IsFree core v → HasBegun from count first w
has_begun v w first reply old new from count is_first two are same acts d free =
    let before : World = fold core (v.seen ++ acts.between) in
    let wrote : bytes_of before v.number first ≡ from ∷ count ∷ [] = written_are (bytes_of before v.number first) old new from count (first_writes first is_first before v.number (ap is_done (sym acts.answer) ∙ d)) two acts.bytes are in
    let begun : begun_places first reply (bytes_of before v.number first) ≡ places_from from count = first_begun first is_first reply (bytes_of before v.number first) d ∙ ap (λ l. places_named l) wrote in
    let r = acts.removals in record {
      owes_one = let o = acts.owed in let z = free.owes_nothing in let e : cond {A = ℕ} (ends first) 1 0 ≡ 0 = ap (λ (b : Bool). cond {A = ℕ} b 1 0) (first_ends_not first is_first) in
          let b : cond {A = ℕ} (begins first reply) 1 0 ≡ 1 = ap (λ (b : Bool). cond {A = ℕ} b 1 0) (first_begins first is_first reply ∙ d) in omega arith;
      before = v.seen ++ acts.between;
      since = [];
      at = acts.seen ∙ ap (λ (x : ℕ × Reply). (v.seen ++ acts.between) ++ entry x.0 first x.1 ∷ []) (λ i. (sym same.number i, done_is reply d i));
      since_others = refl;
      removes = λ p low high. subst (λ (x : World × ℕ). Removes core x.0 x.1 p) (λ i. (sym acts.world i, sym same.number i)) (r.begins p (subst (λ l. Contains l p) (sym begun) (named_at from count p low high)));
      only = λ p its. let now = subst (λ (x : World × ℕ). Removes core x.0 x.1 p) (λ i. (acts.world i, same.number i)) its in
          ⊎_elim (λ h. absurd (free.removes_nothing p (r.nothing_new p h))) (λ c. at_named from count p (subst (λ l. Contains l p) begun c)) (r.begins_only p now);
      awaits = λ p low high. ap (λ (x : World). awaited_call x p) acts.world ∙ r.awaits_last p (subst (λ l. Contains l p) (sym begun) (named_at from count p low high));
    }

-- it was refused
pub not_begun : (v w : OneView) (first : Call) (reply : Reply) (old new : List ℕ) → is_first_call first ≡ true → SamePass v w → Acts core v first reply old new w → is_done reply ≡ false → IsFree core v → IsFree core w
not_begun v w first reply old new is_first same acts d free = record {
  inside = same.inside ∙ free.inside;
  owes_nothing = let o = acts.owed in let z = free.owes_nothing in let e : cond {A = ℕ} (ends first) 1 0 ≡ 0 = ap (λ (b : Bool). cond {A = ℕ} b 1 0) (first_ends_not first is_first) in
      let b : cond {A = ℕ} (begins first reply) 1 0 ≡ 0 = ap (λ (b : Bool). cond {A = ℕ} b 1 0) (first_begins first is_first reply ∙ d) in omega arith;
  removes_nothing = still_removes_nothing core v first reply old new w acts same (λ bytes. first_refused first is_first reply bytes d) free.removes_nothing;
}

-- the places of a removal are places
pub begun_within : (from count : ℕ) (first : Call) (v : OneView) → HasBegun from count first v → Legal core v.seen → (p : ℕ) → from ≤ p → p < from + count → p < PLACES
begun_within from count first v begun legal p low high = let bounds = (legal_worlds_have_bounds StandsFor).behind_a_history v.seen legal in
    let leaving = (begun.removes p low high).0 in let there : p < length (fold core v.seen).chips = within_chips (fold core v.seen).chips p (omega arith) in let few = bounds.bounded.chips in omega arith

-- who closed and drained places has begun it still
pub begun_still : (from count : ℕ) (first : Call) (v w : OneView) → Moved core v w → HasBegun from count first v → HasBegun from count first w
begun_still from count first v w moved begun = record {
  owes_one = ap (λ (l : List OneEntry). owed core l) moved.mine ∙ begun.owes_one;
  before = begun.before;
  since = begun.since;
  at = moved.seen ∙ (begun.at ∙ ap (λ n. begun.before ++ entry n first Done ∷ begun.since) (sym moved.number));
  since_others = ap (λ n. entries_of n begun.since) moved.number ∙ begun.since_others;
  removes = λ p low high. subst (λ (x : List OneEntry × ℕ). Removes core (fold core x.0) x.1 p) (λ i. (sym moved.seen i, sym moved.number i)) (begun.removes p low high);
  only = λ p r. begun.only p (subst (λ (x : List OneEntry × ℕ). Removes core (fold core x.0) x.1 p) (λ i. (moved.seen i, moved.number i)) r);
  awaits = λ p low high. ap (λ (l : List OneEntry). awaited_call (fold core l) p) moved.seen ∙ begun.awaits p low high;
}

pub may_end : (from count : ℕ) (first call : Call) (w : OneView) → HasBegun from count first w → ((p : ℕ) → from ≤ p → p < from + count → KnowsDrained w p) → MayEndRemoval core w call
may_end from count first call w begun drained _ p removes = let h = begun.only p removes in drained p h.0 h.1

-- the last entry: it is answered Done, and nothing is removed any more
pub last_is_done : (from count : ℕ) (first : Call) (w u : OneView) (reply : Reply) (old new : List ℕ) → is_first_call first ≡ true → HasBegun from count first w → Acts core w (last_call first) reply old new u → reply ≡ Done
last_is_done from count first w u reply old new is_first begun acts =
    let seen : List OneEntry = w.seen ++ acts.between in
    let whole : Legal core (seen ++ entry w.number (last_call first) reply ∷ []) = subst (λ l. Legal core l) acts.seen acts.legal in
    let legal : Legal core seen = (answered_prefix core core.opening seen _ whole.0, placed_prefix core core.opening seen _ whole.1) in
    let since : List OneEntry = begun.since ++ acts.between in
    let others : entries_of w.number since ≡ [] = entries_append w.number begun.since acts.between ∙ (ap (λ l. l ++ entries_of w.number acts.between) begun.since_others ∙ acts.others) in
    let is_behind : seen ≡ begun.before ++ entry w.number (first_call (removal_of first)) Done ∷ since = ap (λ l. l ++ acts.between) begun.at ∙ (append_assoc begun.before (entry w.number first Done ∷ begun.since) acts.between
    ∙ ap (λ c. begun.before ++ entry w.number c Done ∷ since) (first_is first is_first)) in
    let law = (last_calls_are_done StandsFor).of_a_removal.behind_a_history seen legal w.number (removal_of first) (record { before = begun.before; since = since; is_behind = is_behind; quiet = subst (λ l. AllQuiet core l) (sym others) tt }) in
    acts.answer ∙ (ap (λ c. reply_of (fold core seen) w.number (last_call c)) (first_is first is_first) ∙ law)

pub last_leaves_free : (from count : ℕ) (first : Call) (w u : OneView) (reply : Reply) (old new : List ℕ) → is_first_call first ≡ true → HasBegun from count first w → w.inside ≡ [] → SamePass w u → Acts core w (last_call first) reply old new u → IsFree core u
last_leaves_free from count first w u reply old new is_first begun outside same acts = record {
  inside = same.inside ∙ outside;
  owes_nothing = let o = acts.owed in let z = begun.owes_one in let e : cond {A = ℕ} (ends (last_call first)) 1 0 ≡ 1 = ap (λ (b : Bool). cond {A = ℕ} b 1 0) (last_ends first is_first) in
      let b : cond {A = ℕ} (begins (last_call first) reply) 1 0 ≡ 0 = ap (λ (b : Bool). cond {A = ℕ} b 1 0) (last_begins_not first is_first reply) in omega arith;
  removes_nothing = λ p its. let r = acts.removals in let now = subst (λ (x : World × ℕ). Removes core x.0 x.1 p) (λ i. (acts.world i, same.number i)) its in
      ⊎_elim (λ h. let had = r.nothing_new p h in let at = begun.only p had in
      let gone = r.ends p h (r.awaits_still p had ∙ begun.awaits p at.0 at.1) in let leaving = now.0 in absurd (omega arith))
      (λ c. none_in p (subst (λ l. Contains l p) (last_begins_no_removal first is_first reply _) c)) (r.begins_only p now);
}

pub fits_last : (call : Call) → is_first_call call ≡ true → FitsCall call → (gift : Gift) → Fits (last_call call) gift []
fits_last call first = by_removal (λ call. FitsCall call → (gift : Gift) → Fits (last_call call) gift []) at call first
  where
    at : (removal : RemovalOf) → FitsCall (first_call removal) → (gift : Gift) → Fits (last_call (first_call removal)) gift []
    at (OfChip a) fits gift = record { fits_call = fits; brings = tt; buffer_fits = tt }
    at (OfDevice a) fits gift = record { fits_call = fits; brings = tt; buffer_fits = tt }

pub fits_first : (call : Call) → is_first_call call ≡ true → FitsCall call → (gift : Gift) (out : List ℕ) → length out ≡ 2 → Fits call gift out
fits_first call first = by_removal (λ call. FitsCall call → (gift : Gift) (out : List ℕ) → length out ≡ 2 → Fits call gift out) at call first
  where
    at : (removal : RemovalOf) → FitsCall (first_call removal) → (gift : Gift) (out : List ℕ) → length out ≡ 2 → Fits (first_call removal) gift out
    at (OfChip a) fits gift out two = record { fits_call = fits; brings = tt; buffer_fits = two }
    at (OfDevice a) fits gift out two = record { fits_call = fits; brings = tt; buffer_fits = two }

pub has_ended : (from count : ℕ) (first : Call) (v w u : OneView) (reply : Reply) (old new : List ℕ) → is_first_call first ≡ true → HasBegun from count first v → HasDrained core from (from + count) v w → SamePass w u → Acts core w (last_call first) reply old new u
    → HasEnded from count first v reply u
has_ended from count first v w u reply old new is_first begun drained same acts = record {
  wrote = bytes_of (fold core (w.seen ++ acts.between)) w.number (last_call first);
  grew = grows_on core v w u [] (deed_of v.number (last_call first) reply (bytes_of (fold core (w.seen ++ acts.between)) w.number (last_call first)) ∷ []) (moves_do_nothing core v w drained.moved)
      (subst (λ n. Grew core w (deed_of n (last_call first) reply (bytes_of (fold core (w.seen ++ acts.between)) w.number (last_call first)) ∷ []) u) drained.moved.number (acts_are_deeds core w (last_call first) reply old new u acts same));
  last = (w.seen ++ acts.between, subst (λ n. u.seen ≡ (w.seen ++ acts.between) ++ entry n (last_call first) reply ∷ []) drained.moved.number acts.seen);
  done = last_is_done from count first w u reply old new is_first (begun_still from count first v w drained.moved begun) acts;
  closed = λ p low high. (knows_same w u same.closed same.drained).closed p (drained.closed p low high);
  drained = λ p low high. (knows_same w u same.closed same.drained).drained p (drained.drained p low high);
  legal = acts.legal;
  knows_as_much = knows_on v w u drained.knows_as_much (knows_same w u same.closed same.drained);
}

pub acts_last : (w u : OneView) (first call : Call) (reply : Reply) (old new : List ℕ) → call ≡ last_call first → Acts core w call reply old new u → Acts core w (last_call first) reply old new u
acts_last w u first call reply old new is = subst (λ k. Acts core w k reply old new u) is

owns_nothing : MayOwn []
owns_nothing = record { quiet = tt; no_claims = tt }

guard_none : (call : Call) → guard_of (Removing (removal_of call)) ≡ None
guard_none call = refl

-- a removal that was refused at its first entry
pub refused_removal : (v w : OneView) (first : Call) (reply : Reply) (old new : List ℕ) → is_first_call first ≡ true → HasItsOwn v → SamePass v w → Acts core v first reply old new w → is_done reply ≡ false
    → (bytes : List ℕ) × (called : HasCalled 0 v (Removing (removal_of first)) reply bytes w) × AllDrained called.did w
refused_removal v w first reply old new is_first own same acts undone = let wrote : List ℕ = bytes_of (fold core (v.seen ++ acts.between)) v.number first in let e : OneEntry = entry v.number first reply in (
  wrote,
  record {
    closed = false;
    answer = None;
    own = [];
    did = deed_of v.number first reply wrote ∷ [];
    makes = (refl, (subst (λ c. MakesTwo {M = Kept} v.number c (last_call c) [] (e ∷ [])) (first_is first is_first) (reply, [], refl, subst (λ b. MakesRest {M = Kept} v.number b (last_call first) [] []) (sym (first_begins first is_first reply ∙ undone)) (refl, refl)), refl));
    few_own = omega arith;
    may_own = owns_nothing;
    grew = acts_are_deeds core v first reply old new w acts same;
    last = record { last = e; is_last = refl; at = (v.seen ++ acts.between, acts.seen) };
    had_room = record { first = e; is_first = refl; before = v.seen ++ acts.between; behind = []; at = acts.seen; room_left = acts.room (first_ends_not first is_first); own_before = own_in_front core v acts.between own acts.others };
    legal = acts.legal;
    reply_is = refl;
    bytes_are = refl;
    guard = λ p at. absurd (none_not_some p at);
    knows_as_much = knows_same v w same.closed same.drained;
  },
  ((λ p c. absurd (none_in p (subst (λ l. Contains l p) (first_refused first is_first reply wrote undone) c))), tt),
)

-- a removal that was begun and ended
pub whole_removal : (v w u : OneView) (first : Call) (first_reply reply : Reply) (old new : List ℕ) (from count : ℕ) → is_first_call first ≡ true → length old ≡ 2 → new ≡ from ∷ count ∷ [] → HasItsOwn v → SamePass v w → Acts core v first first_reply old new w → is_done first_reply ≡ true
    → HasEnded from count first w reply u → (bytes : List ℕ) × (called : HasCalled 0 v (Removing (removal_of first)) reply bytes u) × AllDrained called.did u
whole_removal v w u first first_reply reply old new from count is_first two are own same acts d ended =
    let before : World = fold core (v.seen ++ acts.between) in let wrote : List ℕ = bytes_of before v.number first in let e : OneEntry = entry v.number first first_reply in let l : OneEntry = entry v.number (last_call first) reply in
    let is : wrote ≡ from ∷ count ∷ [] = written_are wrote old new from count (first_writes first is_first before v.number (ap is_done (sym acts.answer) ∙ d)) two acts.bytes are in
    let begun : begun_places first first_reply wrote ≡ places_from from count = first_begun first is_first first_reply wrote d ∙ ap (λ x. places_named x) is in
    let behind : Grew core w (deed_of v.number (last_call first) reply ended.wrote ∷ []) u = subst (λ n. Grew core w (deed_of n (last_call first) reply ended.wrote ∷ []) u) same.number ended.grew in (
      ended.wrote,
      record {
        closed = false;
        answer = None;
        own = [];
        did = deed_of v.number first first_reply wrote ∷ deed_of v.number (last_call first) reply ended.wrote ∷ [];
        makes = (refl, (subst (λ c. MakesTwo {M = Kept} v.number c (last_call c) [] (e ∷ l ∷ [])) (first_is first is_first) (first_reply, l ∷ [], refl, subst (λ b. MakesRest {M = Kept} v.number b (last_call first) [] (l ∷ [])) (sym (first_begins first is_first first_reply ∙ d)) (reply, refl)), refl));
        few_own = omega arith;
        may_own = owns_nothing;
        grew = grows_on core v w u (deed_of v.number first first_reply wrote ∷ []) (deed_of v.number (last_call first) reply ended.wrote ∷ []) (acts_are_deeds core v first first_reply old new w acts same) behind;
        last = record { last = l; is_last = refl; at = (ended.last.0, subst (λ n. u.seen ≡ ended.last.0 ++ entry n (last_call first) reply ∷ []) same.number ended.last.1) };
        had_room = record {
          first = e;
          is_first = refl;
          before = v.seen ++ acts.between;
          behind = behind.seen.0;
          at = behind.seen.1 ∙ (ap (λ x. x ++ behind.seen.0) acts.seen ∙ append_assoc (v.seen ++ acts.between) (e ∷ []) behind.seen.0);
          room_left = acts.room (first_ends_not first is_first);
          own_before = own_in_front core v acts.between own acts.others;
        };
        legal = ended.legal;
        reply_is = refl;
        bytes_are = refl;
        guard = λ p at. absurd (none_not_some p at);
        knows_as_much = knows_on v w u (knows_same v w same.closed same.drained) ended.knows_as_much;
      },
      (
        (λ p c. let h = at_named from count p (subst (λ x. Contains x p) begun c) in (ended.closed p h.0 h.1, ended.drained p h.0 h.1)),
        ((λ p c. absurd (none_in p (subst (λ x. Contains x p) (last_begins_no_removal first is_first reply ended.wrote) c))), tt),
      ),
    )

-- the history was full
pub full_removal : (v w : OneView) (call : Call) → HasItsOwn v → HasItsOwn w → SamePass v w → Refuses core v call w → FoundNoRoom core v w
full_removal v w call own own' same refuses = no_room_alone v w (stood_full core v call w own own' same refuses)

pub refused_idle : (v w : OneView) (call : Call) → IsIdle v → HasItsOwn v → HasItsOwn w → SamePass v w → Refuses core v call w → IsIdle w
refused_idle v w call idle own own' same refuses = let full = stood_full core v call w own own' same refuses in
    idle_still v w idle (is_free core w (same.inside ∙ idle.free.inside) (owes_refused core v call w same refuses 0 (free_owes core v idle.free))) full.grew

-- a buffer of two bytes
pub two_are : (bytes : List ℕ) → length bytes ≡ 2 → bytes ≡ slice_index_or bytes 0 0 ∷ slice_index_or bytes 1 0 ∷ []
two_are [] e = absurd (omega arith)
two_are (x ∷ []) e = absurd (omega arith)
two_are (x ∷ y ∷ []) e = refl
two_are (x ∷ y ∷ z ∷ zs) e = absurd (omega arith)

-- a removal that was made comes out as its last reply
pub removes_out : (result : Result (Unit {0}) Errno) (v w : OneView) (call : DeviceCall) (reply : Reply) → result ≡ done_of reply → (bytes : List ℕ) × (called : HasCalled 0 v call reply bytes w) × AllDrained called.did w → RemovesOut result v call w
removes_out result v w call reply is h = inl (h.0, record { reply = reply; result_is = is; not_full = λ full. called_not_full 0 v w call reply h.0 h.1 (errno_is_told (λ _. tt) Full reply (sym is ∙ full)); not_memory = λ none. called_not_memory 0 v w call reply h.0 h.1 (errno_is_told (λ _. tt) NoMemory reply (sym is ∙ none)); called = h.1 }, h.2)

pub removes_none : (errno : Errno) (v w : OneView) (call : DeviceCall) → errno ≡ Full → FoundNoRoom core v w → RemovesOut (Err errno) v call w
removes_none errno v w call is full = inr (ap Err is, full)

first_of : (refusal : Option Errno) (w v : World) (places : List ℕ) → is_done (refused_or refusal w (writes (removal_bytes places) v)).reply ≡ true → (refused_or refusal w (writes (removal_bytes places) v)).bytes ≡ removal_bytes places
first_of None w v places d = refl
first_of (Some errno) w v places d = absurd (true≢false (sym d))

-- an unplug that has ended has closed and drained its place
pub unplug_drains : (v w u : OneView) (place : ℕ) (call : Call) (first_reply reply : Reply) (old new : List ℕ) (from count : ℕ) → call ≡ Unplug place false → is_first_call call ≡ true → length old ≡ 2 → new ≡ from ∷ count ∷ [] → Acts core v call first_reply old new w → is_done first_reply ≡ true
    → HasEnded from count call w reply u → KnowsClosed u place × KnowsDrained u place
unplug_drains v w u place call first_reply reply old new from count is is_first two are acts d ended =
    let before : World = fold core (v.seen ++ acts.between) in
    let done : is_done (reply_of before v.number call) ≡ true = ap is_done (sym acts.answer) ∙ d in
    let wrote : bytes_of before v.number call ≡ from ∷ count ∷ [] = written_are (bytes_of before v.number call) old new from count (first_writes call is_first before v.number done) two acts.bytes are in
    let its : bytes_of before v.number call ≡ place ∷ 1 ∷ [] = ap (λ k. bytes_of before v.number k) is ∙ first_of _ before _ (place ∷ []) (ap (λ k. is_done (reply_of before v.number k)) (sym is) ∙ done) in
    let same : from ∷ count ∷ [] ≡ place ∷ 1 ∷ [] = sym wrote ∙ its in
    let at : from ≡ place = ap first_of_two same in let one : count ≡ 1 = ap second_of_two same in
    (ended.closed place (omega arith) (omega arith), ended.drained place (omega arith) (omega arith))

refused_unplug : (a : ℕ) (reply : Reply) → has_form (Unplug a false) reply ≡ true → is_done reply ≡ false → (errno : Errno) × (reply ≡ Refused errno)
refused_unplug a Done form d = absurd (true≢false d)
refused_unplug a (Number n) form d = absurd (true≢false (sym form))
refused_unplug a (Go n) form d = absurd (true≢false (sym form))
refused_unplug a (Found p o n) form d = absurd (true≢false (sym form))
refused_unplug a (Text t) form d = absurd (true≢false (sym form))
refused_unplug a (Ready b) form d = absurd (true≢false (sym form))
refused_unplug a (Refused errno) form d = (errno, refl)

refused_remove : (a : List ℕ) (reply : Reply) → has_form (Remove a false) reply ≡ true → is_done reply ≡ false → (errno : Errno) × (reply ≡ Refused errno)
refused_remove a Done form d = absurd (true≢false d)
refused_remove a (Number n) form d = absurd (true≢false (sym form))
refused_remove a (Go n) form d = absurd (true≢false (sym form))
refused_remove a (Found p o n) form d = absurd (true≢false (sym form))
refused_remove a (Text t) form d = absurd (true≢false (sym form))
refused_remove a (Ready b) form d = absurd (true≢false (sym form))
refused_remove a (Refused errno) form d = (errno, refl)

refused_first : (call : Call) → is_first_call call ≡ true → (reply : Reply) → has_form call reply ≡ true → is_done reply ≡ false → (errno : Errno) × (reply ≡ Refused errno)
refused_first call first = by_removal (λ call. (reply : Reply) → has_form call reply ≡ true → is_done reply ≡ false → (errno : Errno) × (reply ≡ Refused errno)) at call first
  where
    at : (removal : RemovalOf) → (reply : Reply) → has_form (first_call removal) reply ≡ true → is_done reply ≡ false → (errno : Errno) × (reply ≡ Refused errno)
    at (OfChip a) reply form d = refused_unplug a reply form d
    at (OfDevice a) reply form d = refused_remove a reply form d

-- a first entry that isn't done is refused
pub first_is_refused : (v w : OneView) (call : Call) (reply : Reply) (old new : List ℕ) → is_first_call call ≡ true → Acts core v call reply old new w → is_done reply ≡ false → (errno : Errno) × (reply ≡ Refused errno)
first_is_refused v w call reply old new is_first acts undone = refused_first call is_first reply (subst (λ r. has_form call r ≡ true) (sym acts.answer) (replies_have_form.form (fold core (v.seen ++ acts.between)) v.number call)) undone

pub done_not_undone : (reply : Reply) → reply ≡ Done → is_done reply ≡ false → (errno : Errno) × (reply ≡ Refused errno)
done_not_undone reply is undone = absurd (true≢false (sym (ap is_done is) ∙ undone))

-- who is answered Ok has a removal that was done
pub ok_is_done : (reply : Reply) (result : Result (Unit {0}) Errno) (P : Type 0) → result ≡ done_of reply → (is_done reply ≡ false → (errno : Errno) × (reply ≡ Refused errno)) → (is_done reply ≡ true → P) → IfOk result (λ _. P)
ok_is_done reply result P is refused done = subst (λ r. IfOk r (λ _. P)) (sym is) (by (is_done reply) refl)
  where
    by : (b : Bool) → is_done reply ≡ b → IfOk (done_of reply) (λ _. P)
    by true e = subst (λ r. IfOk (done_of r) (λ _. P)) (sym (done_is reply e)) (done e)
    by false e = let r = refused e in subst (λ r. IfOk (done_of r) (λ _. P)) (sym r.1) tt

-- the entries of a removal

pub removed_at_first : (v w : OneView) (first : Call) (reply : Reply) (old new : List ℕ) → is_first_call first ≡ true → Acts core v first reply old new w → is_done reply ≡ false → RemovedBy (removal_of first) reply v w
removed_at_first v w first reply old new is_first acts undone = let r = first_is_refused v w first reply old new is_first acts undone in
    inl (r.0, r.1, acts.mine ∙ ap (λ (k : Call). v.mine ++ entry v.number k reply ∷ []) (first_is first is_first))

pub removed_whole : (v w u : OneView) (first : Call) (first_reply reply : Reply) (old new : List ℕ) (from count : ℕ) → is_first_call first ≡ true → SamePass v w → Acts core v first first_reply old new w → is_done first_reply ≡ true → HasEnded from count first w reply u
    → RemovedBy (removal_of first) reply v u
removed_whole v w u first first_reply reply old new from count is_first same acts d ended =
    let e : OneEntry = entry v.number first first_reply in let l : OneEntry = entry w.number (last_call first) reply in
    let is = first_is first is_first in let done = done_is first_reply d in
    inr (
      ended.done,
      ended.grew.mine ∙ (ap (λ x. x ++ l ∷ []) acts.mine ∙ (append_assoc v.mine (e ∷ []) (l ∷ []) ∙ (λ i. v.mine ++ entry v.number (is i) (done i) ∷ entry (same.number i) (last_call (is i)) reply ∷ []))),
    )

-- and what its caller gets
pub ends_as_begun : (removal : RemovalOf) (result : Result (Unit {0}) Errno) (reply : Reply) (v w : OneView) → result ≡ done_of reply → RemovedBy removal reply v w → EndsAsBegun removal result v w
ends_as_begun removal result reply v w is h = subst (λ r. EndsAsBegun removal r v w) (sym is) (
    ⊎_elim (λ refused. subst (λ r. w.mine ≡ v.mine ++ entry v.number (first_call removal) r ∷ [] → EndsAsBegun removal (done_of r) v w) (sym refused.1) (λ mine. mine) refused.2)
    (λ done. subst (λ r. w.mine ≡ v.mine ++ entry v.number (first_call removal) Done ∷ entry v.number (last_call (first_call removal)) r ∷ [] → EndsAsBegun removal (done_of r) v w) (sym done.0) (λ mine. mine) done.1) h
    )
