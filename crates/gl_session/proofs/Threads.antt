-- Actors that carry out their sections each by itself: made one after another, at work, and taken in one after another.
use Rattle.std.proofs.Common.{◌≡◌, ◌≢◌, ◌⊎◌, ⊎_elim, inl, inr, ℕ, zero, suc, ◌+◌, ◌<◌, ◌≤◌, List, [], ◌∷◌, ◌++◌, length, length-append, length-set, get_or, set, sym, refl, ap, ◌∙◌, subst, arith, true, Option, Some, None, Result, Ok, Err, IfOk}
use Rattle.std.specs.Prelude.{IfErr, OnOk, slice_get}
use Rattle.std.proofs.lemmas.List.{append-nil}
use mathlib.Core.Option.{some, some-ne-none}
use mathlib.Core.Logic.{dite}
use native.Mathlib.Decide.{ℕ_discrete}
use lib.ListN.{get_elem?}
use Rattle.gl_base.specs.declared.errno.Errno.{Errno}
use Rattle.gl_base.specs.declared.errno.Errno.TheVariants.{Full, NoMemory}
use Rattle.gl_world.specs.Deeds.{deeds_of}
use Rattle.gl_world.specs.History.{StartsWith, entries_of}
use Rattle.gl_world.proofs.Deeds.{deeds_none}
use Rattle.gl_gate.specs.Calls.{HasItsOwn}
use Rattle.gl_gate.specs.Values.{GateValue}
use Rattle.gl_gate.specs.Grown.{Grew}
use Rattle.gl_gate.proofs.Grown.{begins_further, grown_has_its_own, grows_on}
use Rattle.gl_rule.specs.Views.{as_joined, newcomer, taking_in, with_one_more}
use Rattle.gl_client.specs.Program.{Program, ask, done}
use Rattle.gl_driver.specs.Told.{Told}
use Rattle.gl_talk.specs.Open.{Names}
use Rattle.gl_chip.specs.Values.{ActorValue, IsActorOf, OneView}
use Rattle.gl_core.specs.Device.{OneDeed, core}
use Rattle.gl_session.specs.Performed.{StoppedFull}
use Rattle.gl_check.specs.Drivers.{DriverKind}
use Rattle.gl_check.specs.Joining.{Maps}
use Rattle.gl_check.specs.Turns.{AreSeen, Follows, carried, did_by}
use Rattle.gl_session.specs.Workers.{AreDone, AreFresh, AreKept, CameOut, HasJoined, HasSplit, HasWorked, IsFresh, IsKept, PlaysWhole, WorkDone, there_at, told_at}
use Rattle.gl_session.proofs.PortPlaces.{get_other, get_set, not_there, there_got, there_same, told_got, told_same}

pub on_ok : {X E : Type 0} (r : Result X E) (A B : Type 0) → (A → B) → OnOk r A → OnOk r B
on_ok (Ok x) A B f h = f h
on_ok (Err e) A B f h = h

at_end : {A : Type 0} (xs : List A) (y : A) (ys : List A) → get_elem? (xs ++ y ∷ ys) (length xs) ≡ some y
at_end [] y ys = refl
at_end (x ∷ xs) y ys = at_end xs y ys

at_front : {A : Type 0} (xs ys : List A) (k : ℕ) (a : A) → get_elem? xs k ≡ some a → get_elem? (xs ++ ys) k ≡ some a
at_front [] ys k a e = absurd (some-ne-none a (sym e))
at_front (x ∷ xs) ys zero a e = e
at_front (x ∷ xs) ys (suc k) a e = at_front xs ys k a e

module _ {P : Type 0} (told : P → Option Told) (start : ℕ → Option Told) (gate : GateValue) where
  pub fresh_more : (v : OneView) (n : ℕ) (actors : List (ActorValue P)) (a : ActorValue P) → AreFresh told start gate v n actors → IsFresh told start gate v (n + length actors) a → AreFresh told start gate v n (actors ++ a ∷ [])
  fresh_more v n [] a h f = let e : n + 0 ≡ n = omega arith in (subst (λ k. IsFresh told start gate v k a) e f, tt)
  fresh_more v n (b ∷ rest) a h f = let e : n + length (b ∷ rest) ≡ (n + 1) + length rest = omega arith in (h.0, fresh_more v (n + 1) rest a h.1 (subst (λ k. IsFresh told start gate v k a) e f))

  pub fresh_at : (v : OneView) (n : ℕ) (actors : List (ActorValue P)) → AreFresh told start gate v n actors → (i : ℕ) (d : ActorValue P) → i < length actors → IsFresh told start gate v (n + i) (get_or actors i d)
  fresh_at v n [] h i d l = absurd (omega arith)
  fresh_at v n (a ∷ rest) h zero d l = let e : n ≡ n + 0 = omega arith in subst (λ k. IsFresh told start gate v k a) e h.0
  fresh_at v n (a ∷ rest) h (suc i) d l = let e : (n + 1) + i ≡ n + suc i = omega arith in subst (λ k. IsFresh told start gate v k (get_or rest i d)) e (fresh_at v (n + 1) rest h.1 i d (omega arith))

  pub fresh_self : (v : OneView) (n : ℕ) (a : ActorValue P) → IsFresh told start gate v n a → IsFresh told (λ _. told a.port) gate a.pass.view a.pass.view.number a
  fresh_self v n a f = record { of = f.of; number = refl; room_is = refl; seen_is = refl; nothing = f.nothing; none_joined = f.none_joined; own = f.own; tells = refl }

  pub fresh_some : (v : OneView) (n : ℕ) (actors : List (ActorValue P)) → AreFresh told start gate v n actors → (i : ℕ) → i < length actors → (a : ActorValue P) × (a ≡ get_or actors i a) × IsFresh told start gate v (n + i) a
  fresh_some v n [] h i l = absurd (omega arith)
  fresh_some v n (a ∷ rest) h zero l = let e : n ≡ n + 0 = omega arith in (a, refl, subst (λ k. IsFresh told start gate v k a) e h.0)
  fresh_some v n (a ∷ rest) h (suc i) l = let e : (n + 1) + i ≡ n + suc i = omega arith in let r = fresh_some v (n + 1) rest h.1 i (omega arith) in (r.0, r.1, subst (λ k. IsFresh told start gate v k r.0) e r.2)

  -- an actor that is fresh over a port that told this is so over the port of its number
  pub fresh_for : (before : Option Told) (w v : OneView) (k n : ℕ) (a : ActorValue P) → before ≡ start n → w.room ≡ v.room → w.seen ≡ v.seen → k ≡ n
      → IsFresh told (λ _. before) gate w k a → IsFresh told start gate v n a
  fresh_for before w v k n a is room seen number f =
      record { of = f.of; number = f.number ∙ number; room_is = f.room_is ∙ room; seen_is = f.seen_is ∙ seen; nothing = f.nothing; none_joined = f.none_joined; own = f.own; tells = f.tells ∙ is }

  module _ (driver : DriverKind) (m : Maps) (programs : ℕ → Program Names) where
    -- what was done over a port that told this is done over the port of its number
    worked_for : (v : OneView) (n : ℕ) (a b : ActorValue P) (text : Result (List ℕ) Errno) → IsFresh told start gate v n a
        → HasWorked told (λ _. told a.port) gate driver m programs a.pass.view a.pass.view.number b text → HasWorked told start gate driver m programs v n b text
    worked_for v n a b text fresh h = record {
      of = h.of;
      number = h.number ∙ fresh.number;
      own = h.own;
      none_joined = h.none_joined;
      nothing_before = (λ i. entries_of (sym fresh.number i) (sym fresh.seen_is i)) ∙ h.nothing_before;
      begins = subst (λ l. StartsWith b.pass.view.seen l) fresh.seen_is h.begins;
      came = subst (λ (x : ℕ × ℕ × Option Told). CameOut driver m x.0 (programs x.0) x.2 b.pass.view.seen x.1 text (told b.port)) (λ i. (fresh.number i, fresh.room_is i, fresh.tells i)) h.came;
    }

    pub done_as : (v : OneView) (n : ℕ) (a : ActorValue P) (d : ActorValue P × Result (List ℕ) Errno) → IsFresh told start gate v n a
        → WorkDone told (λ _. told a.port) gate driver m programs a.pass.view a.pass.view.number d → WorkDone told start gate driver m programs v n d
    done_as v n a d fresh h = ⊎_elim (λ wanted. inl wanted) (λ worked. inr (worked_for v n a d.0 d.1 fresh worked)) h

    pub done_last : (v : OneView) (n : ℕ) (ds : List (ActorValue P × Result (List ℕ) Errno)) (d : ActorValue P × Result (List ℕ) Errno)
        → AreDone told start gate driver m programs v n (ds ++ d ∷ []) → AreDone told start gate driver m programs v n ds × WorkDone told start gate driver m programs v (n + length ds) d
    done_last v n [] d h = let e : n ≡ n + 0 = omega arith in (tt, subst (λ k. WorkDone told start gate driver m programs v k d) e h.0)
    done_last v n (x ∷ ds) d h = let e : (n + 1) + length ds ≡ n + length (x ∷ ds) = omega arith in let r = done_last v (n + 1) ds d h.1 in ((h.0, r.0), subst (λ k. WorkDone told start gate driver m programs v k d) e r.1)

    pub done_all : (v : OneView) (n : ℕ) (ds : List (ActorValue P × Result (List ℕ) Errno))
        → ((i : ℕ) (d : ActorValue P × Result (List ℕ) Errno) → i < length ds → WorkDone told start gate driver m programs v (n + i) (get_or ds i d)) → AreDone told start gate driver m programs v n ds
    done_all v n [] h = tt
    done_all v n (d ∷ ds) h = let z : n + 0 ≡ n = omega arith in (
      subst (λ k. WorkDone told start gate driver m programs v k d) z (h 0 d (omega arith)),
      done_all v (n + 1) ds (λ i e l. let s : n + suc i ≡ (n + 1) + i = omega arith in subst (λ k. WorkDone told start gate driver m programs v k (get_or ds i e)) s (h (suc i) e (omega arith))),
    )

    -- what a fresh actor did, however far it came
    has_worked : (v : OneView) (n : ℕ) (a b : ActorValue P) (text : Result (List ℕ) Errno) (did : List OneDeed) → IsFresh told start gate v n a → IsActorOf gate b → Grew core a.pass.view did b.pass.view
        → (deeds_of core n b.pass.view.seen ≡ did → CameOut driver m n (programs n) (start n) b.pass.view.seen v.room text (told b.port)) → HasWorked told start gate driver m programs v n b text
    has_worked v n a b text did fresh of grew came =
        let nothing_before : entries_of n v.seen ≡ [] = (λ i. entries_of (sym fresh.number i) (sym fresh.seen_is i)) ∙ (fresh.own ∙ fresh.nothing) in
        let none : deeds_of core n a.pass.view.seen ≡ [] = deeds_none core core.opening n a.pass.view.seen (ap (λ l. entries_of n l) fresh.seen_is ∙ nothing_before) in
        let mine : deeds_of core n b.pass.view.seen ≡ did =
        ap (λ k. deeds_of core k b.pass.view.seen) (sym fresh.number) ∙ grew.deeds ∙ ap (λ k. deeds_of core k a.pass.view.seen ++ did) fresh.number ∙ ap (λ (l : List OneDeed). l ++ did) none in record {
          of = of;
          number = grew.number ∙ fresh.number;
          own = grown_has_its_own core a.pass.view b.pass.view did fresh.own grew;
          none_joined = grew.joined ∙ fresh.none_joined;
          nothing_before = nothing_before;
          begins = subst (λ l. StartsWith b.pass.view.seen l) fresh.seen_is grew.seen;
          came = came mine;
        }

    -- it carried a whole program out, or up to where the history was full
    pub work_done : (v : OneView) (n : ℕ) (a b : ActorValue P) (program : Program Names) (text : Result (List ℕ) Errno) → IsFresh told start gate v n a → IsActorOf gate b → program ≡ programs n
        → IfOk text (λ t. PlaysWhole driver program m a.pass.view (told a.port) t b.pass.view (told b.port))
        → IfErr text (λ e. (e ≡ NoMemory) ⊎ ((e ≡ Full) × StoppedFull driver program a.pass.view (carried [] (told a.port) m) b.pass.view))
        → WorkDone told start gate driver m programs v n (b, text)
    work_done v n a b program (Ok text) fresh of is whole stopped = inr (has_worked v n a b (Ok text) (did_by whole.plays.turns) fresh of whole.plays.grew (λ mine. record {
      names = whole.names;
      files = whole.files;
      maps_then = whole.maps_then;
      played = record {
        turns = whole.plays.turns;
        follows = subst (λ (x : ℕ × Program Names × Option Told). Follows driver x.0 x.1 (carried [] x.2 m) whole.plays.turns (done whole.names) (carried whole.files (told b.port) whole.maps_then))
            (λ i. (fresh.number i, is i, fresh.tells i)) whole.plays.follows;
        text_is = whole.plays.text_is;
        did_is = mine;
      };
      seen = subst (λ room. AreSeen room (length b.pass.view.seen) whole.plays.turns) fresh.room_is whole.plays.seen;
    }))
    work_done v n a b program (Err errno) fresh of is whole stopped = ⊎_elim (λ wanted. inl (ap Err wanted))
        (λ full. let s = full.1 in inr (has_worked v n a b (Err errno) (did_by s.turns ++ []) fresh of (grows_on core a.pass.view s.view b.pass.view (did_by s.turns) [] s.grew s.full.1.grew) (λ mine. record {
          turns = s.turns;
          what = s.what;
          later = s.rest;
          behind = s.then;
          follows = subst (λ (x : ℕ × Program Names × Option Told). Follows driver x.0 x.1 (carried [] x.2 m) s.turns (ask s.what s.rest) s.then) (λ i. (fresh.number i, is i, fresh.tells i)) s.follows;
          did = mine ∙ append-nil (did_by s.turns);
          calls = s.full.0;
          full = subst (λ room. room ≤ length b.pass.view.seen) (s.grew.room ∙ fresh.room_is) s.full.1.full;
        })))
        stopped

-- what was kept of others stays, as the first actor takes one more in, and as ports of lower numbers are put back
module _ (driver : DriverKind) (m : Maps) (programs : ℕ → Program Names) (start : ℕ → Option Told) (fork : OneView) where
  pub kept_on : (left later : ℕ → Option Told) (v w u : OneView) → u ≡ taking_in v w → StartsWith u.seen v.seen → (n : ℕ) (texts : List (Result (List ℕ) Errno)) → ((k : ℕ) → n ≤ k → left k ≡ later k)
      → AreKept driver m programs start left fork v n texts → AreKept driver m programs start later fork u n texts
  kept_on left later v w u is begins n [] same h = tt
  kept_on left later v w u is begins n (t ∷ ts) same h = let k = h.0 in (
    record {
      saw = k.saw;
      place = k.place;
      mine = k.mine;
      joined = ap (λ (x : OneView). get_elem? x.joined k.place) is ∙ at_front v.joined (as_joined w ∷ w.joined) k.place (record { number = n; mine = k.mine }) k.joined;
      begins = begins_further u.seen v.seen k.saw begins k.begins;
      own = k.own;
      nothing_before = k.nothing_before;
      came = subst (λ x. CameOut driver m n (programs n) (start n) k.saw fork.room t x) (same n (omega arith)) k.came;
    },
    kept_on left later v w u is begins (n + 1) ts (λ j more. same j (omega arith)) h.1,
  )

  pub kept_new : {P : Type 0} (told : P → Option Told) (left : ℕ → Option Told) (gate : GateValue) (v u : OneView) (a : ActorValue P) (n : ℕ) (t : Result (List ℕ) Errno) → u ≡ taking_in v a.pass.view → StartsWith u.seen a.pass.view.seen
      → told a.port ≡ left n → HasWorked told start gate driver m programs fork n a t → IsKept driver m programs start left fork u n t
  kept_new told left gate v u a n t is begins tells h = record {
    saw = a.pass.view.seen;
    place = length v.joined;
    mine = a.pass.view.mine;
    joined = ap (λ (x : OneView). get_elem? x.joined (length v.joined)) is ∙ (at_end v.joined (as_joined a.pass.view) a.pass.view.joined ∙ ap (λ k. some (record { number = k; mine = a.pass.view.mine })) h.number);
    begins = begins;
    own = ap (λ k. entries_of k a.pass.view.seen) (sym h.number) ∙ h.own;
    nothing_before = h.nothing_before;
    came = subst (λ x. CameOut driver m n (programs n) (start n) a.pass.view.seen fork.room t x) tells h.came;
  }

pub joined_more : (v w x u : OneView) (count : ℕ) → HasJoined v count w → u ≡ taking_in w x → x.joined ≡ [] → StartsWith u.seen w.seen → HasJoined v (count + 1) u
joined_more v w x u count h is none begins = record {
  number = ap (λ (y : OneView). y.number) is ∙ h.number;
  room = ap (λ (y : OneView). y.room) is ∙ h.room;
  made = ap (λ (y : OneView). y.made) is ∙ h.made;
  joined = let l = length-append w.joined (as_joined x ∷ x.joined) in let e : length u.joined ≡ length (w.joined ++ as_joined x ∷ x.joined) = ap (λ (y : OneView). length y.joined) is in let z : length x.joined ≡ 0 = ap (λ l. length l) none in let j = h.joined in omega arith;
  seen = begins_further u.seen w.seen v.seen begins h.seen;
  mine = ap (λ (y : OneView). y.mine) is ∙ h.mine;
}

pub joined_none : (v : OneView) → HasJoined v 0 v
joined_none v = record { number = refl; room = refl; made = refl; joined = omega arith; seen = ([], sym (append-nil v.seen)); mine = refl }

pub split_none : (v : OneView) → HasSplit v 0 v
split_none v = record { number = refl; room = refl; made = omega arith; joined = refl; seen = refl; mine = refl }

pub split_more : (v w u : OneView) (count : ℕ) → HasSplit v count w → u ≡ with_one_more w → HasSplit v (count + 1) u
split_more v w u count h is = record {
  number = ap (λ (y : OneView). y.number) is ∙ h.number;
  room = ap (λ (y : OneView). y.room) is ∙ h.room;
  made = let m = h.made in let e : u.made ≡ w.made + 1 = ap (λ (y : OneView). y.made) is in omega arith;
  joined = ap (λ (y : OneView). y.joined) is ∙ h.joined;
  seen = ap (λ (y : OneView). y.seen) is ∙ h.seen;
  mine = ap (λ (y : OneView). y.mine) is ∙ h.mine;
}

-- the actor that was made is fresh
pub split_fresh : {P : Type 0} (told : P → Option Told) (gate : GateValue) (v : OneView) (a : ActorValue P) (p : P) → IsActorOf gate a → a.pass.view ≡ newcomer v.made v.room v.seen 0 v.closed v.drained → a.port ≡ p → HasItsOwn a.pass.view
    → IsFresh told (λ _. told p) gate v v.made a
split_fresh told gate v a p of is port own = record {
  of = of;
  number = ap (λ (y : OneView). y.number) is;
  room_is = ap (λ (y : OneView). y.room) is;
  seen_is = ap (λ (y : OneView). y.seen) is;
  nothing = ap (λ (y : OneView). y.mine) is;
  none_joined = ap (λ (y : OneView). y.joined) is;
  own = own;
  tells = ap told port;
}

-- So many actors were made, each with the port of its number, and the ports after them are in their places.
pub record SplitSoFar {P : Type 0} (told : P → Option Told) (gate : GateValue) (v : OneView) (ports : List (Option P)) (count : ℕ) (w : OneView) (actors : List (ActorValue P)) (ports_then : List (Option P)) : Type 0 where
  pub split : HasSplit v count w
  pub len : length actors ≡ count
  pub fresh : AreFresh told (told_at told ports) gate v 1 actors
  pub ports_len : length ports_then ≡ length ports
  pub others : (n : ℕ) → count < n → slice_get ports_then n ≡ slice_get ports n

module _ {P : Type 0} (told : P → Option Told) (gate : GateValue) where
  pub split_begins : (v : OneView) (ports : List (Option P)) → SplitSoFar told gate v ports 0 v [] ports
  split_begins v ports = record { split = split_none v; len = refl; fresh = tt; ports_len = refl; others = λ n more. refl }

  -- one actor more was made, with the port of its number
  pub split_goes_on : (v w u : OneView) (ports ports_now ports_then : List (Option P)) (count : ℕ) (actors actors_then : List (ActorValue P)) (a : ActorValue P) (port : P) → v.made ≡ 1 → SplitSoFar told gate v ports count w actors ports_now
      → slice_get ports_now (count + 1) ≡ Some (Some port) → ports_then ≡ set ports_now (count + 1) None → u ≡ with_one_more w → actors_then ≡ actors ++ a ∷ [] → IsFresh told (λ _. told port) gate w w.made a
      → SplitSoFar told gate v ports (count + 1) u actors_then ports_then
  split_goes_on v w u ports ports_now ports_then count actors actors_then a port one so_far got left is more fresh =
      let made : w.made ≡ 1 + length actors = let m = so_far.split.made in let l = so_far.len in omega arith in
      let here : slice_get ports (count + 1) ≡ Some (Some port) = sym (so_far.others (count + 1) (omega arith)) ∙ got in
      let number : w.made ≡ count + 1 = let m = so_far.split.made in omega arith in
      let tells : told port ≡ told_at told ports w.made = sym (ap (λ k. told_at told ports k) number ∙ told_got told ports (count + 1) port here) in record {
        split = split_more v w u count so_far.split is;
        len = ap (λ l. length l) more ∙ length-append actors (a ∷ []) ∙ ap (λ k. k + 1) so_far.len;
        fresh = subst (λ l. AreFresh told (told_at told ports) gate v 1 l) (sym more) (fresh_more told (told_at told ports) gate v 1 actors a so_far.fresh
            (fresh_for told (told_at told ports) gate (told port) w v w.made (1 + length actors) a (tells ∙ ap (λ k. told_at told ports k) made) so_far.split.room so_far.split.seen made fresh));
        ports_len = ap (λ l. length l) left ∙ length-set ports_now (count + 1) None ∙ so_far.ports_len;
        others = λ n far. ap (λ l. slice_get l n) left ∙ get_other ports_now (count + 1) n None (λ same. absurd (omega (arith, same))) ∙ so_far.others n (omega arith);
      }

  -- the next port is there
  pub next_there : (v w : OneView) (ports ports_now : List (Option P)) (count : ℕ) (actors : List (ActorValue P)) → SplitSoFar told gate v ports count w actors ports_now → slice_get ports_now (count + 1) ≡ Some None
      → there_at ports (count + 1) ≡ true → ⊥
  next_there v w ports ports_now count actors so_far got there = not_there ports (count + 1) (sym (so_far.others (count + 1) (omega arith)) ∙ got) there

pub done_has : {P : Type 0} (told : P → Option Told) (start : ℕ → Option Told) (gate : GateValue) (driver : DriverKind) (m : Maps) (programs : ℕ → Program Names) (v : OneView) (n : ℕ) (d : ActorValue P × Result (List ℕ) Errno) → d.1 ≢ Err NoMemory
    → WorkDone told start gate driver m programs v n d → HasWorked told start gate driver m programs v n d.0 d.1
done_has told start gate driver m programs v n d had h = ⊎_elim (λ wanted. absurd (had wanted)) (λ worked. worked) h

-- The last actors were taken in, their promises are kept, and their ports are in their places; the others stand before them.
pub record JoinedSoFar {P : Type 0} (told : P → Option Told) (gate : GateValue) (driver : DriverKind) (v : OneView) (all : List (ActorValue P × Result (List ℕ) Errno)) (ports : List (Option P))
    (w : OneView) (missing : List (ActorValue P × Result (List ℕ) Errno)) (texts : List (Result (List ℕ) Errno)) (ports_now : List (Option P)) : Type 0 where
  pub joined : HasJoined v (length texts) w
  pub len : length texts + length missing ≡ length all
  pub ports_len : length ports_now ≡ length ports
  pub kept : (start : ℕ → Option Told) (m : Maps) (programs : ℕ → Program Names) (fork : OneView) → AreDone told start gate driver m programs fork 1 all
      → AreDone told start gate driver m programs fork 1 missing × AreKept driver m programs start (told_at told ports_now) fork w (length missing + 1) texts
  pub others : (n : ℕ) → length all < n → slice_get ports_now n ≡ slice_get ports n
  pub there : (n : ℕ) → length missing < n → n ≤ length all → there_at ports_now n ≡ true

module _ {P : Type 0} (told : P → Option Told) (gate : GateValue) (driver : DriverKind) where
  pub join_begins : (v : OneView) (all : List (ActorValue P × Result (List ℕ) Errno)) (ports : List (Option P)) → JoinedSoFar told gate driver v all ports v all [] ports
  join_begins v all ports = record {
    joined = joined_none v;
    len = omega arith;
    ports_len = refl;
    kept = λ start m programs fork h. (h, tt);
    others = λ n far. refl;
    there = λ n more most. absurd (omega arith);
  }

  -- one actor was taken in
  pub join_goes_on : (v w u : OneView) (all missing missing_then : List (ActorValue P × Result (List ℕ) Errno)) (d : ActorValue P × Result (List ℕ) Errno) (ports ports_now ports_then : List (Option P)) (texts texts_then : List (Result (List ℕ) Errno))
      → (start : ℕ → Option Told) (m : Maps) (programs : ℕ → Program Names) (fork : OneView) → AreDone told start gate driver m programs fork 1 all
      → length all < length ports → JoinedSoFar told gate driver v all ports w missing texts ports_now → missing ≡ missing_then ++ d ∷ []
      → u ≡ taking_in w d.0.pass.view → StartsWith u.seen w.seen → StartsWith u.seen d.0.pass.view.seen → d.1 ≢ Err NoMemory → texts_then ≡ d.1 ∷ texts → ports_then ≡ set ports_now (length missing_then + 1) (Some d.0.port)
      → JoinedSoFar told gate driver v all ports u missing_then texts_then ports_then
  join_goes_on v w u all missing missing_then d ports ports_now ports_then texts texts_then start m programs fork all_done room so_far popped is begins begins_other had more put_back =
      let shorter : length missing ≡ length missing_then + 1 = ap (λ l. length l) popped ∙ length-append missing_then (d ∷ []) in
      let longer : length texts_then ≡ length texts + 1 = (let m : length texts_then ≡ length (d.1 ∷ texts) = ap (λ l. length l) more in omega arith) in
      let count = so_far.len in let same_length = so_far.ports_len in
      let last = done_last told start gate driver m programs fork 1 missing_then d (subst (λ l. AreDone told start gate driver m programs fork 1 l) popped (so_far.kept start m programs fork all_done).0) in
      let none = (done_has told start gate driver m programs fork (1 + length missing_then) d had last.1).none_joined in
      let n : ℕ = length missing_then + 1 in
      let here : slice_get ports_then n ≡ Some (Some d.0.port) = ap (λ l. slice_get l n) put_back ∙ get_set ports_now n (Some d.0.port) (omega arith) in
      let elsewhere : (k : ℕ) → k ≢ n → slice_get ports_then k ≡ slice_get ports_now k = λ k other. ap (λ l. slice_get l k) put_back ∙ get_other ports_now n k (Some d.0.port) other in record {
        joined = subst (λ k. HasJoined v k u) (sym longer) (joined_more v w d.0.pass.view u (length texts) so_far.joined is none begins);
        len = omega arith;
        ports_len = ap (λ l. length l) put_back ∙ length-set ports_now n (Some d.0.port) ∙ so_far.ports_len;
        kept = λ some_start some_maps some_programs some_fork h. let k = so_far.kept some_start some_maps some_programs some_fork h in
            let l = done_last told some_start gate driver some_maps some_programs some_fork 1 missing_then d (subst (λ l. AreDone told some_start gate driver some_maps some_programs some_fork 1 l) popped k.0) in
            let p = done_has told some_start gate driver some_maps some_programs some_fork (1 + length missing_then) d had l.1 in
            let this : 1 + length missing_then ≡ n = omega arith in
            let next : length missing + 1 ≡ n + 1 = omega arith in (
              l.0,
              subst (λ l. AreKept driver some_maps some_programs some_start (told_at told ports_then) some_fork u n l) (sym more) (
                kept_new driver some_maps some_programs some_start some_fork told (told_at told ports_then) gate w u d.0 n d.1 is begins_other (sym (told_got told ports_then n d.0.port here))
                    (subst (λ k. HasWorked told some_start gate driver some_maps some_programs some_fork k d.0 d.1) this p),
                subst (λ k. AreKept driver some_maps some_programs some_start (told_at told ports_then) some_fork u k texts) next
                    (kept_on driver some_maps some_programs some_start some_fork (told_at told ports_now) (told_at told ports_then) w d.0.pass.view u is begins (length missing + 1) texts
                    (λ k far. told_same told ports_now ports_then k (sym (elsewhere k (λ same. absurd (omega (arith, same)))))) k.1),
              ),
            );
        others = λ k far. elsewhere k (λ same. absurd (omega (arith, same))) ∙ so_far.others k far;
        there = λ k more_than most. dite (ℕ_discrete k n)
            (λ same. ap (λ j. there_at ports_then j) same ∙ there_got ports_then n d.0.port here)
            (λ other. there_same ports_then ports_now k (elsewhere k other) ∙ so_far.there k (let ne : k ≢ n = other in omega arith) most);
      }
