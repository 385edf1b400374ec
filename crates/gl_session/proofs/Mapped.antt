-- A call of the device through a port that may keep maps, over a driver that makes no entries of its own at a place without one: what was made for
-- an operation; and the maps of ports, as they are taken out and put back.
use Rattle.std.proofs.Common.{◌≡◌, ⊎_elim, ℕ, zero, suc, Bool, true, false, List, [], ◌∷◌, ◌++◌, length, length-append, get_or, map, set, ◌<◌, Option, None, Some, Result, Ok, Err, refl, sym, ◌∙◌, ap, subst, arith}
use Rattle.std.specs.Prelude.{IfOk, IfErr, IfSome, OnOk, OnErr, is_some, slice_get}
use Rattle.std.proofs.lemmas.List.{append-nil}
use Rattle.gl_world.specs.History.{StartsWith}
use Rattle.gl_base.specs.Rows.{Each}
use Rattle.gl_base.specs.declared.errno.Errno.{Errno}
use Rattle.gl_base.specs.declared.op.Op.{Op}
use Rattle.gl_base.specs.declared.operation.Do.{Do}
use Rattle.gl_world.specs.Deeds.{entries_in}
use Rattle.gl_driver.specs.Told.{Told, planned_for}
use Rattle.gl_driver.specs.declared.map.Map.{Map}
use Rattle.gl_model.specs.declared.device_call.DeviceCall.{DeviceCall}
use Rattle.gl_model.specs.declared.device_call.DeviceCall.TheVariants.{Once, Removing, Commanding}
use Rattle.gl_model.specs.declared.reply.Reply.{Reply}
use Rattle.gl_asking.specs.declared.kinds.FileKind.{FileKind}
use Rattle.gl_asking.specs.Driving.{op_for}
use Rattle.gl_core.specs.Device.{OneDeed, OneEntry}
use Rattle.gl_chip.specs.Called.{EndsWithLast, HasCalled}
use Rattle.gl_chip.specs.Files.{plain_result}
use Rattle.gl_chip.specs.DriverCommands.{PortOf, WasAsked as WasAskedThrough, is_asked}
use Rattle.gl_chip.specs.Orders.{CouldNot, HasDone, lines_on}
use Rattle.gl_chip.specs.Values.{ActorValue, FollowsRelation, OneView, OwnRelation}
use Rattle.gl_chip.proofs.Telling.{FollowsPlan}
use Rattle.gl_check.specs.Drivers.{DriverKind, Gives, MayMake, driver_kind, map_in}
use Rattle.gl_check.specs.Joining.{Maps}
use Rattle.gl_check.specs.Turns.{PortBy, WasAsked, is_begun}
use Rattle.gl_session.specs.Performed.{MadeFor, exchange}
use Rattle.gl_session.specs.Ports.{AllHave, OwnsNothing, maps_of}
use Rattle.gl_session.specs.Workers.{HaveMaps, StillHas}
use Rattle.gl_session.proofs.PortPlaces.{not_there, there_got}

same_test : (made : List OneEntry) → is_asked made ≡ is_begun made
same_test [] = refl
same_test (e ∷ es) = refl

-- who made entries has seen some, and the last of them behind those before it
behind_last : (seen made : List OneEntry) (h : EndsWithLast seen made) → length h.at.0 < length seen
behind_last seen made h = let len = ap length h.at.1 ∙ length-append h.at.0 (h.last ∷ []) in omega (arith, len)

planned_by : (is_planned : Bool) (Follows : FollowsRelation) → FollowsPlan is_planned Follows → (told : Option Told) (op : Op) (did : List OneDeed) (room seen : ℕ) (answer : Option ℕ) → Follows None told op did room seen answer
    → is_planned ≡ true → IfSome told (λ t. answer ≡ planned_for op t)
planned_by is_planned Follows law None op did room seen answer follows is = tt
planned_by is_planned Follows law (Some t) op did room seen answer follows is = law is t op did room seen answer follows

-- a call that makes none of a driver's own makes no more than any number
wider : (limit : ℕ) (v w : OneView) (call : DeviceCall) (reply : Reply) (bytes : List ℕ) → HasCalled 0 v call reply bytes w → HasCalled limit v call reply bytes w
wider limit v w call reply bytes h = record {
  closed = h.closed;
  answer = h.answer;
  own = h.own;
  did = h.did;
  makes = h.makes;
  few_own = (let few = h.few_own in omega arith);
  may_own = h.may_own;
  grew = h.grew;
  last = h.last;
  had_room = h.had_room;
  legal = h.legal;
  reply_is = h.reply_is;
  bytes_are = h.bytes_are;
  guard = h.guard;
  knows_as_much = h.knows_as_much;
}

module _ {P : Type 0} (told : P → Option Told) (faults : P → ℕ) (kept : P → List Map) (takes : P → ℕ) (Own : OwnRelation) (Follows : FollowsRelation) (limit : ℕ) where
  port_maps : (asked : Bool) (op : Option Op) (place : ℕ) (answer : Option ℕ) (own : List OneEntry) (deeds : List OneDeed) (room before : ℕ) (p q : P)
      → PortOf told faults kept takes Own Follows limit asked op place answer own deeds room before p q → maps_of kept takes q ≡ maps_of kept takes p
  port_maps false op place answer own deeds room before p q h = ap (maps_of kept takes) h
  port_maps true op place answer own deeds room before p q h = λ i. record { kept = h.same_maps i; left = h.same_left i }

  -- the port keeps its maps, and takes as many more
  pub done_maps : (call : DeviceCall) (on : FileKind) (a b : ActorValue P) (reply : Reply) (bytes : List ℕ) → HasDone told faults kept takes Own Follows limit call on a reply bytes b
      → maps_of kept takes b.port ≡ maps_of kept takes a.port
  done_maps (Once call) on a b reply bytes h = ap (maps_of kept takes) h.1
  done_maps (Removing removal) on a b reply bytes h = ap (maps_of kept takes) h.2
  done_maps (Commanding c) on a b reply bytes h =
      port_maps (is_asked (entries_in h.called.did)) (op_for (lines_on on c) c) c.place h.called.answer h.called.own h.called.did a.pass.view.room (length h.called.last.at.0) a.port b.port h.port

  module _ (is_planned : Bool) (law : FollowsPlan is_planned Follows) (nothing : OwnsNothing Own) where
    abbrev kind : DriverKind
    kind = driver_kind limit is_planned Own Follows

    may_at : (map : Option Map) (op : Op) (own : List OneEntry) → Own map op own → MayMake kind map op own
    may_at None op own h = nothing op own h
    may_at (Some map) op own h = h

    gives_at : (map : Option Map) (before : Option Told) (op : Op) (did : List OneDeed) (room seen : ℕ) (answer : Option ℕ) → Follows map before op did room seen answer → Gives kind map before op did room seen answer
    gives_at None before op did room seen answer h = planned_by is_planned Follows law before op did room seen answer h
    gives_at (Some map) before op did room seen answer h = h

    asked_made : (n : ℕ) (op : Option Op) (place : ℕ) (what : Do) (mapped closed : Bool) (answer : Option ℕ) (own : List OneEntry) (deeds : List OneDeed) (reply : Reply) (bytes : List ℕ) (room before : ℕ) (p q : P)
        → (h : WasAskedThrough told faults kept takes Own Follows limit op place answer own deeds room before p q)
        → WasAsked kind n (map_in kind (maps_of kept takes p) place) op (exchange what mapped closed answer own room h.seen deeds reply bytes) (told p) (told q)
    asked_made n op place what mapped closed answer own deeds reply bytes room before p q h = let map : Option Map = map_in kind (maps_of kept takes p) place in record {
      asked_for = h.asked_for;
      is_this = h.is_this;
      ask = h.ask;
      inner = h.did;
      tell = h.tell;
      deeds_are = h.deeds_are;
      inner_own = h.did_own;
      may_make = may_at map h.asked_for own h.own_entries;
      gives = gives_at map (told p) h.asked_for h.did room h.seen answer h.follows;
      told_then = h.told_then;
    }

    -- how many entries it had seen when the driver had answered, and what became of the port
    port_made : (asked : Bool) (n : ℕ) (op : Option Op) (place : ℕ) (mapped closed : Bool) (answer : Option ℕ) (own : List OneEntry) (deeds : List OneDeed) (reply : Reply) (bytes : List ℕ) (room before count : ℕ) (p q : P) → before < count
        → PortOf told faults kept takes Own Follows limit asked op place answer own deeds room before p q
        → (saw : ℕ) × (saw < count) × ((what : Do) → PortBy kind n asked (map_in kind (maps_of kept takes p) place) op (exchange what mapped closed answer own room saw deeds reply bytes) (told p) (told q))
    port_made false n op place mapped closed answer own deeds reply bytes room before count p q less h = (0, omega arith, λ what. ap told h)
    port_made true n op place mapped closed answer own deeds reply bytes room before count p q less h =
        (h.seen, (let seen = h.seen_before in omega arith), λ what. asked_made n op place what mapped closed answer own deeds reply bytes room before p q h)

    pub done_made : (call : DeviceCall) (on : FileKind) (a b : ActorValue P) (reply : Reply) (bytes : List ℕ) → HasDone told faults kept takes Own Follows limit call on a reply bytes b
        → MadeFor kind (maps_of kept takes a.port) call on a.pass.view reply bytes b.pass.view (told a.port) (told b.port)
    done_made (Once call) on a b reply bytes h = record {
      called = wider limit a.pass.view b.pass.view (Once call) reply bytes h.0;
      saw = 0;
      fewer = (let less = behind_last b.pass.view.seen (entries_in h.0.did) h.0.last in omega arith);
      port = λ what. ap told h.1;
    }
    done_made (Removing removal) on a b reply bytes h = record {
      called = wider limit a.pass.view b.pass.view (Removing removal) reply bytes h.0;
      saw = 0;
      fewer = (let less = behind_last b.pass.view.seen (entries_in h.0.did) h.0.last in omega arith);
      port = λ what. ap told h.2;
    }
    done_made (Commanding c) on a b reply bytes h =
        let called = h.called in
        let n = a.pass.view.number in
        let op : Option Op = op_for (lines_on on c) c in
        let made = port_made (is_asked (entries_in called.did)) n op c.place (is_some (map_in kind (maps_of kept takes a.port) c.place)) called.closed called.answer called.own called.did reply bytes a.pass.view.room (length called.last.at.0) (length b.pass.view.seen) a.port b.port
        (behind_last b.pass.view.seen (entries_in called.did) called.last) h.port in record {
          called = called;
          saw = made.0;
          fewer = made.1;
          port = λ what. subst (λ (asked : Bool). PortBy kind n asked (map_in kind (maps_of kept takes a.port) c.place) op (exchange what (is_some (map_in kind (maps_of kept takes a.port) c.place)) called.closed called.answer called.own a.pass.view.room made.0 called.did reply bytes) (told a.port) (told b.port))
              (same_test (entries_in called.did)) (made.2 what);
        }

-- a call that was not made leaves the port
not_made_port : {P : Type 0} (call : DeviceCall) (errno : Errno) (a b : ActorValue P) → CouldNot call errno a b → b.port ≡ a.port
not_made_port {P} call errno a b = ⊎_elim (λ wanted. ap (λ (x : ActorValue P). x.port) wanted.2) (λ full. full.1)

-- what holds of a result holds of it without its order
pub plain_ok : {X O : Type 0} (r : Result X (O × Errno)) (A : X → Type 0) → IfOk r A → IfOk (plain_result r) A
plain_ok (Ok x) A h = h
plain_ok (Err e) A h = h

-- what became of a result, by what it says
pub if_ok : {X E : Type 0} (r : Result X E) (A B : X → Type 0) → ((x : X) → A x → B x) → IfOk r A → IfOk r B
if_ok (Ok x) A B f h = f x h
if_ok (Err e) A B f h = h

-- either way the port keeps its maps
pub maps_stay : {X O P : Type 0} (of : P → Maps) (call : DeviceCall) (r : Result X (O × Errno)) (a b : ActorValue P) (Done : X → Type 0) → ((x : X) → Done x → of b.port ≡ of a.port) → IfOk r Done → (old new : List ℕ)
    → IfErr r (λ e. CouldNot call e.1 a b × (new ≡ old)) → of b.port ≡ of a.port
maps_stay of call (Ok x) a b Done made h old new not_made = made x h
maps_stay of call (Err e) a b Done made h old new not_made = ap of (not_made_port call e.1 a b not_made.0)

pub each_more : {A : Type 0} (Q : A → Type 0) (xs : List A) (x : A) → Each Q xs → Q x → Each Q (xs ++ x ∷ [])
each_more Q [] x h q = (q, tt)
each_more Q (y ∷ ys) x h q = (h.0, each_more Q ys x h.1 q)

pub each_at : {A : Type 0} (Q : A → Type 0) (xs : List A) → Each Q xs → (i : ℕ) (d : A) → i < length xs → Q (get_or xs i d)
each_at Q [] h i d l = absurd (omega arith)
each_at Q (x ∷ xs) h zero d l = h.0
each_at Q (x ∷ xs) h (suc i) d l = each_at Q xs h.1 i d (omega arith)

pub each_of : {A : Type 0} (Q : A → Type 0) (xs : List A) → ((i : ℕ) (d : A) → i < length xs → Q (get_or xs i d)) → Each Q xs
each_of Q [] h = tt
each_of Q (x ∷ xs) h = (h 0 x (omega arith), each_of Q xs (λ i d l. h (suc i) d (omega arith)))

-- the ports that are left where one was taken out
pub others_have : {P : Type 0} (kept : P → List Map) (takes : P → ℕ) (m : Maps) (ports left : List (Option P)) (n : ℕ) → left ≡ set ports n None → AllHave kept takes m ports → AllHave kept takes m left
others_have {P} kept takes m ports left n is all = λ k port there. all k port (at ports n k port (subst (λ (l : List (Option P)). slice_get l k ≡ Some (Some port)) is there))
  where
    at : (xs : List (Option P)) (n k : ℕ) (port : P) → slice_get (set xs n None) k ≡ Some (Some port) → slice_get xs k ≡ Some (Some port)
    at [] n k port there = there
    at (x ∷ xs) zero zero port there = absurd (not_there (None ∷ xs) 0 refl (there_got (None ∷ xs) 0 port there))
    at (x ∷ xs) zero (suc k) port there = there
    at (x ∷ xs) (suc n) zero port there = there
    at (x ∷ xs) (suc n) (suc k) port there = at xs n k port there

-- ports of which one was put in its place
pub also_has : {P : Type 0} (kept : P → List Map) (takes : P → ℕ) (m : Maps) (ports given : List (Option P)) (n : ℕ) (port : P) → given ≡ set ports n (Some port) → AllHave kept takes m ports → maps_of kept takes port ≡ m → AllHave kept takes m given
also_has {P} kept takes m ports given n port is all one = λ k other there. at ports n k other all (subst (λ (l : List (Option P)). slice_get l k ≡ Some (Some other)) is there)
  where
    same : {x y : P} → Some (Some x) ≡ Some (Some y) → x ≡ y
    same e = cc

    at : (xs : List (Option P)) (n k : ℕ) (other : P) → AllHave kept takes m xs → slice_get (set xs n (Some port)) k ≡ Some (Some other) → maps_of kept takes other ≡ m
    at [] n k other all there = all k other there
    at (x ∷ xs) zero zero other all there = subst (λ (p : P). maps_of kept takes p ≡ m) (same there) one
    at (x ∷ xs) zero (suc k) other all there = all (suc k) other there
    at (x ∷ xs) (suc n) zero other all there = all 0 other there
    at (x ∷ xs) (suc n) (suc k) other all there = at xs n k other (λ j p is. all (suc j) p is) there

-- One actor was taken in, and its port put in its place: where all have a text so far, so have all ports these maps.
module _ {P : Type 0} (kept : P → List Map) (takes : P → ℕ) (m : Maps) where
  each_last : (Q : ActorValue P × Result (List ℕ) Errno → Type 0) (xs : List (ActorValue P × Result (List ℕ) Errno)) (x : ActorValue P × Result (List ℕ) Errno) → Each Q (xs ++ x ∷ []) → Each Q xs × Q x
  each_last Q [] x h = (tt, h.0)
  each_last Q (y ∷ ys) x h = let more = each_last Q ys x h.1 in ((h.0, more.0), more.1)

  pub joined_have : (all missing : List (ActorValue P × Result (List ℕ) Errno)) (d : ActorValue P × Result (List ℕ) Errno) (ports given : List (Option P)) (texts texts_then : List (Result (List ℕ) Errno)) (n : ℕ)
      → all ≡ missing ++ d ∷ [] → given ≡ set ports n (Some d.0.port) → texts_then ≡ d.1 ∷ texts
      → Each (StillHas kept takes m) all × ((printed : List (List ℕ)) → texts ≡ map Ok printed → AllHave kept takes m ports)
      → Each (StillHas kept takes m) missing × ((printed : List (List ℕ)) → texts_then ≡ map Ok printed → AllHave kept takes m given)
  joined_have all missing d ports given texts texts_then n last is more so_far =
      let parted = each_last (StillHas kept takes m) missing d (subst (λ l. Each (StillHas kept takes m) l) last so_far.0) in (parted.0, λ printed same. by printed parted.1 (sym more ∙ same))
    where
      head : {x y : Result (List ℕ) Errno} {xs ys : List (Result (List ℕ) Errno)} → x ∷ xs ≡ y ∷ ys → x ≡ y
      head e = cc

      tail : {x y : Result (List ℕ) Errno} {xs ys : List (Result (List ℕ) Errno)} → x ∷ xs ≡ y ∷ ys → xs ≡ ys
      tail e = cc

      by : (printed : List (List ℕ)) → StillHas kept takes m d → d.1 ∷ texts ≡ map Ok printed → AllHave kept takes m given
      by [] still e = cc
      by (text ∷ printed) still e = also_has kept takes m ports given n d.0.port is (so_far.1 printed (tail e)) (subst (λ (r : Result (List ℕ) Errno). IfOk r (λ t. maps_of kept takes d.0.port ≡ m)) (head e) still)

-- one actor more, and the actor of a row
pub with_one : {P : Type 0} (kept : P → List Map) (takes : P → ℕ) (m : Maps) (actors more : List (ActorValue P)) (a : ActorValue P) → more ≡ actors ++ a ∷ [] → HaveMaps kept takes m actors → maps_of kept takes a.port ≡ m → HaveMaps kept takes m more
with_one {P} kept takes m actors more a is all one =
    subst (λ (l : List (ActorValue P)). HaveMaps kept takes m l) (sym is) (each_more (λ (x : ActorValue P). maps_of kept takes x.port ≡ m) actors a all one)

pub maps_at : {P : Type 0} (kept : P → List Map) (takes : P → ℕ) (m : Maps) (actors : List (ActorValue P)) → HaveMaps kept takes m actors → (i : ℕ) (a : ActorValue P) → i < length actors → a ≡ get_or actors i a → maps_of kept takes a.port ≡ m
maps_at {P} kept takes m actors all i a less is =
    subst (λ (x : ActorValue P). maps_of kept takes x.port ≡ m) (sym is) (each_at (λ (x : ActorValue P). maps_of kept takes x.port ≡ m) actors all i a less)

-- What an actor has seen grows, whether its call was made or not.
pub done_grew : {P : Type 0} (told : P → Option Told) (faults : P → ℕ) (kept : P → List Map) (takes : P → ℕ) (Own : OwnRelation) (Follows : FollowsRelation) (limit : ℕ) (call : DeviceCall) (on : FileKind) (a b : ActorValue P) (reply : Reply) (bytes : List ℕ)
    → HasDone told faults kept takes Own Follows limit call on a reply bytes b → StartsWith b.pass.view.seen a.pass.view.seen
done_grew told faults kept takes Own Follows limit (Once call) on a b reply bytes h = h.0.grew.seen
done_grew told faults kept takes Own Follows limit (Removing removal) on a b reply bytes h = h.0.grew.seen
done_grew told faults kept takes Own Follows limit (Commanding c) on a b reply bytes h = h.called.grew.seen

pub seen_grows : {X O P : Type 0} (call : DeviceCall) (r : Result X (O × Errno)) (a b : ActorValue P) (Done : X → Type 0) → ((x : X) → Done x → StartsWith b.pass.view.seen a.pass.view.seen) → IfOk r Done → (old new : List ℕ)
    → IfErr r (λ e. CouldNot call e.1 a b × (new ≡ old)) → StartsWith b.pass.view.seen a.pass.view.seen
seen_grows call (Ok x) a b Done made h old new not_made = made x h
seen_grows {X} {O} {P} call (Err e) a b Done made h old new not_made =
    ⊎_elim (λ wanted. subst (λ (x : ActorValue P). StartsWith x.pass.view.seen a.pass.view.seen) (sym wanted.2) ([], sym (append-nil a.pass.view.seen))) (λ full. full.2.grew.seen) not_made.0

-- a value that was changed or left
pub either_way : {X E A : Type 0} (r : Result X E) (P : A → Type 0) (new changed old : A) → OnOk r (new ≡ changed) → OnErr r (new ≡ old) → P changed → P old → P new
either_way (Ok x) P new changed old is kept p q = subst P (sym is) p
either_way (Err e) P new changed old is kept p q = subst P (sym kept) q

pub on_err_weaker : {X E A B : Type 0} (r : Result X E) → (A → B) → OnErr r A → OnErr r B
on_err_weaker (Ok x) f h = h
on_err_weaker (Err e) f h = f h

-- what holds whatever a result is
pub on_ok_of : {X E : Type 0} (r : Result X E) (A : Type 0) → A → OnOk r A
on_ok_of (Ok x) A a = a
on_ok_of (Err e) A a = tt
