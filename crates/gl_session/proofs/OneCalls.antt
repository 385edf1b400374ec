-- A call of the device by one actor alone: what its deeds tell is what One makes of the call in the world before it.
use Rattle.std.proofs.Common.{◌≡◌, ℕ, ◌+◌, ◌<◌, ◌≤◌, Bool, true, false, List, [], ◌∷◌, ◌++◌, length, length-append, map, Option, None, Some, refl, sym, ap, ◌∙◌, subst, arith}
use Rattle.std.specs.Prelude.{cond, if◌then◌else◌, ◌&&◌, not}
use Rattle.std.proofs.lemmas.List.{append_assoc}
use Rattle.std.proofs.lemmas.Bool.{true≢false}
use Rattle.gl_base.specs.Rows.{Each}
use Rattle.gl_base.specs.declared.phase.Phase.{Phase}
use Rattle.gl_base.specs.declared.phase.Phase.TheVariants.{Absent, Up, Leaving, Gone}
use Rattle.gl_uapi.specs.Command.{command_of}
use Rattle.gl_world.specs.Deeds.{entries_in}
use Rattle.gl_world.specs.History.{ended_in, entry}
use Rattle.gl_world.specs.Laws.{Laws}
use Rattle.gl_world.specs.Removal.{AllQuiet}
use Rattle.gl_world.specs.Ranks.{rank}
use Rattle.gl_model.specs.declared.call.Call.{Call}
use Rattle.gl_model.specs.declared.call.Call.TheVariants.{Probe, Unplug, MakeDir, RemoveDir, Write, Read, Live, Remove, Tick, Pin, Irq, Pull, Level, Interrupt, OpenChip, Find, Ioctl, ReadEdges, ReadInfo, PollLine, PollChip, Close, Refused as RefusedCall}
use Rattle.gl_model.specs.declared.call.Part.{Part}
use Rattle.gl_model.specs.declared.call.Part.TheVariants.{Whole, Ask, Tell}
use Rattle.gl_model.specs.declared.reply.Reply.{Reply}
use Rattle.gl_model.specs.Chips.{phase_at}
use Rattle.gl_model.specs.Entries.{begins, begun_places, ends, guarded_place, is_last_removal, is_tell, last_call, places_named, refused_place}
use Rattle.gl_model.specs.Fits.{FitsCall}
use Rattle.gl_model.specs.Outcome.{Outcome}
use Rattle.gl_model.specs.declared.device_call.CommandIn.{CommandIn}
use Rattle.gl_model.specs.declared.device_call.DeviceCall.{DeviceCall}
use Rattle.gl_model.specs.declared.device_call.DeviceCall.TheVariants.{Once, Removing, Commanding}
use Rattle.gl_model.specs.declared.device_call.RemovalOf.{RemovalOf}
use Rattle.gl_model.specs.declared.device_call.RemovalOf.TheVariants.{OfChip, OfDevice}
use Rattle.gl_model.specs.Parts.{Makes, MakesAt, MakesCommand, MakesOne, MakesRest, MakesTwo, first_call, in_ask, in_tell, in_whole, is_driver_asked, is_poll, is_single, last_reply}
use Rattle.gl_model.specs.Step.{guard_reply, step}
use Rattle.gl_model.specs.World.{World}
use Rattle.gl_core.specs.Device.{OneDeed, OneEntry, call_tells, core, last_bytes, part_tells}
use Rattle.gl_check.specs.One.{Answering, at_guard, comes_by, count_inside, entry_count, inside_by, is_asked, is_closed, is_gone, one_or_more, place_of_guard, steps_of, tells_among, two_around, world_asked, world_behind}
use Rattle.gl_check.specs.Lawful.{IsLetInOrRefused, deed_of}
use Rattle.gl_check.specs.Seats.{is_refusal}
use Rattle.gl_check.specs.Turns.{is_begun, was_asked}
use Rattle.gl_session.specs.Alone.{calls_in, is_command}
use Rattle.gl_session.proofs.OneHistories.{FirstDeed, IsSteady, Rest, first_deed, head_deed, last_deed, length_entries, no_deeds, one_deed, removal_steady, rest_own, still_steady}

-- a call that is whole by itself tells no answer of a driver, begins no removal, and is no command
pub record IsPlain (call : Call) : Type 0 where
  pub tells_nothing : call_tells call ≡ []
  pub is_none : is_command call ≡ false
  pub begins_none : (reply : Reply) (bytes : List ℕ) → begun_places call reply bytes ≡ []

pub single_is_plain : (call : Call) → is_single call ≡ true → IsPlain call
single_is_plain (Unplug a b) s = absurd (true≢false (sym s))
single_is_plain (Remove a b) s = absurd (true≢false (sym s))
single_is_plain (Ioctl a b c d e f) s = absurd (true≢false (sym s))
single_is_plain (RefusedCall a b) s = absurd (true≢false (sym s))
single_is_plain (Probe a b c) s = record { tells_nothing = refl; begins_none = λ reply bytes. refl; is_none = refl }
single_is_plain (MakeDir a) s = record { tells_nothing = refl; begins_none = λ reply bytes. refl; is_none = refl }
single_is_plain (RemoveDir a) s = record { tells_nothing = refl; begins_none = λ reply bytes. refl; is_none = refl }
single_is_plain (Write a b) s = record { tells_nothing = refl; begins_none = λ reply bytes. refl; is_none = refl }
single_is_plain (Read a) s = record { tells_nothing = refl; begins_none = λ reply bytes. refl; is_none = refl }
single_is_plain (Live a) s = record { tells_nothing = refl; begins_none = λ reply bytes. refl; is_none = refl }
single_is_plain (Tick a b) s = record { tells_nothing = refl; begins_none = λ reply bytes. refl; is_none = refl }
single_is_plain (Pin a b) s = record { tells_nothing = refl; begins_none = λ reply bytes. refl; is_none = refl }
single_is_plain (Irq a b c) s = record { tells_nothing = refl; begins_none = λ reply bytes. refl; is_none = refl }
single_is_plain (Pull a b c) s = record { tells_nothing = refl; begins_none = λ reply bytes. refl; is_none = refl }
single_is_plain (Level a b c) s = record { tells_nothing = refl; begins_none = λ reply bytes. refl; is_none = refl }
single_is_plain (Interrupt a b c) s = record { tells_nothing = refl; begins_none = λ reply bytes. refl; is_none = refl }
single_is_plain (OpenChip a) s = record { tells_nothing = refl; begins_none = λ reply bytes. refl; is_none = refl }
single_is_plain (Find a b) s = record { tells_nothing = refl; begins_none = λ reply bytes. refl; is_none = refl }
single_is_plain (ReadEdges a b c) s = record { tells_nothing = refl; begins_none = λ reply bytes. refl; is_none = refl }
single_is_plain (ReadInfo a b c) s = record { tells_nothing = refl; begins_none = λ reply bytes. refl; is_none = refl }
single_is_plain (PollLine a b) s = record { tells_nothing = refl; begins_none = λ reply bytes. refl; is_none = refl }
single_is_plain (PollChip a b) s = record { tells_nothing = refl; begins_none = λ reply bytes. refl; is_none = refl }
single_is_plain (Close a) s = record { tells_nothing = refl; begins_none = λ reply bytes. refl; is_none = refl }

-- a place that isn't Leaving is Gone where it is closed, and where it isn't Gone its guard is open
gone_if : (p : Phase) → (rank p ≡ 2 → ⊥) → 2 ≤ rank p → is_gone p ≡ true
gone_if Absent steady closed = absurd (omega arith)
gone_if Up steady closed = absurd (omega arith)
gone_if Leaving steady closed = absurd (steady refl)
gone_if Gone steady closed = refl

open_if : (p : Phase) → rank p < 3 → is_gone p ≡ false
open_if Absent low = refl
open_if Up low = refl
open_if Leaving low = refl
open_if Gone low = absurd (omega arith)

-- the deeds are what the machine comes to, and leave the rest
pub record Came (did ds : List OneDeed) (out : Outcome) : Type 0 where
  pub reply : last_reply (entries_in did) ≡ Some out.reply
  pub bytes : last_bytes did ≡ out.bytes
  pub rest : Rest core out.world ds
  pub steady : IsSteady core out.world

-- one entry
record Single (w : World) (call : Call) (did ds : List OneDeed) : Type 0 where
  pub came : Came did ds (step w 0 call)
  pub named : (p : ℕ) → guarded_place call ≡ Some p → rank (phase_at w p) < 3
  pub refused : (p : ℕ) → refused_place call ≡ Some p → 2 ≤ rank (phase_at w p)
  pub count : length did ≡ 1

-- two entries with the driver's own between them, or the first of them alone
record Pair (w : World) (first : Call) (own : List OneEntry) (second : Call) (did ds : List OneDeed) : Type 0 where
  pub came : Came did ds (two_around w first (calls_in own) second)
  pub named : (p : ℕ) → guarded_place first ≡ Some p → rank (phase_at w p) < 3
  pub asked : is_begun (entries_in did) ≡ begins first (step w 0 first).reply
  pub count : length did ≡ one_or_more w first (length own)

-- a call of the device in which the driver did this
record Exact (w : World) (call : DeviceCall) (a : Answering) (own : ℕ) (did ds : List OneDeed) : Type 0 where
  pub asked : was_asked call (entries_in did) ≡ is_asked w call
  pub came : Came did ds (comes_by w call a)
  pub count : length did ≡ entry_count w call own

abbrev doing : List OneEntry → Option ℕ → Answering
doing own answer = record { own = calls_in own; answer = answer }

-- the same, whatever is guessed of the driver where it isn't asked
pub record Comes (w : World) (call : DeviceCall) (answer : Option ℕ) (own : List OneEntry) (did ds : List OneDeed) : Type 0 where
  pub asked : was_asked call (entries_in did) ≡ is_asked w call
  pub came : (guess : Answering) → (is_asked w call ≡ true → guess ≡ doing own answer) → Came did ds (comes_by w call guess)
  pub count : (guess : Answering) → (is_asked w call ≡ true → guess ≡ doing own answer) → length did ≡ entry_count w call (length guess.own)

-- how many entries there are at a guard, at one that is open, and at one that is closed
abbrev count_at : Option ℕ → World → ℕ → ℕ
count_at guard w count = if is_closed guard w then 1 else count

count_open : (w : World) (place n : ℕ) → rank (phase_at w place) < 3 → count_at (Some place) w n ≡ n
count_open w place n low = ap (λ (b : Bool). if b then 1 else n) (open_if (phase_at w place) low)

count_closed : (w : World) (place n : ℕ) → is_gone (phase_at w place) ≡ true → count_at (Some place) w n ≡ 1
count_closed w place n gone = ap (λ (b : Bool). if b then 1 else n) gone

count_by : (w : World) (c : CommandIn) (own : ℕ) (b : Bool) → is_driver_asked c.of_chip c.len (command_of c.cmd) ≡ b
    → entry_count w (Commanding c) own ≡ count_at (Some c.place) w (if b then one_or_more w (in_ask c) own else 1)
count_by w c own b is = ap (λ (a : Bool). count_at (Some c.place) w (if a then one_or_more w (in_ask c) own else 1)) is

-- deeds with these entries are as many
as_many : (did : List OneDeed) (entries : List OneEntry) → entries_in did ≡ entries → length did ≡ length entries
as_many did entries is = sym (length_entries did) ∙ ap (λ (l : List OneEntry). length l) is

as_many_calls : (own : List OneEntry) → length (calls_in own) ≡ length own
as_many_calls [] = refl
as_many_calls (e ∷ own) = let later = as_many_calls own in omega arith

-- what the driver does counts only where it is asked
picks : {X : Type 0} (gone asks goes : Bool) (x a b y z : X) → ((asks && (not gone && goes)) ≡ true → a ≡ b)
    → (if gone then x else (if asks then (if goes then a else y) else z)) ≡ (if gone then x else (if asks then (if goes then b else y) else z))
picks true asks goes x a b y z same = refl
picks false false goes x a b y z same = refl
picks false true false x a b y z same = refl
picks false true true x a b y z same = same refl

command_as : (w : World) (c : CommandIn) (a b : Answering) → (is_asked w (Commanding c) ≡ true → a ≡ b) → comes_by w (Commanding c) a ≡ comes_by w (Commanding c) b
command_as w c a b same =
    picks (is_gone (phase_at w c.place)) (is_driver_asked c.of_chip c.len (command_of c.cmd)) (begins (in_ask c) (step w 0 (in_ask c)).reply) (step w 0 (RefusedCall c.place false))
    (step (world_behind (step w 0 (in_ask c)).world a.own) 0 (in_tell a.answer c)) (step (world_behind (step w 0 (in_ask c)).world b.own) 0 (in_tell b.answer c)) (step w 0 (in_ask c)) (step w 0 (in_whole c))
    (λ is. ap (λ (x : Answering). step (world_behind (step w 0 (in_ask c)).world x.own) 0 (in_tell x.answer c)) (same is))

count_as : (w : World) (c : CommandIn) (n m : ℕ) → (is_asked w (Commanding c) ≡ true → n ≡ m) → entry_count w (Commanding c) n ≡ entry_count w (Commanding c) m
count_as w c n m same =
    picks (is_gone (phase_at w c.place)) (is_driver_asked c.of_chip c.len (command_of c.cmd)) (begins (in_ask c) (step w 0 (in_ask c)).reply) 1 (2 + n) (2 + m) 1 1 (λ is. ap (λ k. 2 + k) (same is))

never_and : (b : Bool) → b && false ≡ false
never_and true = refl
never_and false = refl

-- the calls of a removal
unbegun_none : (removal : RemovalOf) (reply : Reply) (bytes : List ℕ) → begins (first_call removal) reply ≡ false → begun_places (first_call removal) reply bytes ≡ []
unbegun_none (OfChip place) reply bytes unbegun = ap (λ (b : Bool). if b then places_named bytes else []) unbegun
unbegun_none (OfDevice device) reply bytes unbegun = ap (λ (b : Bool). if b then places_named bytes else []) unbegun

last_none : (removal : RemovalOf) (reply : Reply) (bytes : List ℕ) → begun_places (last_call (first_call removal)) reply bytes ≡ []
last_none (OfChip place) reply bytes = refl
last_none (OfDevice device) reply bytes = refl

abbrev first_or : OneEntry → List OneEntry → OneEntry
first_or d [] = d
first_or d (e ∷ es) = e

-- a call is refused at its guard just where that is closed
open_at : (w : World) (guard : Option ℕ) → ((p : ℕ) → guard ≡ Some p → rank (phase_at w p) < 3) → false ≡ is_closed guard w
open_at w None named = refl
open_at w (Some place) named = sym (open_if (phase_at w place) (named place refl))

guard_so : (w : World) (call : Call) → ((p : ℕ) → guarded_place call ≡ Some p → rank (phase_at w p) < 3) → ((p : ℕ) → refused_place call ≡ Some p → 2 ≤ rank (phase_at w p)) → IsSteady core w
    → is_refusal call ≡ is_closed (place_of_guard call) w
guard_so w (RefusedCall place poll) named refused steady = sym (gone_if (phase_at w place) (steady place) (refused place refl))
guard_so w call named refused steady = open_at w (guarded_place call) named

-- the last of deeds
reply_behind : (x : OneDeed) (inner : List OneDeed) (y : OneDeed) → last_reply (entries_in (x ∷ (inner ++ y ∷ []))) ≡ Some y.entry.reply
reply_behind x [] y = refl
reply_behind x (d ∷ inner) y = reply_behind d inner y

bytes_behind : (x : OneDeed) (inner : List OneDeed) (y : OneDeed) → last_bytes (x ∷ (inner ++ y ∷ [])) ≡ y.bytes
bytes_behind x [] y = refl
bytes_behind x (d ∷ inner) y = bytes_behind d inner y

module _ (laws : Laws core) where
  single : (w : World) (call : Call) (did ds : List OneDeed) → MakesOne 0 call (entries_in did) → Rest core w (did ++ ds) → IsSteady core w
      → ((reply : Reply) (bytes : List ℕ) → begun_places call reply bytes ≡ []) → Single w call did ds
  single w call did ds (reply, is) rest steady none = let o = one_deed did (entry 0 call reply) is in
      let f : FirstDeed core w call o.0 ds = first_deed core laws w call reply o.0 ds o.2 (subst (λ (l : List OneDeed). Rest core w (l ++ ds)) o.1 rest) in record {
        came = record {
          reply = ap (λ (l : List OneDeed). last_reply (entries_in l)) o.1 ∙ ap Some f.reply;
          bytes = ap (λ (l : List OneDeed). last_bytes l) o.1 ∙ f.bytes;
          rest = f.rest;
          steady = still_steady core laws w call rest.sound f.fits steady (none (step w 0 call).reply (step w 0 call).bytes);
        };
        named = f.named;
        refused = f.refused;
        count = as_many did _ is;
      }

  -- calls that have nothing to do with removals, one after another
  quiet_deeds : (w : World) (inner ds : List OneDeed) → AllQuiet core (entries_in inner) → Rest core w (inner ++ ds) → IsSteady core w
      → Rest core (world_behind w (calls_in (entries_in inner))) ds × IsSteady core (world_behind w (calls_in (entries_in inner)))
  quiet_deeds w [] ds quiet rest steady = (rest, steady)
  quiet_deeds w (d ∷ inner) ds quiet rest steady =
      let mine : d.entry ≡ entry 0 d.entry.call d.entry.reply = λ i. record { actor = rest_own core w d (inner ++ ds) rest i; call = d.entry.call; reply = d.entry.reply } in
      let f : FirstDeed core w d.entry.call d (inner ++ ds) = first_deed core laws w d.entry.call d.entry.reply d (inner ++ ds) mine rest in
      quiet_deeds (step w 0 d.entry.call).world inner ds quiet.1 f.rest
      (still_steady core laws w d.entry.call rest.sound f.fits steady
      (ap (λ r. begun_places d.entry.call r (step w 0 d.entry.call).bytes) (sym f.reply) ∙ quiet.0.0 (step w 0 d.entry.call).bytes))

  -- between a first entry that begins a second one and that second one stand these entries, and then there is no place Leaving
  abbrev GoesBetween : World → Call → List OneEntry → Call → Type 0
  GoesBetween w first own second = let after : World = (step w 0 first).world in let behind : World = world_behind after (calls_in own) in
      (inner es : List OneDeed) → entries_in inner ≡ own → FitsCall first → Rest core after (inner ++ es)
      → Rest core behind es × (FitsCall second → IsSteady core (step behind 0 second).world)

  pair : (w : World) (first : Call) (own : List OneEntry) (second : Call) (did ds : List OneDeed) → MakesTwo 0 first second own (entries_in did) → Rest core w (did ++ ds)
      → (FitsCall first → begins first (step w 0 first).reply ≡ false → IsSteady core (step w 0 first).world) → GoesBetween w first own second → Pair w first own second did ds
  pair w first own second did ds (reply, later, is, makes) rest alone goes = by (begins first reply) refl makes
    where
      after : World
      after = (step w 0 first).world

      behind : World
      behind = world_behind after (calls_in own)

      same_reply : (d : OneDeed) → d.entry ≡ entry 0 first reply → d.entry.reply ≡ (step w 0 first).reply → reply ≡ (step w 0 first).reply
      same_reply d at is_reply = sym (ap (λ (e : OneEntry). e.reply) at) ∙ is_reply

      by : (b : Bool) → begins first reply ≡ b → MakesRest 0 b second own later → Pair w first own second did ds
      by false e makes = let es : entries_in did ≡ entry 0 first reply ∷ [] = is ∙ ap (λ (l : List OneEntry). entry 0 first reply ∷ l) makes.0 in let o = one_deed did (entry 0 first reply) es in
          let f : FirstDeed core w first o.0 ds = first_deed core laws w first reply o.0 ds o.2 (subst (λ (l : List OneDeed). Rest core w (l ++ ds)) o.1 rest) in
          let same = ap (λ r. begins first r) (same_reply o.0 o.2 f.reply) in
          let unbegun : begins first (step w 0 first).reply ≡ false = sym same ∙ e in record {
            came = subst (λ (b : Bool). Came did ds (if b then step behind 0 second else step w 0 first)) (sym unbegun) (record {
              reply = ap (λ (l : List OneDeed). last_reply (entries_in l)) o.1 ∙ ap Some f.reply;
              bytes = ap (λ (l : List OneDeed). last_bytes l) o.1 ∙ f.bytes;
              rest = f.rest;
              steady = alone f.fits unbegun;
            });
            named = f.named;
            asked = ap (λ (l : List OneEntry). is_begun l) es ∙ same;
            count = as_many did _ es ∙ ap (λ (b : Bool). if b then 2 + length own else 1) (sym unbegun);
          }
      by true e makes = let es : entries_in did ≡ entry 0 first reply ∷ (own ++ entry 0 second makes.0 ∷ []) = is ∙ ap (λ (l : List OneEntry). entry 0 first reply ∷ l) makes.1 in
          let o = head_deed did (entry 0 first reply) (own ++ entry 0 second makes.0 ∷ []) es in
          let u = last_deed o.1 own (entry 0 second makes.0) o.4 in
          let x : OneDeed = o.0 in let inner : List OneDeed = u.0 in let y : OneDeed = u.1 in
          let did_is : did ≡ x ∷ (inner ++ y ∷ []) = o.2 ∙ ap (λ (l : List OneDeed). x ∷ l) u.2 in
          let whole : Rest core w (x ∷ (inner ++ y ∷ ds)) = subst (λ (l : List OneDeed). Rest core w (x ∷ l)) (append_assoc inner (y ∷ []) ds) (subst (λ (l : List OneDeed). Rest core w (l ++ ds)) did_is rest) in
          let f : FirstDeed core w first x (inner ++ y ∷ ds) = first_deed core laws w first reply x (inner ++ y ∷ ds) o.3 whole in
          let between = goes inner (y ∷ ds) u.3 f.fits f.rest in
          let g : FirstDeed core behind second y ds = first_deed core laws behind second makes.0 y ds u.4 between.0 in
          let same = ap (λ r. begins first r) (same_reply x o.3 f.reply) in
          let begun : begins first (step w 0 first).reply ≡ true = sym same ∙ e in
          let many : length did ≡ 2 + length own = (let all = as_many did _ es in let both = length-append own (entry 0 second makes.0 ∷ []) in omega arith) in record {
            came = subst (λ (b : Bool). Came did ds (if b then step behind 0 second else step w 0 first)) (sym begun) (record {
              reply = ap (λ (l : List OneDeed). last_reply (entries_in l)) did_is ∙ reply_behind x inner y ∙ ap Some g.reply;
              bytes = ap (λ (l : List OneDeed). last_bytes l) did_is ∙ bytes_behind x inner y ∙ g.bytes;
              rest = g.rest;
              steady = between.1 g.fits;
            });
            named = f.named;
            asked = ap (λ (l : List OneEntry). is_begun l) es ∙ same;
            count = many ∙ ap (λ (b : Bool). if b then 2 + length own else 1) (sym begun);
          }

  -- at the closed guard of a place
  at_closed : (w : World) (place : ℕ) (poll : Bool) (did ds : List OneDeed) (out : Outcome) → entries_in did ≡ entry 0 (RefusedCall place poll) (guard_reply poll) ∷ [] → Rest core w (did ++ ds) → IsSteady core w
      → (is_gone (phase_at w place) ≡ true) × Came did ds (at_guard (Some place) poll w out)
  at_closed w place poll did ds out is rest steady = let s = single w (RefusedCall place poll) did ds (guard_reply poll, is) rest steady (λ reply bytes. refl) in
      let gone = gone_if (phase_at w place) (steady place) (s.refused place refl) in
      (gone, subst (λ (b : Bool). Came did ds (if b then step w 0 (RefusedCall place poll) else out)) (sym gone) s.came)

  -- at its open guard
  at_open : (w : World) (place : ℕ) (poll : Bool) (did ds : List OneDeed) (out : Outcome) → rank (phase_at w place) < 3 → Came did ds out → Came did ds (at_guard (Some place) poll w out)
  at_open w place poll did ds out low came = subst (λ (b : Bool). Came did ds (if b then step w 0 (RefusedCall place poll) else out)) (sym (open_if (phase_at w place) low)) came

  once : (w : World) (call : Call) (a : Answering) (n : ℕ) (answer : Option ℕ) (own : List OneEntry) (did ds : List OneDeed) → is_single call ≡ true → (guard : Option ℕ) → guarded_place call ≡ guard → (closed : Bool)
      → MakesAt 0 guard closed (Once call) answer own (entries_in did) → Rest core w (did ++ ds) → IsSteady core w → Exact w (Once call) a n did ds
  once w call a n answer own did ds is_one guard named closed makes rest steady = by guard named closed makes
    where
      none : (reply : Reply) (bytes : List ℕ) → begun_places call reply bytes ≡ []
      none = (single_is_plain call is_one).begins_none

      by : (guard : Option ℕ) → guarded_place call ≡ guard → (closed : Bool) → MakesAt 0 guard closed (Once call) answer own (entries_in did) → Exact w (Once call) a n did ds
      by None named closed makes = record {
        asked = refl;
        count = as_many did _ makes.0.1 ∙ ap (λ (g : Option ℕ). count_at g w 1) (sym named);
        came = subst (λ (g : Option ℕ). Came did ds (at_guard g (is_poll (Once call)) w (step w 0 call))) (sym named) (single w call did ds makes.0 rest steady none).came;
      }
      by (Some place) named false makes = let s = single w call did ds makes.0 rest steady none in record {
        asked = refl;
        count = s.count ∙ sym (count_open w place 1 (s.named place named)) ∙ ap (λ (g : Option ℕ). count_at g w 1) (sym named);
        came = subst (λ (g : Option ℕ). Came did ds (at_guard g (is_poll (Once call)) w (step w 0 call))) (sym named) (at_open w place (is_poll (Once call)) did ds (step w 0 call) (s.named place named) s.came);
      }
      by (Some place) named true makes = record {
        asked = refl;
        count = as_many did _ makes.0 ∙ sym (count_closed w place 1 (at_closed w place (is_poll (Once call)) did ds (step w 0 call) makes.0 rest steady).0) ∙ ap (λ (g : Option ℕ). count_at g w 1) (sym named);
        came = subst (λ (g : Option ℕ). Came did ds (at_guard g (is_poll (Once call)) w (step w 0 call))) (sym named) (at_closed w place (is_poll (Once call)) did ds (step w 0 call) makes.0 rest steady).1;
      }

  removing : (w : World) (removal : RemovalOf) (a : Answering) (n : ℕ) (did ds : List OneDeed) → MakesTwo 0 (first_call removal) (last_call (first_call removal)) [] (entries_in did)
      → Rest core w (did ++ ds) → IsSteady core w → Exact w (Removing removal) a n did ds
  removing w removal a n did ds makes rest steady = let first : Call = first_call removal in let last : Call = last_call first in
      let p = pair w first [] last did ds makes rest
      (λ fits unbegun. still_steady core laws w first rest.sound fits steady (unbegun_none removal (step w 0 first).reply (step w 0 first).bytes unbegun))
      (λ inner es none fits later. (
        subst (λ (l : List OneDeed). Rest core (step w 0 first).world (l ++ es)) (no_deeds inner none) later,
        λ fits_last. removal_steady core laws w first last rest.sound fits fits_last steady refl (last_none removal (step (step w 0 first).world 0 last).reply (step (step w 0 first).world 0 last).bytes),
      )) in record {
        asked = refl;
        count = p.count;
        came = p.came;
      }

  -- a command behind its open guard
  command : (w : World) (c : CommandIn) (answer : Option ℕ) (own : List OneEntry) (did ds : List OneDeed) (asks : Bool) → is_driver_asked c.of_chip c.len (command_of c.cmd) ≡ asks → AllQuiet core own
      → MakesCommand 0 asks answer c own (entries_in did) → Rest core w (did ++ ds) → IsSteady core w → Exact w (Commanding c) (doing own answer) (length own) did ds
  command w c answer own did ds false is quiet makes rest steady = let s = single w (in_whole c) did ds makes.0 rest steady (λ reply bytes. refl) in record {
    asked = ap (λ (l : List OneEntry). is_begun l) makes.0.1 ∙ sym (ap (λ (a : Bool). a && (not (is_gone (phase_at w c.place)) && begins (in_ask c) (step w 0 (in_ask c)).reply)) is);
    count = s.count ∙ sym (count_open w c.place 1 (s.named c.place refl)) ∙ sym (count_by w c (length own) false is);
    came = at_open w c.place false did ds (inside_by w (Commanding c) (doing own answer)) (s.named c.place refl)
        (subst (λ (a : Bool). Came did ds (if a then two_around w (in_ask c) (calls_in own) (in_tell answer c) else step w 0 (in_whole c))) (sym is) s.came);
  }
  command w c answer own did ds true is quiet makes rest steady =
      let ask : Call = in_ask c in let tell : Call = in_tell answer c in
      let p = pair w ask own tell did ds makes rest
      (λ fits unbegun. still_steady core laws w ask rest.sound fits steady refl)
      (λ inner es same fits later.
      let on = quiet_deeds (step w 0 ask).world inner es (subst (λ (l : List OneEntry). AllQuiet core l) (sym same) quiet) later (still_steady core laws w ask rest.sound fits steady refl) in
      let there = subst (λ (l : List OneEntry). Rest core (world_behind (step w 0 ask).world (calls_in l)) es × IsSteady core (world_behind (step w 0 ask).world (calls_in l))) same on in (
        there.0,
        λ fits_tell. still_steady core laws (world_behind (step w 0 ask).world (calls_in own)) tell there.0.sound fits_tell there.1 refl,
      )) in
      let low = p.named c.place refl in let go : Bool = begins ask (step w 0 ask).reply in
      let asked : is_asked w (Commanding c) ≡ go = ap (λ (a : Bool). a && (not (is_gone (phase_at w c.place)) && go)) is ∙ ap (λ (g : Bool). not g && go) (open_if (phase_at w c.place) low) in record {
        asked = p.asked ∙ sym asked;
        count = p.count ∙ sym (count_open w c.place (one_or_more w ask (length own)) low) ∙ sym (count_by w c (length own) true is);
        came = at_open w c.place false did ds (inside_by w (Commanding c) (doing own answer)) low
            (subst (λ (a : Bool). Came did ds (if a then two_around w ask (calls_in own) tell else step w 0 (in_whole c))) (sym is) p.came);
      }

  commanding : (w : World) (c : CommandIn) (closed : Bool) (answer : Option ℕ) (own : List OneEntry) (did ds : List OneDeed) → AllQuiet core own → MakesAt 0 (Some c.place) closed (Commanding c) answer own (entries_in did)
      → Rest core w (did ++ ds) → IsSteady core w → Exact w (Commanding c) (doing own answer) (length own) did ds
  commanding w c false answer own did ds quiet makes rest steady = command w c answer own did ds (is_driver_asked c.of_chip c.len (command_of c.cmd)) refl quiet makes rest steady
  commanding w c true answer own did ds quiet makes rest steady =
      let asks : Bool = is_driver_asked c.of_chip c.len (command_of c.cmd) in let go : Bool = begins (in_ask c) (step w 0 (in_ask c)).reply in
      let at = at_closed w c.place false did ds (inside_by w (Commanding c) (doing own answer)) makes.0 rest steady in
      let asked : is_asked w (Commanding c) ≡ false = ap (λ (g : Bool). asks && (not g && go)) at.0 ∙ never_and asks in record {
        asked = ap (λ (l : List OneEntry). is_begun l) makes.0 ∙ sym asked;
        count = as_many did _ makes.0 ∙ sym (count_closed w c.place (count_inside w (Commanding c) (length own)) at.0);
        came = at.1;
      }

  -- each call of the device
  pub comes : (w : World) (call : DeviceCall) (closed : Bool) (answer : Option ℕ) (own : List OneEntry) (did ds : List OneDeed) → Makes 0 closed call answer own (entries_in did) → AllQuiet core own
      → Rest core w (did ++ ds) → IsSteady core w → Comes w call answer own did ds
  comes w (Once call) closed answer own did ds makes quiet rest steady = record {
    asked = refl;
    came = λ guess right. (once w call guess 0 answer own did ds makes.0 (guarded_place call) refl closed makes.1 rest steady).came;
    count = λ guess right. (once w call guess (length guess.own) answer own did ds makes.0 (guarded_place call) refl closed makes.1 rest steady).count;
  }
  comes w (Removing removal) closed answer own did ds makes quiet rest steady = record {
    asked = refl;
    came = λ guess right. (removing w removal guess 0 did ds makes.1.0 rest steady).came;
    count = λ guess right. (removing w removal guess (length guess.own) did ds makes.1.0 rest steady).count;
  }
  comes w (Commanding c) closed answer own did ds makes quiet rest steady =
      let x = commanding w c closed answer own did ds quiet makes.1 rest steady in record {
        asked = x.asked;
        came = λ guess right. subst (λ (out : Outcome). Came did ds out) (command_as w c (doing own answer) guess (λ is. sym (right is))) x.came;
        count = λ guess right. x.count ∙ count_as w c (length own) (length guess.own) (λ is. sym (as_many_calls own) ∙ ap (λ (a : Answering). length a.own) (sym (right is)));
      }

  -- what an actor did in the calls of a list, as the machine's steps make them
  steps_as : (w : World) (inner ds : List OneDeed) → Rest core w (inner ++ ds) → map deed_of (steps_of w (calls_in (entries_in inner))) ≡ inner
  steps_as w [] ds rest = refl
  steps_as w (d ∷ inner) ds rest =
      let mine : d.entry ≡ entry 0 d.entry.call d.entry.reply = λ i. record { actor = rest_own core w d (inner ++ ds) rest i; call = d.entry.call; reply = d.entry.reply } in
      let f : FirstDeed core w d.entry.call d (inner ++ ds) = first_deed core laws w d.entry.call d.entry.reply d (inner ++ ds) mine rest in
      (λ i. record { entry = record { actor = sym mine_actor i; call = d.entry.call; reply = sym f.reply i }; bytes = sym f.bytes i } ∷ steps_as (step w 0 d.entry.call).world inner ds f.rest i)
    where
      mine_actor : d.entry.actor ≡ 0
      mine_actor = rest_own core w d (inner ++ ds) rest

  -- each of them was let in or refused at its guard
  steps_guarded : (w : World) (inner ds : List OneDeed) → AllQuiet core (entries_in inner) → Rest core w (inner ++ ds) → IsSteady core w → Each IsLetInOrRefused (steps_of w (calls_in (entries_in inner)))
  steps_guarded w [] ds quiet rest steady = tt
  steps_guarded w (d ∷ inner) ds quiet rest steady =
      let mine : d.entry ≡ entry 0 d.entry.call d.entry.reply = λ i. record { actor = rest_own core w d (inner ++ ds) rest i; call = d.entry.call; reply = d.entry.reply } in
      let f : FirstDeed core w d.entry.call d (inner ++ ds) = first_deed core laws w d.entry.call d.entry.reply d (inner ++ ds) mine rest in (
        guard_so w d.entry.call f.named f.refused steady,
        steps_guarded (step w 0 d.entry.call).world inner ds quiet.1 f.rest
            (still_steady core laws w d.entry.call rest.sound f.fits steady (ap (λ r. begun_places d.entry.call r (step w 0 d.entry.call).bytes) (sym f.reply) ∙ quiet.0.0 (step w 0 d.entry.call).bytes)),
      )

  -- where the driver was asked, the call's entries begin with the ask
  asks_first : (c : CommandIn) (closed : Bool) (answer : Option ℕ) (own made : List OneEntry) → MakesAt 0 (Some c.place) closed (Commanding c) answer own made → is_begun made ≡ true
      → (reply : Reply) × (later : List OneEntry) × (made ≡ entry 0 (in_ask c) reply ∷ later)
  asks_first c true answer own made makes begun = absurd (true≢false (sym begun ∙ ap (λ (l : List OneEntry). is_begun l) makes.0))
  asks_first c false answer own made makes begun = by (is_driver_asked c.of_chip c.len (command_of c.cmd)) makes
    where
      by : (asks : Bool) → MakesCommand 0 asks answer c own made → (reply : Reply) × (later : List OneEntry) × (made ≡ entry 0 (in_ask c) reply ∷ later)
      by false m = absurd (true≢false (sym begun ∙ ap (λ (l : List OneEntry). is_begun l) m.0.1))
      by true m = (m.0, m.1, m.2)

  -- What it made of its own there are the steps of its calls, from the world behind the ask on, each let in or refused at its guard.
  pub inner_steps : (w : World) (call : DeviceCall) (closed : Bool) (answer : Option ℕ) (own : List OneEntry) (did ds : List OneDeed) (ask tell : OneDeed) (inner : List OneDeed) → Makes 0 closed call answer own (entries_in did) → AllQuiet core own → Rest core w (did ++ ds) → IsSteady core w
      → was_asked call (entries_in did) ≡ true → did ≡ ask ∷ (inner ++ tell ∷ []) → entries_in inner ≡ own
      → (map deed_of (steps_of (world_asked w call) (calls_in own)) ≡ inner) × Each IsLetInOrRefused (steps_of (world_asked w call) (calls_in own))
  inner_steps w (Once call) closed answer own did ds ask tell inner makes quiet rest steady asked is same = absurd (true≢false (sym asked))
  inner_steps w (Removing removal) closed answer own did ds ask tell inner makes quiet rest steady asked is same = absurd (true≢false (sym asked))
  inner_steps w (Commanding c) closed answer own did ds ask tell inner makes quiet rest steady asked is same =
      let a = asks_first c closed answer own (entries_in did) makes.1 asked in
      let first : ask.entry ≡ entry 0 (in_ask c) a.0 = ap (λ (l : List OneEntry). first_or ask.entry l) (sym (ap (λ (l : List OneDeed). entries_in l) is) ∙ a.2) in
      let whole : Rest core w (ask ∷ (inner ++ tell ∷ ds)) = subst (λ (l : List OneDeed). Rest core w (ask ∷ l)) (append_assoc inner (tell ∷ []) ds) (subst (λ (l : List OneDeed). Rest core w (l ++ ds)) is rest) in
      let f : FirstDeed core w (in_ask c) ask (inner ++ tell ∷ ds) = first_deed core laws w (in_ask c) a.0 ask (inner ++ tell ∷ ds) first whole in
      subst (λ (l : List OneEntry). (map deed_of (steps_of (step w 0 (in_ask c)).world (calls_in l)) ≡ inner) × Each IsLetInOrRefused (steps_of (step w 0 (in_ask c)).world (calls_in l))) same (
        steps_as (step w 0 (in_ask c)).world inner (tell ∷ ds) f.rest,
        steps_guarded (step w 0 (in_ask c)).world inner (tell ∷ ds) (subst (λ (l : List OneEntry). AllQuiet core l) (sym same) quiet) f.rest (still_steady core laws w (in_ask c) rest.sound f.fits steady refl),
      )

-- a driver's own calls tell as many answers as they end
one_ended : (call : Call) → is_last_removal call ≡ false → length (call_tells call) ≡ cond (ends call) 1 0
one_ended (Unplug place last) quiet = ap (λ (b : Bool). cond b 1 0) (sym quiet)
one_ended (Remove device last) quiet = ap (λ (b : Bool). cond b 1 0) (sym quiet)
one_ended (Ioctl place fd cmd len bytes part) quiet = by part
  where
    by : (part : Part) → length (part_tells part) ≡ cond (is_tell part) 1 0
    by Whole = refl
    by Ask = refl
    by (Tell answer) = refl
one_ended call quiet = refl

pub tells_ended : (own : List OneEntry) → AllQuiet core own → tells_among (calls_in own) ≡ ended_in core own
tells_ended [] quiet = refl
tells_ended (e ∷ own) quiet = λ i. one_ended e.call quiet.0.1 i + tells_ended own quiet.1 i
