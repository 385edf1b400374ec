-- What ports tell of a driver that may make calls of its own: the answer of each call of an actor that asks the driver, and none of those that stand
-- within another.
use Rattle.std.proofs.Common.{◌≡◌, ℕ, zero, suc, ◌+◌, ◌<◌, Bool, true, false, List, [], ◌∷◌, ◌++◌, drop, length, Option, None, Some, refl, sym, ◌∙◌, ap, subst, arith}
use Rattle.std.proofs.lemmas.List.{append_assoc}
use Rattle.gl_base.specs.Count.{counted_up}
use Rattle.gl_base.specs.Planned.{planned_call}
use Rattle.gl_base.specs.declared.op.Op.{Op}
use Rattle.gl_uapi.specs.Command.{command_of}
use Rattle.gl_world.specs.Deeds.{entries_in}
use Rattle.gl_world.specs.History.{ended_in, entry}
use Rattle.gl_client.specs.Program.{Program}
use Rattle.gl_driver.specs.Told.{Told, counted_on, counts_for, with_bits, with_call_counting, with_plan}
use Rattle.gl_driver.specs.declared.map.Map.{Map}
use Rattle.gl_model.specs.Entries.{begins, last_call}
use Rattle.gl_model.specs.Parts.{Makes, MakesAt, MakesCommand, MakesOne, MakesRest, MakesTwo, first_call, guard_of, in_ask, in_tell, in_whole, is_driver_asked, is_poll, is_single}
use Rattle.gl_model.specs.Step.{guard_reply}
use Rattle.gl_model.specs.declared.call.Call.{Call}
use Rattle.gl_model.specs.declared.call.Call.TheVariants.{Unplug, Remove, Refused as RefusedCall}
use Rattle.gl_model.specs.declared.device_call.CommandIn.{CommandIn}
use Rattle.gl_model.specs.declared.device_call.DeviceCall.{DeviceCall}
use Rattle.gl_model.specs.declared.device_call.DeviceCall.TheVariants.{Commanding, Once, Removing}
use Rattle.gl_model.specs.declared.device_call.RemovalOf.{RemovalOf}
use Rattle.gl_model.specs.declared.device_call.RemovalOf.TheVariants.{OfChip, OfDevice}
use Rattle.gl_script.specs.Section.{SaidSection}
use Rattle.gl_core.specs.Device.{OneEntry, call_tells, core, tells_in}
use Rattle.gl_asking.specs.declared.kinds.Asking.{Asking}
use Rattle.gl_asking.specs.declared.kinds.Asking.TheVariants.{Calls, Plans, Accepts, Refuses}
use Rattle.gl_asking.specs.Driving.{op_asked}
use Rattle.gl_check.specs.Drivers.{DriverKind, DriverOver}
use Rattle.gl_check.specs.Joining.{Maps, asking_with}
use Rattle.gl_check.specs.Many.{ActorsPlayed, AllPlayed, PortsTell, Texts, turns_among}
use Rattle.gl_check.specs.Tells.{TellsAfter, answered_last, calls_after, last_or, outer_tells, without_own}
use Rattle.gl_check.specs.Turns.{Carried, Did, Exchange, Follows, IsDone, PortBy, Said, Turn, is_begun, map_of, was_asked}
use Rattle.gl_check.proofs.Asked.{single_is}

-- what stands behind the driver's own entries
behind_own : (own rest : List OneEntry) → drop (length own) (own ++ rest) ≡ rest
behind_own [] rest = refl
behind_own (e ∷ own) rest = behind_own own rest

-- the answer of a call that asked the driver
abbrev told_if : Bool → Option ℕ → List (Option ℕ)
told_if true answer = answer ∷ []
told_if false answer = []

-- What an actor's call of the device tells, but for the entries that the driver makes of its own.
module _ (n : ℕ) (answer : Option ℕ) (own : List OneEntry) where
  abbrev Outer : Bool → List OneEntry → Type 0
  Outer asked made = tells_in (without_own own made) ≡ told_if asked answer

  -- where it made none, all entries of the call are the actor's
  all_outer : (asked : Bool) (made : List OneEntry) → own ≡ [] → tells_in (without_own [] made) ≡ told_if asked answer → Outer asked made
  all_outer asked made none = subst (λ (l : List OneEntry). tells_in (without_own l made) ≡ told_if asked answer) (sym none)

  one_outer : (call : Call) (made : List OneEntry) → call_tells call ≡ [] → own ≡ [] → MakesOne n call made → Outer false made
  one_outer call made silent none (reply, is) =
      all_outer false made none (ap (λ (es : List OneEntry). tells_in (without_own [] es)) is ∙ ap (λ (l : List (Option ℕ)). l ++ []) silent)

  closed_outer : (place : ℕ) (poll : Bool) (made : List OneEntry) → own ≡ [] → made ≡ entry n (RefusedCall place poll) (guard_reply poll) ∷ [] → Outer false made
  closed_outer place poll made none is = all_outer false made none (ap (λ (es : List OneEntry). tells_in (without_own [] es)) is)

  removal_outer : (removal : RemovalOf) (made : List OneEntry) → own ≡ [] → MakesTwo n (first_call removal) (last_call (first_call removal)) [] made → Outer false made
  removal_outer (OfChip place) made none (reply, later, is, makes) =
      all_outer false made none (ap (λ (es : List OneEntry). tells_in (without_own [] es)) is ∙ by (begins (Unplug place false) reply) makes)
    where
      by : (b : Bool) → MakesRest n b (Unplug place true) [] later → tells_in later ≡ []
      by false m = ap tells_in m.0
      by true m = ap tells_in m.1
  removal_outer (OfDevice device) made none (reply, later, is, makes) =
      all_outer false made none (ap (λ (es : List OneEntry). tells_in (without_own [] es)) is ∙ by (begins (Remove device false) reply) makes)
    where
      by : (b : Bool) → MakesRest n b (Remove device true) [] later → tells_in later ≡ []
      by false m = ap tells_in m.0
      by true m = ap tells_in m.1

  asking_outer : (c : CommandIn) (made : List OneEntry) → MakesTwo n (in_ask c) (in_tell answer c) own made → Outer (is_begun made) made
  asking_outer c made (reply, later, is, makes) = subst (λ (es : List OneEntry). Outer (is_begun es) es) (sym is) (by (begins (in_ask c) reply) makes)
    where
      by : (b : Bool) → MakesRest n b (in_tell answer c) own later → tells_in (drop (length own) later) ≡ told_if b answer
      by false m = (λ i. tells_in (drop (length (m.1 i)) (m.0 i)))
      by true m = ap (λ (es : List OneEntry). tells_in (drop (length own) es)) m.1 ∙ ap tells_in (behind_own own (entry n (in_tell answer c) m.0 ∷ []))

  inside_outer : (c : CommandIn) (asks : Bool) (made : List OneEntry) → MakesCommand n asks answer c own made → Outer (is_begun made) made
  inside_outer c true made makes = asking_outer c made makes
  inside_outer c false made ((reply, is), none) = subst (λ (es : List OneEntry). Outer (is_begun es) es) (sym is) (all_outer false (entry n (in_whole c) reply ∷ []) none refl)

  command_outer : (c : CommandIn) (closed : Bool) (made : List OneEntry) → MakesAt n (Some c.place) closed (Commanding c) answer own made → Outer (is_begun made) made
  command_outer c false made makes = inside_outer c (is_driver_asked c.of_chip c.len (command_of c.cmd)) made makes
  command_outer c true made makes =
      subst (λ (es : List OneEntry). Outer (is_begun es) es) (sym makes.0)
      (closed_outer c.place false (entry n (RefusedCall c.place false) (guard_reply false) ∷ []) makes.1 refl)

  once_outer : (call : Call) → is_single call ≡ true → (guard : Option ℕ) (closed : Bool) (made : List OneEntry) → MakesAt n guard closed (Once call) answer own made → Outer false made
  once_outer call single None closed made makes = one_outer call made (single_is call single).silent makes.1 makes.0
  once_outer call single (Some place) false made makes = one_outer call made (single_is call single).silent makes.1 makes.0
  once_outer call single (Some place) true made makes = closed_outer place (is_poll (Once call)) made makes.1 makes.0

  call_outer : (call : DeviceCall) (closed : Bool) (made : List OneEntry) → Makes n closed call answer own made → Outer (was_asked call made) made
  call_outer (Once call) closed made makes = once_outer call makes.0 (guard_of (Once call)) closed made makes.1
  call_outer (Removing removal) closed made makes = removal_outer removal made makes.1.1 makes.1.0
  call_outer (Commanding c) closed made makes = command_outer c closed made makes.1

-- what a port tells after answers, and after more of them
pub later_told : (xs ys : List (Option ℕ)) (t u : Told) (left : Option Told) → TellsAfter t xs (Some u) → TellsAfter u ys left → TellsAfter t (xs ++ ys) left
later_told xs ys t u left first on = record {
  told = on.told;
  left_is = on.left_is;
  calls = on.calls ∙ ap (λ c. calls_after c ys) (calls_of first.left_is first.calls) ∙ calls_on t.calls xs;
  last = on.last ∙ ap (λ k. last_or k ys) (last_of first.left_is first.last) ∙ last_on (answered_last t.last) xs;
}
  where
    told_or : Option Told → Told
    told_or None = u
    told_or (Some t) = t

    calls_of : Some u ≡ Some first.told → first.told.calls ≡ calls_after t.calls xs → u.calls ≡ calls_after t.calls xs
    calls_of is h = ap (λ o. (told_or o).calls) is ∙ h

    last_of : Some u ≡ Some first.told → answered_last first.told.last ≡ last_or (answered_last t.last) xs → answered_last u.last ≡ last_or (answered_last t.last) xs
    last_of is h = ap (λ o. answered_last (told_or o).last) is ∙ h

    calls_on : (c : ℕ) (zs : List (Option ℕ)) → calls_after (calls_after c zs) ys ≡ calls_after c (zs ++ ys)
    calls_on c [] = refl
    calls_on c (z ∷ zs) = calls_on (counted_up c) zs

    last_on : (k : Option (Option ℕ)) (zs : List (Option ℕ)) → last_or (last_or k zs) ys ≡ last_or k (zs ++ ys)
    last_on k [] = refl
    last_on k (z ∷ zs) = last_on (Some z) zs

-- what an exchange tells, but for the driver's own entries
abbrev told_in : Exchange → List (Option ℕ)
told_in e = tells_in (without_own e.own (entries_in e.did))

-- A port that told this tells something then, as after these answers.
abbrev TellsThen : Told → List (Option ℕ) → Option Told → Type 0
TellsThen t answers after = (u : Told) × (after ≡ Some u) × TellsAfter t answers after

module _ (driver : DriverKind) (n : ℕ) where
  -- what a port tells after one exchange
  port_tells : (asked : Bool) (map : Option Map) (op : Option Op) (e : Exchange) (t : Told) (before after : Option Told) → before ≡ Some t → PortBy driver n asked map op e before after
      → TellsThen t (told_if asked e.answer) after
  port_tells false map op e t before after is same = (t, same ∙ is, record { told = t; left_is = same ∙ is; calls = refl; last = refl })
  port_tells true map op e t before after is port =
      let u : Told = record {
        calls = counted_up t.calls;
        counted = counted_on (counts_for map (ended_in core e.own)) t.counted;
        plan = t.plan;
        bits = t.bits;
        last = Some (record { op = port.asked_for; answer = e.answer });
      } in
      let then_told : after ≡ Some u = port.told_then ∙ ap (λ (o : Option Told). with_call_counting (counts_for map (ended_in core e.own)) port.asked_for e.answer o) is in
      (u, then_told, record { told = u; left_is = then_told; calls = refl; last = refl })

  -- nothing was done, and the port tells no other call
  nothing_told : (t u : Told) (e : Exchange) (after : Option Told) → entries_in e.did ≡ [] → after ≡ Some u → u.calls ≡ t.calls → u.last ≡ t.last → TellsThen t (told_in e) after
  nothing_told t u e after none is calls last = (
    u,
    is,
    record {
      told = u;
      left_is = is;
      calls = calls ∙ ap (λ (es : List OneEntry). calls_after t.calls (tells_in (without_own e.own es))) (sym none);
      last = ap answered_last last ∙ ap (λ (es : List OneEntry). last_or (answered_last t.last) (tells_in (without_own e.own es))) (sym none);
    },
  )

  done_tells : (m : Maps) (a : Asking) (op : Option Op) (e : Exchange) (t : Told) (before after : Option Told) → before ≡ Some t → IsDone driver n m a op e before after
      → TellsThen t (told_in e) after
  done_tells m (Calls call) op e t before after is h =
      let p = port_tells (was_asked call (entries_in e.did)) (map_of driver m call) op e t before after is h.port in (
        p.0,
        p.1,
        subst (λ (l : List (Option ℕ)). TellsAfter t l after) (sym (call_outer n e.answer e.own call e.closed (entries_in e.did) h.makes)) p.2,
      )
  done_tells m (Plans nth) op e t before after is h =
      let u : Told = record { calls = t.calls; counted = t.counted; plan = planned_call t.counted nth; bits = t.bits; last = t.last } in
      nothing_told t u e after (ap entries_in h.0.did) (h.1 ∙ ap (with_plan nth) is) refl refl
  done_tells m (Accepts bits) op e t before after is h =
      let u : Told = record { calls = t.calls; counted = t.counted; plan = t.plan; bits = bits; last = t.last } in
      nothing_told t u e after (ap entries_in h.0.did) (h.1 ∙ ap (with_bits bits) is) refl refl
  done_tells m (Refuses errno) op e t before after is h = nothing_told t t e after (ap entries_in h.0.did) (h.1 ∙ is) refl refl

  module _ {A : Type 0} where
    pub turns_tell : (p : Program A) (s : Carried) (turns : List Turn) (q : Program A) (r : Carried) (t : Told) → s.told ≡ Some t → Follows driver n p s turns q r
        → TellsAfter t (outer_tells turns) r.told
    turns_tell p s [] q r t is h = record { told = t; left_is = ap (λ (c : Carried). c.told) (sym h.1) ∙ is; calls = refl; last = refl }
    turns_tell p s (Said text ∷ turns) q r t is h = turns_tell h.0 h.1 turns q r t (ap (λ (c : Carried). c.told) h.2.1 ∙ is) h.3
    turns_tell p s (Did e ∷ turns) q r t is h =
        let one = done_tells s.maps (asking_with s.maps s.files e.what) (op_asked s.files e.what) e t s.told h.1.told is h.2.3.is_done in
        later_told (told_in e) (outer_tells turns) t one.0 r.told (subst (λ (o : Option Told). TellsAfter t (told_in e) o) one.1 one.2)
        (turns_tell h.0 h.1 turns q r one.0 one.1 h.3)

-- what turns tell, and more of them
outer_append : (first later : List Turn) → outer_tells (first ++ later) ≡ outer_tells first ++ outer_tells later
outer_append [] later = refl
outer_append (Said text ∷ first) later = outer_append first later
outer_append (Did e ∷ first) later =
    ap (λ (l : List (Option ℕ)). told_in e ++ l) (outer_append first later) ∙ sym (append_assoc (told_in e) (outer_tells first) (outer_tells later))

-- of all actors
module _ (driver : DriverOver) (before left : ℕ → Option Told) (sections : List SaidSection) (history : List OneEntry) where
  actors_tell : (m : Maps) (k : ℕ) (texts : List (List ℕ)) (h : ActorsPlayed driver before left sections history m k texts) (at : ℕ) (t : Told) → at < length texts
      → before (k + at) ≡ Some t → TellsAfter t (outer_tells (turns_among driver before left sections history m k texts h at)) (left (k + at))
  actors_tell m k [] h at t low told = absurd (omega arith)
  actors_tell m k (text ∷ texts) h zero t low told =
      let here : k + 0 ≡ k = omega arith in let a = h.0 in
      subst (λ (j : ℕ). TellsAfter t (outer_tells a.played.turns) (left j)) (sym here)
      (subst (λ (o : Option Told). TellsAfter t (outer_tells a.played.turns) o) a.left_is
      (turns_tell driver.kind k _ _ a.played.turns _ a.behind t (subst (λ (j : ℕ). before j ≡ Some t) here told) a.played.follows))
  actors_tell m k (text ∷ texts) h (suc at) t low told =
      let next : k + suc at ≡ (k + 1) + at = omega arith in
      subst (λ (j : ℕ). TellsAfter t (outer_tells (turns_among driver before left sections history m (k + 1) texts h.1 at)) (left j)) (sym next)
      (actors_tell m (k + 1) texts h.1 at t (omega arith) (subst (λ (j : ℕ). before j ≡ Some t) next told))

  -- Each port that told tells in the end as many calls more as its actor made, and the answer of the last of them.
  pub ports_tell : (texts : Texts) (played : AllPlayed driver before left sections history texts) → PortsTell driver before left sections history texts played
  ports_tell texts h zero t low told =
      let first = turns_tell driver.kind 0 _ _ h.setup.turns _ h.waiting t told h.setup.follows in
      let last = turns_tell driver.kind 0 _ _ h.after.turns _ h.behind first.told first.left_is h.after.follows in
      subst (λ (l : List (Option ℕ)). TellsAfter t l (left 0)) (sym (outer_append h.setup.turns h.after.turns))
      (later_told (outer_tells h.setup.turns) (outer_tells h.after.turns) t first.told (left 0)
      (subst (λ (o : Option Told). TellsAfter t (outer_tells h.setup.turns) o) first.left_is first)
      (subst (λ (o : Option Told). TellsAfter first.told (outer_tells h.after.turns) o) h.left_is last))
  ports_tell texts h (suc at) t low told =
      let many = h.as_many in
      let next : 1 + at ≡ suc at = omega arith in
      subst (λ (j : ℕ). TellsAfter t (outer_tells (turns_among driver before left sections history h.waiting.maps 1 texts.actors h.actors at)) (left j)) next
      (actors_tell h.waiting.maps 1 texts.actors h.actors at t (omega arith) (subst (λ (j : ℕ). before j ≡ Some t) (sym next) told))
