-- The ring of a request over a whole history.
use Rattle.std.proofs.Common.{◌≡◌, ◌+◌, ◌-◌, ◌<◌, ◌≤◌, ℕ, Bool, true, false, cond, List, [], ◌∷◌, ◌++◌, length, map, drop, take, max, min, Option, Some, None, refl, sym, ap, ◌∙◌, subst, arith, append_assoc, inl, inr}
use Rattle.std.specs.Prelude.{◌==◌, ◌/◌, nat_eq, ◌||◌, flat_map}
use Rattle.std.proofs.lemmas.Bool.Decides.{nat_tests}
use Rattle.std.proofs.lemmas.List.{append-nil, length_push}
use Rattle.circular_buffer.specs.Buffer.{Buffer, buffer}
use Rattle.gl_base.specs.Rows.{Each, change_first, without_first}
use Rattle.gl_base.specs.declared.settings.Resolved.{Resolved}
use Rattle.gl_ring.specs.Edges.{Edge, event_behind, events_behind, events_of}
use Rattle.gl_ring.specs.Run.{Came, Read, Turn, after, came, given, IsSubsequence}
use Rattle.gl_ring.specs.Waiting.{Past, left, pushed, read_by, waiting, with_item}
use Rattle.gl_ring.proofs.Edges.{events_of-more, length-events_behind}
use Rattle.gl_ring.proofs.Gaps.{after_append, gaps, given_append}
use Rattle.gl_ring.proofs.Lasting.{left-waiting, pushed-waiting}
use Rattle.gl_uapi.specs.declared.line_events.Event.{Event}
use Rattle.gl_model.specs.declared.call.Call.{Call}
use Rattle.gl_model.specs.AskedLines.{asked_in}
use Rattle.gl_model.specs.Claiming.{held, new_claim}
use Rattle.gl_model.specs.Edges.{is_monitored, with_edge}
use Rattle.gl_model.specs.Reading.{events_waiting, read_from, events_for, read_refusal, take_events}
use Rattle.gl_model.specs.SoundRequests.{IsSoundRequest, HasSoundRequests}
use Rattle.gl_model.specs.Step.{step}
use Rattle.gl_model.specs.World.{World, Request, has_number, request_at, opening}
use Rattle.gl_model.proofs.Finishing.{Differ, requests_differ}
use Rattle.gl_model.proofs.Ledger.{none_some, some_is}
use Rattle.gl_model.proofs.Requests.{is_read_call, others_keep}
use Rattle.std.specs.Option.{option_map, option_map_or}
use Rattle.std.proofs.lemmas.Bool.{cases_lt, true≢false}
use Rattle.gl_base.specs.Refusals.{first_of}
use Rattle.gl_base.specs.declared.errno.Errno.{Errno}
use Rattle.gl_uapi.specs.declared.layout.TheConstants.{LINE_EVENT_SIZE}
use Rattle.gl_watch.specs.declared.file.ChipFile.{ChipFile}
use Rattle.gl_world.specs.declared.history.Entry.{Entry}
use Rattle.gl_model.specs.declared.call.Call.TheVariants.{ReadEdges}
use Rattle.gl_model.specs.declared.gift.Gift.{Gift}
use Rattle.gl_model.specs.declared.reply.Reply.{Reply}
use Rattle.gl_model.specs.Holders.{HoldersAgree}
use Rattle.gl_model.specs.OpenFiles.{is_chip_file, is_request_file, request_file_refusal}
use Rattle.gl_model.specs.Outcome.{Outcome, refused, refused_or}
use Rattle.gl_model.specs.Rings.{edges_at, events_between, events_read, given_in, reads_in, turns_from, turns_in, GapsAreOldest, IsRingOf, ReadsInOrder, ReadsSpellEvents}
use Rattle.gl_model.proofs.Bounds.{next_rises}
use Rattle.gl_model.proofs.HoldersLaw.{holders_stay_agreed, opens}
use Rattle.gl_model.proofs.Phases.{nothing_first, same_number}
use Rattle.gl_model.proofs.SoundRequests.{requests_stay_sound}
use Rattle.gl_model.proofs.Taking.{find-change_first, find-other, held_there, its_kind, length-events_waiting, none_dropped}
use Rattle.gl_ring.proofs.Order.{in_order}
use Rattle.gl_uapi.specs.LineEvent.{event_bytes}
use Rattle.gl_world.specs.History.{fold_from}
use Rattle.gl_model.specs.Machine.{machine, world_of}
use Rattle.gl_model.proofs.MachineLaws.{always}

-- turns of which none is a read

came_ups : {X : Type 0} (xs : List X) → came (map (λ x. Came x) xs) ≡ xs
came_ups [] = refl
came_ups (x ∷ xs) = ap (λ l. x ∷ l) (came_ups xs)

given_ups : {X : Type 0} (ring : Buffer X) (xs : List X) → given ring (map (λ x. Came x) xs) ≡ []
given_ups ring [] = refl
given_ups ring (x ∷ xs) = given_ups (pushed x ring) xs

came_append : {X : Type 0} (xs ys : List (Turn X)) → came (xs ++ ys) ≡ came xs ++ came ys
came_append [] ys = refl
came_append (Came x ∷ xs) ys = ap (λ l. x ∷ l) (came_append xs ys)
came_append (Read max ∷ xs) ys = came_append xs ys

-- edges and their events

events_split : (before xs ys : List Edge) → events_behind before (xs ++ ys) ≡ events_behind before xs ++ events_behind (before ++ xs) ys
events_split before [] ys = ap (λ b. events_behind b ys) (sym (append-nil before))
events_split before (x ∷ xs) ys =
    ap (λ (l : List Event). event_behind before x ∷ l)
    (events_split (before ++ x ∷ []) xs ys ∙ ap (λ b. events_behind (before ++ x ∷ []) xs ++ events_behind b ys) (append_assoc before (x ∷ []) xs))

-- the past with some edges more
abbrev with_edges : ℕ → List Edge → Past Edge → Past Edge
with_edges capacity [] past = past
with_edges capacity (e ∷ es) past = with_edges capacity es (with_item capacity e past)

with_edges_more : (capacity : ℕ) (es : List Edge) (e : Edge) (past : Past Edge) → with_edges capacity (es ++ e ∷ []) past ≡ with_item capacity e (with_edges capacity es past)
with_edges_more capacity [] e past = refl
with_edges_more capacity (x ∷ es) e past = with_edges_more capacity es e (with_item capacity x past)

all_with_edges : (capacity : ℕ) (es : List Edge) (past : Past Edge) → (with_edges capacity es past).all ≡ past.all ++ es
all_with_edges capacity [] past = sym (append-nil past.all)
all_with_edges capacity (e ∷ es) past = all_with_edges capacity es (with_item capacity e past) ∙ append_assoc past.all (e ∷ []) es

-- the events of a past, and how many of the first no longer wait
abbrev as_events : Past Edge → Past Event
as_events past = record { all = events_of past.all; next = past.next }

item_as_event : (capacity : ℕ) (e : Edge) (past : Past Edge) → with_item capacity (event_behind past.all e) (as_events past) ≡ as_events (with_item capacity e past)
item_as_event capacity e past =
    ap (λ (n : ℕ). with_next (events_of past.all ++ event_behind past.all e ∷ []) (max past.next (n + 1 - capacity))) (length-events_behind [] past.all)
    ∙ ap (λ (l : List Event). with_next l (max past.next (length past.all + 1 - capacity))) (sym (events_of-more past.all e))
  where
    with_next : List Event → ℕ → Past Event
    with_next l n = record { all = l; next = n }

ring_ups : (capacity : ℕ) (es : List Edge) (past : Past Edge) → past.next ≤ length past.all
    → after (buffer (waiting (as_events past)) capacity) (map (λ event. Came event) (events_behind past.all es)) ≡ buffer (waiting (as_events (with_edges capacity es past))) capacity
ring_ups capacity [] past within = refl
ring_ups capacity (e ∷ es) past within =
    let event : Event = event_behind past.all e in
    let long : length (events_of past.all) ≡ length past.all = length-events_behind [] past.all in
    let more : length (past.all ++ e ∷ []) ≡ length past.all + 1 = length_push past.all e in
    let first : pushed event (buffer (waiting (as_events past)) capacity) ≡ buffer (waiting (as_events (with_item capacity e past))) capacity =
    pushed-waiting capacity event (as_events past) (omega arith) ∙ ap (λ (p : Past Event). buffer (waiting p) capacity) (item_as_event capacity e past) in
    ap (λ (ring : Buffer Event). after ring (map (λ event. Came event) (events_behind (past.all ++ e ∷ []) es))) first
    ∙ ring_ups capacity es (with_item capacity e past) (omega arith)

new_events : (capacity : ℕ) (es : List Edge) (past : Past Edge) → drop (length past.all) (events_of (with_edges capacity es past).all) ≡ events_behind past.all es
new_events capacity es past =
    ap (λ l. drop (length past.all) (events_of l)) (all_with_edges capacity es past)
    ∙ ap (λ l. drop (length past.all) l) (events_split [] past.all es)
    ∙ ap (λ n. drop n (events_of past.all ++ events_behind past.all es)) (sym (length-events_behind [] past.all))
    ∙ drop_front (events_of past.all) (events_behind past.all es)
  where
    drop_front : (xs ys : List Event) → drop (length xs) (xs ++ ys) ≡ ys
    drop_front [] ys = refl
    drop_front (x ∷ xs) ys = drop_front xs ys

nothing_new : (es : List Edge) → drop (length es) (events_of es) ≡ []
nothing_new es = ap (λ n. drop n (events_of es)) (sym (length-events_behind [] es)) ∙ drop_all (events_of es)
  where
    drop_all : (xs : List Event) → drop (length xs) xs ≡ []
    drop_all [] = refl
    drop_all (x ∷ xs) = drop_all xs

-- what is found of a number

module _ (fd : ℕ) where
  module _ (Q : Request → Type 0) where
    -- it holds of the request of the number, where there is one
    abbrev IfFound : Option Request → Type 0
    IfFound None = Unit {0}
    IfFound (Some x) = Q x

    changed_found : (n : ℕ) (f : Request → Request) → ((x : Request) → (f x).fd ≡ x.fd) → ((x : Request) → Q x → Q (f x)) → (rows : List Request)
        → IfFound (request_at rows fd) → IfFound (request_at (change_first (has_number n) f rows) fd)
    changed_found n f same h [] found = tt
    changed_found n f same h (x ∷ rows) found = elim (x.fd == n) as (λ b. IfFound (request_at (cond b (f x ∷ rows) (x ∷ change_first (has_number n) f rows)) fd)) [
      | true ↦ changed_here x rows found
      | false ↦ (elim (x.fd == fd) as (λ b. IfFound (cond b (Some x) (request_at rows fd)) → IfFound (cond b (Some x) (request_at (change_first (has_number n) f rows) fd))) [
        | true ↦ (λ q. q)
        | false ↦ (λ q. changed_found n f same h rows q)
      ] found)
    ]
      where
        changed_here : (x : Request) (rows : List Request) → IfFound (request_at (x ∷ rows) fd) → IfFound (request_at (f x ∷ rows) fd)
        changed_here x rows found = subst (λ k. IfFound (cond (k == fd) (Some (f x)) (request_at rows fd))) (sym (same x))
            (elim (x.fd == fd) as (λ b. IfFound (cond b (Some x) (request_at rows fd)) → IfFound (cond b (Some (f x)) (request_at rows fd))) [ true ↦ h x | false ↦ (λ q. q) ] found)

    pushed_found : (rows : List Request) (x : Request) → ((x.fd == fd) ≡ true → Q x) → IfFound (request_at rows fd) → IfFound (request_at (rows ++ x ∷ []) fd)
    pushed_found [] x h found = elim (x.fd == fd) as (λ b. (x.fd == fd) ≡ b → IfFound (cond b (Some x) None)) [ true ↦ h | false ↦ (λ _. tt) ] refl
    pushed_found (y ∷ rows) x h found = elim (y.fd == fd) as (λ b. IfFound (cond b (Some y) (request_at rows fd)) → IfFound (cond b (Some y) (request_at (rows ++ x ∷ []) fd))) [
      | true ↦ (λ q. q)
      | false ↦ (λ q. pushed_found rows x h q)
    ] found

    none_there : (n : ℕ) (rows : List Request) → (n == fd) ≡ true → Each (λ (y : Request). nat_eq n y.fd ≡ false) rows → IfFound (request_at rows fd)
    none_there n [] is others = tt
    none_there n (x ∷ rows) is others =
        let other : nat_eq n x.fd ≡ false = others.0 in
        let foreign : (x.fd == fd) ≡ false = grind (arith, nat_tests) in
        subst (λ b. IfFound (cond b (Some x) (request_at rows fd))) (sym foreign) (none_there n rows is others.1)

    dropped_found : (n : ℕ) (rows : List Request) → Differ rows → IfFound (request_at rows fd) → IfFound (request_at (without_first (has_number n) rows) fd)
    dropped_found n [] differ found = tt
    dropped_found n (x ∷ rows) differ found = elim (x.fd == n) as (λ b. (x.fd == n) ≡ b → IfFound (request_at (cond b rows (x ∷ without_first (has_number n) rows)) fd)) [
      | true ↦ (λ _. elim (x.fd == fd) as (λ b. (x.fd == fd) ≡ b → IfFound (cond b (Some x) (request_at rows fd)) → IfFound (request_at rows fd)) [
        | true ↦ (λ t _. none_there x.fd rows t differ.0)
        | false ↦ (λ _ q. q)
      ] refl found)
      | false ↦ (λ _. elim (x.fd == fd) as (λ b. IfFound (cond b (Some x) (request_at rows fd)) → IfFound (cond b (Some x) (request_at (without_first (has_number n) rows) fd))) [
        | true ↦ (λ q. q)
        | false ↦ (λ q. dropped_found n rows differ.1 q)
      ] found)
    ] refl

    -- what is known of the world in which a call is made
    abbrev Knows : World → Type 0
    Knows w = Differ w.requests × ((place actor : ℕ) (bytes : List ℕ) → (w.next == fd) ≡ true → Q (new_claim w.next place actor (asked_in bytes)))

    module _
        (edge : (offset : ℕ) (rising : Bool) (timestamp : ℕ) (x : Request) → Q x → Q (with_edge offset rising timestamp x))
        (settings : (set : Resolved → Resolved) (x : Request) → Q x → Q (record x { settings = set x.settings }))
        (finish : (x : Request) → Q x → Q (held x))
      where
        edge_number : (offset : ℕ) (rising : Bool) (timestamp : ℕ) (x : Request) → (with_edge offset rising timestamp x).fd ≡ x.fd
        edge_number offset rising timestamp x = elim (is_monitored offset rising x) as (λ b. (cond b (record x { past = with_item x.capacity (record { timestamp = timestamp; rising = rising; offset = offset }) x.past }) x).fd ≡ x.fd) [ true ↦ refl | false ↦ refl ]

        goes_on : (w : World) (actor : ℕ) (call : Call) → is_read_call call ≡ false → Knows w → IfFound (request_at w.requests fd) → IfFound (request_at (step w actor call).world.requests fd)
        goes_on w actor call other knows = others_keep (λ rows. IfFound (request_at rows fd)) Knows (λ actor. Unit {0})
            (λ n offset rising timestamp rows. changed_found n (with_edge offset rising timestamp) (edge_number offset rising timestamp) (edge offset rising timestamp) rows)
            (λ n set rows. changed_found n (λ request. record request { settings = set request.settings }) (λ x. refl) (settings set) rows)
            (λ v actor request before may by. changed_found request.fd held (λ x. refl) finish v.requests)
            (λ v actor request before may by. dropped_found request.fd v.requests before.0)
            (λ v n request before is by. dropped_found request.fd v.requests before.0)
            (λ place actor bytes v before may f e. pushed_found v.requests (new_claim v.next place actor (asked_in bytes)) (before.1 place actor bytes))
            w actor call other knows (λ _. tt)

  -- the past of a request of this capacity is this one with some edges more
  abbrev GoesOnFrom : ℕ → Past Edge → Request → Type 0
  GoesOnFrom capacity start y = (y.capacity ≡ capacity) × (es : List Edge) × (y.past ≡ with_edges capacity es start)

  edge_on : (capacity : ℕ) (start : Past Edge) (offset : ℕ) (rising : Bool) (timestamp : ℕ) (x : Request) → GoesOnFrom capacity start x → GoesOnFrom capacity start (with_edge offset rising timestamp x)
  edge_on capacity start offset rising timestamp x on =
      let e : Edge = record { timestamp = timestamp; rising = rising; offset = offset } in
      elim (is_monitored offset rising x) as (λ b. GoesOnFrom capacity start (cond b (record x { past = with_item x.capacity e x.past }) x)) [
        | true ↦ (
          on.0,
          on.1 ++ e ∷ [],
          ap (λ c. with_item c e x.past) on.0 ∙ ap (λ (p : Past Edge). with_item capacity e p) on.2 ∙ sym (with_edges_more capacity on.1 e start),
        )
        | false ↦ on
      ]

  -- the past of a request that was claimed just now
  abbrev no_past : Past Edge
  no_past = record { all = []; next = 0 }

  abbrev IsFresh : Request → Type 0
  IsFresh y = GoesOnFrom y.capacity no_past y

  fresh_edge : (offset : ℕ) (rising : Bool) (timestamp : ℕ) (x : Request) → IsFresh x → IsFresh (with_edge offset rising timestamp x)
  fresh_edge offset rising timestamp x fresh = let on = edge_on x.capacity no_past offset rising timestamp x fresh in
      subst (λ c. GoesOnFrom c no_past (with_edge offset rising timestamp x)) (sym on.0) on

-- where a request of the number is there, the number is below the next one
found_below : (fd next : ℕ) (rows : List Request) (ys : List ℕ) (x : Request) → Each (λ n. n < next) (map (λ (request : Request). request.fd) rows ++ ys) → request_at rows fd ≡ Some x → fd < next
found_below fd next [] ys x low is = absurd (none_some x is)
found_below fd next (y ∷ rows) ys x low is = elim (y.fd == fd) as (λ b. (y.fd == fd) ≡ b → cond b (Some y) (request_at rows fd) ≡ Some x → fd < next) [
  | true ↦ (λ t _. let lt : y.fd < next = low.0 in grind (arith, nat_tests))
  | false ↦ (λ _ later. found_below fd next rows ys x low.1 later)
] refl is

found_sound : (fd : ℕ) (rows : List Request) (x : Request) → Each IsSoundRequest rows → request_at rows fd ≡ Some x → IsSoundRequest x
found_sound fd [] x sound is = absurd (none_some x is)
found_sound fd (y ∷ rows) x sound is = elim (y.fd == fd) as (λ b. cond b (Some y) (request_at rows fd) ≡ Some x → IsSoundRequest x) [
  | true ↦ (λ same. subst IsSoundRequest (some_is y x same) sound.0)
  | false ↦ (λ later. found_sound fd rows x sound.1 later)
] is

-- what holds of the turns and of what was read so far

abbrev Holds : ℕ → World → Option Request → List (Turn Event) → List Event → Type 0
Holds fd w (Some r) turns read = (came turns ≡ events_of r.past.all) × (after (buffer [] r.capacity) turns ≡ buffer (events_waiting r) r.capacity) × (given (buffer [] r.capacity) turns ≡ read)
Holds fd w None turns read = ((capacity : ℕ) × (given (buffer [] capacity) turns ≡ read)) × (w.next ≤ fd → turns ≡ [])

-- edges that came, and no read
module _ (turns : List (Turn Event)) (read : List Event) where
  abbrev ups : List Event → List (Turn Event)
  ups events = map (λ event. Came event) events

  ups_hold : (fd : ℕ) (v : World) (r y : Request) (es : List Edge) → r.past.next ≤ length r.past.all → y.capacity ≡ r.capacity → y.past ≡ with_edges r.capacity es r.past
      → Holds fd v (Some r) turns read → Holds fd v (Some y) (turns ++ ups (events_behind r.past.all es)) (read ++ [])
  ups_hold fd v r y es within capacity past h =
      let events : List Event = events_behind r.past.all es in
      let c : ℕ = r.capacity in
      let all : y.past.all ≡ r.past.all ++ es = ap (λ (p : Past Edge). p.all) past ∙ all_with_edges c es r.past in
      let waits : after (buffer [] c) (turns ++ ups events) ≡ buffer (events_waiting y) c =
      after_append (buffer [] c) turns (ups events) ∙ ap (λ (ring : Buffer Event). after ring (ups events)) h.1 ∙ ring_ups c es r.past within
      ∙ ap (λ (p : Past Edge). buffer (waiting (as_events p)) c) (sym past) in
      let gives : given (buffer [] c) (turns ++ ups events) ≡ read ++ [] =
      given_append (buffer [] c) turns (ups events) ∙ ap (λ l. l ++ given (after (buffer [] c) turns) (ups events)) h.2 ∙ ap (λ l. read ++ l) (given_ups (after (buffer [] c) turns) events) in (
        came_append turns (ups events) ∙ ap (λ l. l ++ came (ups events)) h.0 ∙ ap (λ l. events_of r.past.all ++ l) (came_ups events)
            ∙ sym (events_split [] r.past.all es) ∙ ap events_of (sym all),
        subst (λ k. after (buffer [] k) (turns ++ ups events) ≡ buffer (events_waiting y) k) (sym capacity) waits,
        subst (λ k. given (buffer [] k) (turns ++ ups events) ≡ read ++ []) (sym capacity) gives,
      )

-- a read of the request
read_holds : (fd : ℕ) (v : World) (r : Request) (room : ℕ) (turns : List (Turn Event)) (read : List Event) → Holds fd v (Some r) turns read
    → Holds fd v (Some (read_from room r)) (turns ++ Read room ∷ []) (read ++ take (min room (length (events_waiting r))) (events_waiting r))
read_holds fd v r room turns read h =
    let c : ℕ = r.capacity in
    let one : List (Turn Event) = Read room ∷ [] in
    let rest : buffer (waiting (read_by room (as_events r.past))) c ≡ buffer (events_waiting (read_from room r)) c =
    ap (λ n. buffer (drop (r.past.next + min room n) (events_of r.past.all)) c) (length-events_waiting r) in (
      came_append turns one ∙ append-nil (came turns) ∙ h.0,
      after_append (buffer [] c) turns one ∙ ap (λ (ring : Buffer Event). left room ring) h.1 ∙ left-waiting c room (as_events r.past) ∙ rest,
      given_append (buffer [] c) turns one ∙ ap (λ (ring : Buffer Event). given (buffer [] c) turns ++ given ring one) h.1
          ∙ ap (λ l. given (buffer [] c) turns ++ l) (append-nil (take (min room (length (events_waiting r))) (events_waiting r)))
          ∙ ap (λ l. l ++ take (min room (length (events_waiting r))) (events_waiting r)) h.2,
    )

-- nothing more
same_holds : (fd : ℕ) (v : World) (o : Option Request) (turns : List (Turn Event)) (read : List Event) → Holds fd v o turns read → Holds fd v o (turns ++ []) (read ++ [])
same_holds fd v o turns read h =
    subst (λ l. Holds fd v o (turns ++ []) l) (sym (append-nil read)) (subst (λ l. Holds fd v o l read) (sym (append-nil turns)) h)

-- what a call is to the ring, by what is found before and after it
abbrev turns_by : ℕ → Call → Reply → Option Request → Option Request → List (Turn Event)
turns_by fd call reply o p = reads_in fd call reply ++ map (λ event. Came event) (drop (length (option_map_or (λ (x : Request). x.past.all) o [])) (events_of (option_map_or (λ (x : Request). x.past.all) p [])))

no_reads : (fd : ℕ) (call : Call) (reply : Reply) → is_read_call call ≡ false → reads_in fd call reply ≡ []
no_reads fd (ReadEdges place number len) reply e = absurd (true≢false e)
no_reads fd _ reply e = refl

none_given : (fd : ℕ) (w : World) (call : Call) (reply : Reply) → is_read_call call ≡ false → given_in fd w call reply ≡ []
none_given fd w (ReadEdges place number len) reply e = absurd (true≢false e)
none_given fd w _ reply e = refl

module _ (fd : ℕ) (w : World) (actor : ℕ) (call : Call) (other : is_read_call call ≡ false) (agree : HoldersAgree w) (sound : HasSoundRequests w) where
  abbrev out : Outcome
  out = step w actor call

  differ : Differ w.requests
  differ = requests_differ w.requests (map (λ (file : ChipFile). file.fd) w.files) agree.numbers_differ

  -- what holds of the request of the number after the call, where it holds before it
  stays : (Q : Request → Type 0)
      → ((offset : ℕ) (rising : Bool) (timestamp : ℕ) (x : Request) → Q x → Q (with_edge offset rising timestamp x))
      → ((set : Resolved → Resolved) (x : Request) → Q x → Q (record x { settings = set x.settings }))
      → ((x : Request) → Q x → Q (held x))
      → ((place actor : ℕ) (bytes : List ℕ) → (w.next == fd) ≡ true → Q (new_claim w.next place actor (asked_in bytes)))
      → (o p : Option Request) → request_at w.requests fd ≡ o → request_at out.world.requests fd ≡ p → IfFound fd Q o → IfFound fd Q p
  stays Q edge settings finish new o p before behind q =
      subst (IfFound fd Q) behind (goes_on fd Q edge settings finish w actor call other (differ, new) (subst (IfFound fd Q) (sym before) q))

  not_next : {A : Type 0} → fd < w.next → (w.next == fd) ≡ true → A
  not_next lt is = absurd (let same : w.next ≡ fd = same_number w.next fd is in omega arith)

  abbrev Next : Option Request → List (Turn Event) → List Event → Option Request → Type 0
  Next o turns read p = Holds fd out.world p (turns ++ map (λ event. Came event) (drop (length (option_map_or (λ (x : Request). x.past.all) o [])) (events_of (option_map_or (λ (x : Request). x.past.all) p [])))) (read ++ [])

  by_found : (o p : Option Request) (turns : List (Turn Event)) (read : List Event) → request_at w.requests fd ≡ o → request_at out.world.requests fd ≡ p → Holds fd w o turns read → Next o turns read p
  by_found (Some r) (Some y) turns read before behind h =
      let lt : fd < w.next = found_below fd w.next w.requests (map (λ (file : ChipFile). file.fd) w.files) r agree.numbers_below before in
      let s : IsSoundRequest r = found_sound fd w.requests r sound before in
      let on : GoesOnFrom fd r.capacity r.past y = stays (GoesOnFrom fd r.capacity r.past) (edge_on fd r.capacity r.past) (λ set x q. q) (λ x q. q) (λ place actor bytes is. not_next lt is) (Some r) (Some y) before behind (refl, [], refl) in
      let new : drop (length r.past.all) (events_of y.past.all) ≡ events_behind r.past.all on.1 =
      ap (λ (p : Past Edge). drop (length r.past.all) (events_of p.all)) on.2 ∙ new_events r.capacity on.1 r.past in
      subst (λ l. Holds fd out.world (Some y) (turns ++ map (λ event. Came event) l) (read ++ [])) (sym new) (ups_hold turns read fd out.world r y on.1 s.in_order on.0 on.2 h)
  by_found (Some r) None turns read before behind h =
      let lt : fd < w.next = found_below fd w.next w.requests (map (λ (file : ChipFile). file.fd) w.files) r agree.numbers_below before in
      let rises : w.next ≤ out.world.next = next_rises w actor call in
      subst (λ l. Holds fd out.world None (turns ++ map (λ event. Came event) l) (read ++ [])) (none_dropped (length r.past.all))
      (same_holds fd out.world None turns read ((r.capacity, h.2), λ le. absurd (omega arith)))
  by_found None None turns read before behind h =
      let rises : w.next ≤ out.world.next = next_rises w actor call in
      same_holds fd out.world None turns read (h.0, λ le. h.1 (omega arith))
  by_found None (Some y) turns read before behind h = elim (cases_lt fd w.next) as (λ _. Next None turns read (Some y)) [
    | inl lt ↦
        absurd (stays (λ x. ⊥) (λ offset rising timestamp x q. q) (λ set x q. q) (λ x q. q) (λ place actor bytes is. not_next lt is) None (Some y) before behind tt)
    | inr past ↦
        (let empty : turns ≡ [] = h.1 past in
        let on : IsFresh fd y = stays (IsFresh fd) (fresh_edge fd) (λ set x q. q) (λ x q. q) (λ place actor bytes is. (refl, [], refl)) None (Some y) before behind tt in
        let start : Request = record y { past = no_past fd } in
        let unread : given (buffer [] h.0.0) [] ≡ read = subst (λ l. given (buffer [] h.0.0) l ≡ read) empty h.0.1 in
        let new : events_of y.past.all ≡ events_behind [] on.1 = ap (λ (p : Past Edge). events_of p.all) on.2 ∙ new_events y.capacity on.1 (no_past fd) in
        subst (λ l. Holds fd out.world (Some y) (l ++ map (λ event. Came event) (events_of y.past.all)) (read ++ [])) (sym empty)
        (subst (λ l. Holds fd out.world (Some y) ([] ++ map (λ event. Came event) l) (read ++ [])) (sym new)
        (ups_hold [] read fd out.world start y on.1 (omega arith) refl on.2 (refl, refl, unread))))
  ]

  other_holds : (turns : List (Turn Event)) (read : List Event) → Holds fd w (request_at w.requests fd) turns read
      → Holds fd out.world (request_at out.world.requests fd) (turns ++ turns_in fd w actor call) (read ++ given_in fd w call out.reply)
  other_holds turns read h =
      subst (λ l. Holds fd out.world (request_at out.world.requests fd) (turns ++ turns_in fd w actor call) (read ++ l)) (sym (none_given fd w call out.reply other))
      (subst (λ l. Holds fd out.world (request_at out.world.requests fd) (turns ++ (l ++ map (λ event. Came event) (events_between fd w out.world))) (read ++ [])) (sym (no_reads fd call out.reply other))
      (by_found (request_at w.requests fd) (request_at out.world.requests fd) turns read refl refl h))

-- a read

abbrev ReadHolds : ℕ → World → ℕ → ℕ → ℕ → List (Turn Event) → List Event → Outcome → Type 0
ReadHolds fd w place number len turns read out = Holds fd out.world (request_at out.world.requests fd)
    (turns ++ (reads_in fd (ReadEdges place number len) out.reply ++ map (λ event. Came event) (events_between fd w out.world))) (read ++ given_in fd w (ReadEdges place number len) out.reply)

-- for how many events a buffer has room, and the world after a read into it
abbrev room_in : ℕ → ℕ
room_in len = len / LINE_EVENT_SIZE

abbrev after_read : ℕ → ℕ → World → World
after_read number len w = (take_events number len w).world

reading : (fd : ℕ) (w : World) (place number len : ℕ) (turns : List (Turn Event)) (read : List Event) → is_request_file place number w ≡ true
    → Holds fd w (request_at w.requests fd) turns read → ReadHolds fd w place number len turns read (take_events number len w)
reading fd w place number len turns read there h = elim (number == fd) as (λ b. (number == fd) ≡ b → Holds fd (after_read number len w) (request_at (after_read number len w).requests fd)
    (turns ++ (cond b (Read (room_in len) ∷ []) [] ++ map (λ event. Came event) (events_between fd w (after_read number len w)))) (read ++ cond b (take (min (room_in len) (length (events_for fd w))) (events_for fd w)) [])) [
      | true ↦ (λ t. let is : number ≡ fd = same_number number fd t in
          let found = held_there place (request_at w.requests number) there in
          let here : request_at w.requests fd ≡ Some found.0 = subst (λ n. request_at w.requests n ≡ Some found.0) is found.1 in
          let behind : request_at (after_read number len w).requests fd ≡ Some (read_from (room_in len) found.0) =
          subst (λ n. request_at (change_first (has_number n) (read_from (room_in len)) w.requests) fd ≡ option_map (read_from (room_in len)) (request_at w.requests fd)) (sym is) (find-change_first (has_number fd) (read_from (room_in len)) (λ x. refl) w.requests)
          ∙ ap (option_map (read_from (room_in len))) here in
          let held_before : Holds fd w (Some found.0) turns read = subst (λ o. Holds fd w o turns read) here h in
          let new : events_between fd w (after_read number len w) ≡ [] =
          ap (λ o. drop (length (option_map_or (λ (x : Request). x.past.all) o [])) (events_of (edges_at fd (after_read number len w)))) here
          ∙ ap (λ o. drop (length found.0.past.all) (events_of (option_map_or (λ (x : Request). x.past.all) o []))) behind ∙ nothing_new found.0.past.all in
          let waits : events_for fd w ≡ events_waiting found.0 = ap (λ o. option_map_or events_waiting o []) here in
          subst (λ l. Holds fd (after_read number len w) (request_at (after_read number len w).requests fd) (turns ++ (Read (room_in len) ∷ map (λ event. Came event) l)) (read ++ take (min (room_in len) (length (events_for fd w))) (events_for fd w))) (sym new)
          (subst (λ l. Holds fd (after_read number len w) (request_at (after_read number len w).requests fd) (turns ++ Read (room_in len) ∷ []) (read ++ take (min (room_in len) (length l)) l)) (sym waits)
          (subst (λ o. Holds fd (after_read number len w) o (turns ++ Read (room_in len) ∷ []) (read ++ take (min (room_in len) (length (events_waiting found.0))) (events_waiting found.0))) (sym behind)
          (read_holds fd (after_read number len w) found.0 (room_in len) turns read held_before))))
      | false ↦ (λ f. let behind : request_at (after_read number len w).requests fd ≡ request_at w.requests fd =
          find-other (has_number number) (has_number fd) (read_from (room_in len)) (λ x t. (apart x t f, apart x t f)) w.requests in
          let new : events_between fd w (after_read number len w) ≡ [] =
          ap (λ o. drop (length (edges_at fd w)) (events_of (option_map_or (λ (x : Request). x.past.all) o []))) behind ∙ nothing_new (edges_at fd w) in
          subst (λ l. Holds fd (after_read number len w) (request_at (after_read number len w).requests fd) (turns ++ map (λ event. Came event) l) (read ++ [])) (sym new)
          (subst (λ o. Holds fd (after_read number len w) o (turns ++ []) (read ++ [])) (sym behind) (still (request_at w.requests fd) (same_holds fd w (request_at w.requests fd) turns read h))))
    ] refl
  where
    apart : (x : Request) → (x.fd == number) ≡ true → (number == fd) ≡ false → (x.fd == fd) ≡ false
    apart x t f = grind (arith, nat_tests)

    still : (o : Option Request) → Holds fd w o (turns ++ []) (read ++ []) → Holds fd (after_read number len w) o (turns ++ []) (read ++ [])
    still None h = h
    still (Some r) h = h

refused_reading : (fd : ℕ) (w : World) (place number len : ℕ) (turns : List (Turn Event)) (read : List Event) (e : Errno) → Holds fd w (request_at w.requests fd) turns read
    → ReadHolds fd w place number len turns read (refused e w)
refused_reading fd w place number len turns read e h =
    subst (λ l. Holds fd w (request_at w.requests fd) (turns ++ map (λ event. Came event) l) (read ++ [])) (sym (nothing_new (edges_at fd w))) (same_holds fd w (request_at w.requests fd) turns read h)

by_refusal : (fd : ℕ) (w : World) (place number len : ℕ) (turns : List (Turn Event)) (read : List Event) (r : Option Errno) → (r ≡ None → is_request_file place number w ≡ true)
    → Holds fd w (request_at w.requests fd) turns read → ReadHolds fd w place number len turns read (refused_or r w (take_events number len w))
by_refusal fd w place number len turns read None there h = reading fd w place number len turns read (there refl) h
by_refusal fd w place number len turns read (Some e) there h = refused_reading fd w place number len turns read e h

step_holds : (fd : ℕ) (w : World) (actor : ℕ) (call : Call) (turns : List (Turn Event)) (read : List Event) → HoldersAgree w → HasSoundRequests w → Holds fd w (request_at w.requests fd) turns read
    → Holds fd (step w actor call).world (request_at (step w actor call).world.requests fd) (turns ++ turns_in fd w actor call) (read ++ given_in fd w call (step w actor call).reply)
step_holds fd w actor (ReadEdges place number len) turns read agree sound h =
    let behind = read_refusal LINE_EVENT_SIZE len (length (events_for number w)) in
    by_refusal fd w place number len turns read (first_of (request_file_refusal place number w ∷ behind ∷ []))
    (λ e. its_kind (is_chip_file place number w || is_request_file place number w) (is_request_file place number w) (nothing_first (request_file_refusal place number w) (first_of (behind ∷ [])) e).0) h
step_holds fd w actor call turns read agree sound h = other_holds fd w actor call refl agree sound turns read h

-- the world after the calls of a history
abbrev world_behind : {K : Type 0} → World → List (Entry K Call Reply Gift) → World
world_behind w [] = w
world_behind w (e ∷ history) = world_behind (step w e.actor e.call).world history

module _ {K : Type 0} (fd : ℕ) where
  all_hold : (w : World) (history : List (Entry K Call Reply Gift)) (turns : List (Turn Event)) (read : List Event) → HoldersAgree w → HasSoundRequests w → Holds fd w (request_at w.requests fd) turns read
      → let v = world_behind w history in Holds fd v (request_at v.requests fd) (turns ++ turns_from fd w history) (read ++ events_read fd w history)
  all_hold w [] turns read agree sound h = same_holds fd w (request_at w.requests fd) turns read h
  all_hold w (e ∷ history) turns read agree sound h =
      let v : World = (step w e.actor e.call).world in
      let more : List (Turn Event) = turns_in fd w e.actor e.call in
      let given_now : List Event = given_in fd w e.call (step w e.actor e.call).reply in
      let last : World = world_behind v history in
      subst (λ l. Holds fd last (request_at last.requests fd) (turns ++ (more ++ turns_from fd v history)) l) (append_assoc read given_now (events_read fd v history))
      (subst (λ l. Holds fd last (request_at last.requests fd) l ((read ++ given_now) ++ events_read fd v history)) (append_assoc turns more (turns_from fd v history))
      (all_hold v history (turns ++ more) (read ++ given_now) (holders_stay_agreed w e.actor e.call agree) (requests_stay_sound.stay w e.actor e.call sound)
      (step_holds fd w e.actor e.call turns read agree sound h)))

-- the law

ordered : (fd : ℕ) (w : World) (o : Option Request) (turns : List (Turn Event)) (read : List Event) → Holds fd w o turns read → IsSubsequence read (came turns)
ordered fd w None turns read h = subst (λ l. IsSubsequence l (came turns)) h.0.1 (in_order (buffer [] h.0.0) turns)
ordered fd w (Some r) turns read h = subst (λ l. IsSubsequence l (came turns)) h.2 (in_order (buffer [] r.capacity) turns)

ring_of : (fd : ℕ) (w : World) (r : Request) (turns : List (Turn Event)) (read : List Event) → Holds fd w (Some r) turns read → IsRingOf r turns read
ring_of fd w r turns read h = record {
  all_came = h.0;
  waits = h.1;
  gave = h.2;
  gaps = λ k some known.
      let long : length (came turns) ≡ length r.past.all = ap length h.0 ∙ length-events_behind [] r.past.all in
      gaps r.capacity k turns some (omega arith);
}

pub reads_spell_events : ReadsSpellEvents
reads_spell_events w actor place fd len = spelled (first_of (request_file_refusal place fd w ∷ read_refusal LINE_EVENT_SIZE len (length (events_for fd w)) ∷ []))
  where
    spelled : (r : Option Errno) → let out = refused_or r w (take_events fd len w) in out.bytes ≡ flat_map event_bytes (given_in fd w (ReadEdges place fd len) out.reply)
    spelled (Some e) = refl
    spelled None =
        let same : (fd == fd) ≡ true = grind (arith, nat_tests) in
        ap (λ b. flat_map event_bytes (cond b (take (min (len / LINE_EVENT_SIZE) (length (events_for fd w))) (events_for fd w)) [])) (sym same)

module _ {K : Type 0} (stands_for : K → World → Type 0) where
  behind_is : (w : World) (history : List (Entry K Call Reply Gift)) → world_behind w history ≡ fold_from (machine stands_for) w history
  behind_is w [] = refl
  behind_is w (e ∷ history) = behind_is (step w e.actor e.call).world history

  ring_holds : (history : List (Entry K Call Reply Gift)) (fd : ℕ) → let v = world_of stands_for history in
      Holds fd v (request_at v.requests fd) (turns_from fd opening history) (events_read fd opening history)
  ring_holds history fd = subst (λ (v : World). Holds fd v (request_at v.requests fd) (turns_from fd opening history) (events_read fd opening history)) (behind_is opening history)
      (all_hold fd opening history [] [] opens requests_stay_sound.opens ((1, refl), λ _. refl))

  pub reads_in_order : ReadsInOrder stands_for
  reads_in_order = always stands_for (λ history. (fd : ℕ) → IsSubsequence (events_read fd opening history) (came (turns_from fd opening history)))
      (λ history legal fd. let v : World = world_of stands_for history in
      ordered fd v (request_at v.requests fd) (turns_from fd opening history) (events_read fd opening history) (ring_holds history fd))

  pub gaps_are_oldest : GapsAreOldest stands_for
  gaps_are_oldest = always stands_for
      (λ history. (fd : ℕ) (request : Request) → request_at (world_of stands_for history).requests fd ≡ Some request
      → IsRingOf request (turns_from fd opening history) (events_read fd opening history))
      (λ history legal fd request is. let v : World = world_of stands_for history in
      ring_of fd v request (turns_from fd opening history) (events_read fd opening history)
      (subst (λ o. Holds fd v o (turns_from fd opening history) (events_read fd opening history)) is (ring_holds history fd)))
