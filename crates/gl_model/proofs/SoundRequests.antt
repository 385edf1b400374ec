-- Each call keeps the requests sound.
use Rattle.std.proofs.Common.{◌≡◌, ◌+◌, ◌-◌, ◌<◌, ◌≤◌, ◌⊎◌, ℕ, zero, suc, List, [], ◌∷◌, ◌++◌, length, drop, refl, sym, ap, ◌∙◌, inl, inr, Bool, true, false, cond, Option, Some, None, arith}
use Rattle.std.specs.Prelude.{not, nat_le, nat_lt, ◌==◌, ◌||◌, is_some, slice_index, take}
use Rattle.std.specs.List.{list_any}
use Rattle.std.specs.Option.{option_map, option_or}
use Rattle.std.proofs.lemmas.Bool.{true≢false}
use Rattle.std.proofs.lemmas.Bool.Decides.{nat_tests}
use Rattle.std.proofs.lemmas.List.{length-append, length-drop}
use Rattle.gl_attrs.specs.ConfigFault.{config_fault}
use Rattle.gl_base.specs.Positions.{first_fault, table_from}
use Rattle.gl_base.specs.Refusals.{first_of, when}
use Rattle.gl_base.specs.Rows.{Each, change_first, without_first}
use Rattle.gl_base.specs.declared.errno.Errno.{Errno}
use Rattle.gl_base.specs.declared.errno.Errno.TheVariants.{Busy, Inval}
use Rattle.gl_desc.specs.Desc.{desc_at, is_free, line_fault, stands_earlier}
use Rattle.gl_desc.specs.declared.desc.LineFault.{LineFault}
use Rattle.gl_desc.specs.declared.desc.LineFault.TheVariants.{BadOffset, Busy as BusyLine}
use Rattle.gl_irq.specs.Irq.{irq_at}
use Rattle.gl_pins.specs.Pins.{is_held}
use Rattle.gl_ring.specs.Edges.{Edge}
use Rattle.gl_ring.specs.Waiting.{with_item}
use Rattle.gl_uapi.specs.Fields.{is_zero_at}
use Rattle.gl_uapi.specs.declared.layout.TheConstants.{REQUEST_PADDING, REQUEST_PADDING_SIZE}
use Rattle.gl_base.specs.declared.limits.TheConstants.{LINES_PER_REQUEST}
use Rattle.gl_model.specs.AskedLines.{AskedLines, asked_in, config_of, header_fault, num_lines, offset_asked, request_fault}
use Rattle.gl_model.specs.Claiming.{claim_number, claim_refusal, errno_of, held, line_refusal, new_claim}
use Rattle.gl_model.specs.Configuring.{interrupt_fault, settings_of}
use Rattle.gl_model.specs.Edges.{is_monitored, with_edge}
use Rattle.gl_model.specs.OpenFiles.{number_refusal}
use Rattle.gl_model.specs.Places.{place_at}
use Rattle.gl_model.specs.Reading.{read_from}
use Rattle.gl_model.specs.SoundRequests.{HasSoundRequests, IsSoundRequest, RequestsStaySound}
use Rattle.gl_model.specs.Step.{step}
use Rattle.gl_model.specs.World.{World, Request, has_number}
use Rattle.gl_model.specs.declared.call.Call.{Call}
use Rattle.gl_model.specs.declared.place.Place.{Place}
use Rattle.gl_model.proofs.Phases.{nothing_first, nothing_when, some_none}
use Rattle.gl_model.proofs.Requests.{step_keeps}

-- rows

each_change : (test : Request → Bool) (f : Request → Request) (rows : List Request) → ((x : Request) → IsSoundRequest x → IsSoundRequest (f x)) → Each IsSoundRequest rows → Each IsSoundRequest (change_first test f rows)
each_change test f [] h s = tt
each_change test f (x ∷ rows) h s = elim (test x) as (λ b. Each IsSoundRequest (cond b (f x ∷ rows) (x ∷ change_first test f rows))) [ true ↦ (h x s.0, s.1) | false ↦ (s.0, each_change test f rows h s.1) ]

each_without : (test : Request → Bool) (rows : List Request) → Each IsSoundRequest rows → Each IsSoundRequest (without_first test rows)
each_without test [] s = tt
each_without test (x ∷ rows) s = elim (test x) as (λ b. Each IsSoundRequest (cond b rows (x ∷ without_first test rows))) [ true ↦ s.1 | false ↦ (s.0, each_without test rows s.1) ]

each_push : (rows : List Request) (x : Request) → Each IsSoundRequest rows → IsSoundRequest x → Each IsSoundRequest (rows ++ x ∷ [])
each_push [] x s h = (h, tt)
each_push (y ∷ rows) x s h = (s.0, each_push rows x s.1 h)

-- an edge, other settings, a read

edge_sound : (offset : ℕ) (rising : Bool) (timestamp : ℕ) (x : Request) → IsSoundRequest x → IsSoundRequest (with_edge offset rising timestamp x)
edge_sound offset rising timestamp x s = elim (is_monitored offset rising x) as (λ b. IsSoundRequest (cond b (record x { past = with_item x.capacity (record { timestamp = timestamp; rising = rising; offset = offset }) x.past }) x)) [
  | true ↦
      (let edge : Edge = record { timestamp = timestamp; rising = rising; offset = offset } in
      let h : length (x.past.all ++ edge ∷ []) ≡ length x.past.all + 1 = length-append x.past.all (edge ∷ []) in
      let before : x.past.next ≤ length x.past.all = s.in_order in
      record { in_order = omega arith; at_most = s.at_most; lines_differ = s.lines_differ })
  | false ↦ s
]

read_sound : (room : ℕ) (x : Request) → IsSoundRequest x → IsSoundRequest (read_from room x)
read_sound room x s =
    let before : x.past.next ≤ length x.past.all = s.in_order in
    let left : length (drop x.past.next x.past.all) ≡ length x.past.all - x.past.next = length-drop x.past.next x.past.all in
    record { in_order = omega arith; at_most = s.at_most; lines_differ = s.lines_differ }

-- the lines of a new claim differ

pub length-table_from : (f : ℕ → ℕ) (i n : ℕ) → length (table_from f i n) ≡ n
unfolding table_from
length-table_from f i zero = refl
length-table_from f i (suc n) = ap suc (length-table_from f (suc i) n)

pub first_none : (f : ℕ → Option Errno) (i n k : ℕ) → first_fault f i n ≡ None → k < n → f (i + k) ≡ None
first_none f i zero k e lt = absurd (omega arith)
first_none f i (suc n) zero e lt = let z : i + 0 ≡ i = omega arith in ap f z ∙ (nothing_first (f i) (first_fault f (i + 1) n) e).0
first_none f i (suc n) (suc k) e lt =
    let z : i + suc k ≡ (i + 1) + k = omega arith in
    ap f z ∙ first_none f (i + 1) n k (nothing_first (f i) (first_fault f (i + 1) n) e).1 (omega arith)

pub or_false : (a b : Bool) → (a || b) ≡ false → (a ≡ false) × (b ≡ false)
or_false true b e = absurd (true≢false e)
or_false false b e = (refl, e)

-- none of the first i numbers passes
none_passes : (p : ℕ → Bool) (xs : List ℕ) (i k : ℕ) → list_any p (take i xs) ≡ false → k < i → k < length xs → p (slice_index xs k) ≡ false
none_passes p [] i k e lt in_xs = absurd (omega arith)
none_passes p (x ∷ xs) zero k e lt in_xs = absurd (omega arith)
none_passes p (x ∷ xs) (suc i) zero e lt in_xs = (or_false (p x) (list_any p (take i xs)) e).0
none_passes p (x ∷ xs) (suc i) (suc k) e lt in_xs = none_passes p xs i k (or_false (p x) (list_any p (take i xs)) e).1 (omega arith) (omega arith)

pub map_none : (o : Option LineFault) → option_map errno_of o ≡ None → o ≡ None
map_none None e = refl
map_none (Some fault) e = absurd (some_none (errno_of fault) e)

pub first_two : (a b : Option LineFault) → option_or a b ≡ None → (a ≡ None) × (b ≡ None)
first_two None b e = (refl, e)
first_two (Some x) b e = absurd (some_none x e)

pub fault_when : (b : Bool) (fault : LineFault) → when b fault ≡ None → b ≡ false
fault_when true fault e = absurd (some_none fault e)
fault_when false fault e = refl

earlier_none : (place : Place) (asked : AskedLines) (i : ℕ) → line_refusal place asked i ≡ None → stands_earlier asked.lines.offsets i ≡ false
earlier_none place asked i e =
    let offset : ℕ = slice_index asked.lines.offsets i in
    let fault : Option LineFault = line_fault place.descs asked.lines.offsets i in
    let one = nothing_first (option_map errno_of fault) (first_of (when (is_held place.pins offset) Busy ∷ interrupt_fault (settings_of asked.settings i) (irq_at place.irqs offset) ∷ [])) e in
    let none : fault ≡ None = map_none fault one.0 in
    let a = when (nat_le (length place.descs) offset) BadOffset in
    let b = when (not (is_free (desc_at place.descs offset).holder)) BusyLine in
    let c = when (stands_earlier asked.lines.offsets i) BusyLine in
    let two = first_two a (first_of (b ∷ c ∷ [])) none in
    let three = first_two b (first_of (c ∷ [])) two.1 in
    let four = first_two c None three.1 in
    fault_when (stands_earlier asked.lines.offsets i) BusyLine four.0

few_lines : (bytes : List ℕ) → request_fault bytes ≡ None → num_lines bytes ≤ 64
few_lines bytes e =
    let head = nothing_first (header_fault bytes) (config_fault (config_of bytes) (num_lines bytes)) e in
    let size = nothing_first (when ((num_lines bytes == 0) || nat_lt LINES_PER_REQUEST (num_lines bytes)) Inval) (first_of (when (not (is_zero_at REQUEST_PADDING REQUEST_PADDING_SIZE bytes)) Inval ∷ [])) head.0 in
    let both = or_false (num_lines bytes == 0) (nat_lt 64 (num_lines bytes)) (nothing_when ((num_lines bytes == 0) || nat_lt LINES_PER_REQUEST (num_lines bytes)) Inval size.0) in
    let few : nat_lt 64 (num_lines bytes) ≡ false = both.1 in
    grind (arith, nat_tests)

-- a line that stands later isn't the same
later_differs : (place actor : ℕ) (bytes : List ℕ) (w : World) → request_fault bytes ≡ None → claim_refusal place actor (asked_in bytes) w ≡ None
    → (i j : ℕ) → i < j → j < num_lines bytes → slice_index (asked_in bytes).lines.offsets i ≡ slice_index (asked_in bytes).lines.offsets j → ⊥
later_differs place actor bytes w f e i j less within same =
    let asked : AskedLines = asked_in bytes in
    let busy = when (is_some (claim_number w.requests actor)) Busy in
    let lines = first_fault (line_refusal (place_at w place) asked) 0 asked.lines.count in
    let one = nothing_first (number_refusal w) (first_of (busy ∷ lines ∷ [])) e in
    let two = nothing_first busy (first_of (lines ∷ [])) one.1 in
    let three = nothing_first lines None two.1 in
    let z : 0 + j ≡ j = omega arith in
    let none : line_refusal (place_at w place) asked j ≡ None = ap (line_refusal (place_at w place) asked) (sym z) ∙ first_none (line_refusal (place_at w place) asked) 0 (num_lines bytes) j three.0 within in
    let size : length asked.lines.offsets ≡ 64 = length-table_from (offset_asked bytes) 0 64 in
    let few : num_lines bytes ≤ 64 = few_lines bytes f in
    let differs : (slice_index asked.lines.offsets i == slice_index asked.lines.offsets j) ≡ false =
    none_passes (λ offset. offset == slice_index asked.lines.offsets j) asked.lines.offsets j i (earlier_none (place_at w place) asked j none) less (omega arith) in
    grind (arith, nat_tests)

order : (i j : ℕ) → (i ≡ j) ⊎ ((i < j) ⊎ (j < i))
order zero zero = inl refl
order zero (suc j) = inr (inl (omega arith))
order (suc i) zero = inr (inr (omega arith))
order (suc i) (suc j) = elim (order i j) as (λ _. (suc i ≡ suc j) ⊎ ((suc i < suc j) ⊎ (suc j < suc i))) [
  | inl e ↦ inl (ap suc e)
  | inr h ↦ (elim h as (λ _. (suc i ≡ suc j) ⊎ ((suc i < suc j) ⊎ (suc j < suc i))) [ inl l ↦ inr (inl (omega arith)) | inr l ↦ inr (inr (omega arith)) ])
]

claim_sound : (place actor : ℕ) (bytes : List ℕ) (w : World) → request_fault bytes ≡ None → claim_refusal place actor (asked_in bytes) w ≡ None → IsSoundRequest (new_claim w.next place actor (asked_in bytes))
claim_sound place actor bytes w f e = record {
  in_order = omega arith;
  at_most = few_lines bytes f;
  lines_differ = λ i j i_in j_in same. elim (order i j) as (λ _. i ≡ j) [
    | inl is ↦ is
    | inr h ↦ (elim h as (λ _. i ≡ j) [
      | inl less ↦ absurd (later_differs place actor bytes w f e i j less j_in same)
      | inr less ↦ absurd (later_differs place actor bytes w f e j i less i_in (sym same))
    ])
  ];
}

stay_sound : (w : World) (actor : ℕ) (call : Call) → HasSoundRequests w → HasSoundRequests (step w actor call).world
stay_sound w actor call = step_keeps (Each IsSoundRequest)
    (λ fd offset rising timestamp rows. each_change (has_number fd) (with_edge offset rising timestamp) rows (edge_sound offset rising timestamp))
    (λ fd settings rows. each_change (has_number fd) (λ request. record request { settings = settings request.settings }) rows
    (λ x s. record { in_order = s.in_order; at_most = s.at_most; lines_differ = s.lines_differ }))
    (λ fd rows. each_change (has_number fd) held rows (λ x s. record { in_order = s.in_order; at_most = s.at_most; lines_differ = s.lines_differ }))
    (λ fd room rows. each_change (has_number fd) (read_from room) rows (read_sound room))
    (λ fd rows. each_without (has_number fd) rows)
    (λ place actor bytes v f e s. each_push v.requests (new_claim v.next place actor (asked_in bytes)) s (claim_sound place actor bytes v f e))
    w actor call

pub requests_stay_sound : RequestsStaySound
requests_stay_sound = record { opens = tt; stay = stay_sound }
