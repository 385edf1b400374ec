-- An edge of a line, and what is kept of the request that it comes to.
use Rattle.std.proofs.Common.{◌≡◌, ◌%◌, ◌^◌, ◌<◌, ℕ, Bool, true, false, cond, List, length, map, Option, Some, None, refl, sym, ap, ◌∙◌, subst, inl, inr, arith, length-take}
use Rattle.std.specs.Prelude.{nat_eq, position, slice_index, slice_index_or}
use Rattle.std.specs.List.{find, list_any, position_or_len}
use Rattle.std.specs.Option.{option_map}
use Rattle.std.proofs.lemmas.Bool.{cases_lt, eqb-true, lt-ltb, true≢false}
use Rattle.std.proofs.lemmas.Grind.{same_number_lists}
use Rattle.std.proofs.lemmas.List.{get_or-take}
use Rattle.std.proofs.lemmas.List.Folds.{list_any_none}
use Rattle.std.proofs.lemmas.List.Sums.{fails_before_first, passes_at_first}
use Rattle.circular_buffer.specs.Buffer.{Buffer, buffer}
use Rattle.gl_base.specs.Lines.{offsets_of}
use Rattle.gl_base.specs.Rows.{change_first}
use Rattle.gl_base.specs.declared.lines.Lines.{Lines}
use Rattle.gl_base.proofs.FirstRows.{Each-change_first, Each-find}
use Rattle.gl_base.proofs.Seen.{find-map, map-change_first}
use Rattle.gl_ring.specs.Edges.{Edge, events_of, line_count}
use Rattle.gl_ring.specs.Waiting.{waiting, with_item}
use Rattle.gl_ring.proofs.Lasting.{next_within}
use Rattle.gl_uapi.specs.declared.line_events.Event.{Event}
use Rattle.gl_request.specs.Numbering.{KeepsEdges, edge_of}
use Rattle.gl_request.specs.Request.{is_number, request_at, with_event}
use Rattle.gl_request.specs.declared.row.RequestRow.{RequestRow}
use Rattle.gl_request.proofs.Numbers.{edge_kept}
use Rattle.gl_bank.specs.Level.{flipped, levels_at}
use Rattle.gl_bank.specs.declared.levels.Levels.{Levels}
use Rattle.gl_desc.specs.Desc.{desc_at}
use Rattle.gl_model.specs.declared.place.Place.{Place}
use Rattle.gl_model.specs.Edges.{edge, edge_for, event_time, input_holder, is_monitored, position_in, request_number, with_edge}
use Rattle.gl_model.specs.Places.{no_place, place_at}
use Rattle.gl_model.specs.SoundRequests.{HasSoundRequests, IsSoundRequest}
use Rattle.gl_model.specs.World.{World, Request, has_number}
use Rattle.gl_core.specs.HeldLines.{HoldersHaveLines, is_line_of, noted_at}
use Rattle.gl_core.specs.Kept.{Kept, StandsFor, kept_of, kept_request}
use Rattle.gl_core.proofs.KeptEdges.{kept_requests_keep_edges}

-- what a request keeps of its edges is one thing

counts_same : (row other : RequestRow) (edges : List Edge) (next : ℕ) → KeepsEdges row edges next → KeepsEdges other edges next → other.lines ≡ row.lines
    → (i : ℕ) → slice_index row.line_counts i ≡ slice_index other.line_counts i
counts_same row other edges next keeps keep_too lines i =
    let count : other.lines.count ≡ row.lines.count = ap (λ (l : Lines). l.count) lines in
    elim (cases_lt i row.lines.count) [
      | inl below ↦
          (let same : slice_index other.lines.offsets i ≡ slice_index row.lines.offsets i = ap (λ (l : Lines). slice_index l.offsets i) lines in
          keeps.line_counts i below ∙ sym (keep_too.line_counts i (omega arith) ∙ ap (λ o. line_count o edges % 2 ^ 32) same))
      | inr past ↦ keeps.other_counts i past ∙ sym (keep_too.other_counts i (omega arith))
    ]

-- two rows that keep the same edges of the same lines
same_kept : (row other : RequestRow) (edges : List Edge) (next : ℕ) → KeepsEdges row edges next → KeepsEdges other edges next → other.lines ≡ row.lines → other.ring.capacity ≡ row.ring.capacity
    → record other { ring = row.ring; count = row.count; line_counts = row.line_counts } ≡ other
same_kept row other edges next keeps keep_too lines capacity =
    ap (λ (ring : Buffer Event). record other { ring = ring; count = row.count; line_counts = row.line_counts }) (keeps.ring ∙ sym (ap (buffer (waiting (record { all = events_of edges; next = next }))) capacity) ∙ sym keep_too.ring)
    ∙ ap (λ (n : ℕ). record other { count = n; line_counts = row.line_counts }) (keeps.count ∙ sym keep_too.count)
    ∙ ap (λ (ns : List ℕ). record other { line_counts = ns }) (same_number_lists row.line_counts other.line_counts (keeps.slots ∙ sym keep_too.slots) (λ k lt. counts_same row other edges next keeps keep_too lines k))

-- where a line stands in a request that has it

pub position_within : (p : ℕ → Bool) (xs : List ℕ) → list_any p xs ≡ true → position_or_len p xs < length xs
position_within p xs some =
    elim (cases_lt (position_or_len p xs) (length xs)) [
      | inl below ↦ below
      | inr past ↦ absurd (true≢false (sym some ∙ list_any_none p xs (λ k d lt. fails_before_first p xs k d (omega arith))))
    ]

pub position_found : (p : ℕ → Bool) (xs : List ℕ) → list_any p xs ≡ true → position p xs ≡ Some (position_or_len p xs)
position_found p xs some = ap (λ b. cond b (Some (position_or_len p xs)) None) (lt-ltb (position_or_len p xs) (length xs) (position_within p xs some))

pub position_below : (offset : ℕ) (lines : Lines) → list_any (nat_eq offset) (offsets_of lines) ≡ true → position_in offset lines < lines.count
position_below offset lines some =
    let within : position_in offset lines < length (offsets_of lines) = position_within (nat_eq offset) (offsets_of lines) some in
    omega (arith, length-take lines.count lines.offsets)

offset_there : (offset : ℕ) (lines : Lines) → list_any (nat_eq offset) (offsets_of lines) ≡ true → slice_index lines.offsets (position_in offset lines) ≡ offset
offset_there offset lines some =
    let i : ℕ = position_in offset lines in
    let within : i < length (offsets_of lines) = position_within (nat_eq offset) (offsets_of lines) some in
    let below : i < lines.count = position_below offset lines some in
    sym (eqb-true offset (slice_index lines.offsets i) (ap (nat_eq offset) (sym (get_or-take lines.count lines.offsets i 0 below)) ∙ passes_at_first (nat_eq offset) (offsets_of lines) 0 within))

-- an edge of a request

abbrev after_edge : Request → Edge → Request
after_edge request edge = record request { past = with_item request.capacity edge request.past }

sound_after : (request : Request) (edge : Edge) → IsSoundRequest request → IsSoundRequest (after_edge request edge)
sound_after request edge sound = record { in_order = next_within request.capacity edge request.past sound.in_order; at_most = sound.at_most; lines_differ = sound.lines_differ }

event_kept : (request : Request) (i : ℕ) (rising : Bool) (timestamp : ℕ) → IsSoundRequest request → i < request.lines.count
    → kept_request (after_edge request (edge_of i rising timestamp (kept_request request))) ≡ with_event i rising timestamp (kept_request request)
event_kept request i rising timestamp sound below =
    let edge : Edge = edge_of i rising timestamp (kept_request request) in
    let after : Request = after_edge request edge in
    same_kept (kept_request after) (with_event i rising timestamp (kept_request request)) after.past.all after.past.next
    (kept_requests_keep_edges after (sound_after request edge sound))
    (edge_kept (kept_request request) request.past.all request.past.next i rising timestamp (kept_requests_keep_edges request sound) sound.lines_differ below)
    refl refl

pub edge_noted : (request : Request) (offset : ℕ) (rising : Bool) (timestamp : ℕ) → IsSoundRequest request → list_any (nat_eq offset) (offsets_of request.lines) ≡ true
    → kept_request (with_edge offset rising timestamp request) ≡ noted_at offset rising timestamp (kept_request request)
edge_noted request offset rising timestamp sound some =
    let i : ℕ = position_in offset request.lines in
    let there : slice_index request.lines.offsets i ≡ offset = offset_there offset request.lines some in
    elim (is_monitored offset rising request) as (λ b. kept_request (cond b (after_edge request (record { timestamp = timestamp; rising = rising; offset = offset })) request) ≡ cond b (with_event i rising timestamp (kept_request request)) (kept_request request)) [
      | true ↦
          ap (λ (o : ℕ). kept_request (after_edge request (record { timestamp = timestamp; rising = rising; offset = o }))) (sym there)
          ∙ event_kept request i rising timestamp sound (position_below offset request.lines some)
      | false ↦ refl
    ]

sound-with_edge : (offset : ℕ) (rising : Bool) (timestamp : ℕ) (request : Request) → IsSoundRequest request → IsSoundRequest (with_edge offset rising timestamp request)
sound-with_edge offset rising timestamp request sound =
    let edge : Edge = record { timestamp = timestamp; rising = rising; offset = offset } in
    elim (is_monitored offset rising request) as (λ b. IsSoundRequest (cond b (after_edge request edge) request)) [ true ↦ sound_after request edge sound | false ↦ sound ]

-- an edge of the request of a number

line_of : (o : Option Request) (request : Request) (offset : ℕ) → is_line_of offset (option_map kept_request o) ≡ true → o ≡ Some request → list_any (nat_eq offset) (offsets_of request.lines) ≡ true
line_of None request offset some is = cc
line_of (Some other) request offset some is = let same : other ≡ request = cc in subst (λ (r : Request). list_any (nat_eq offset) (offsets_of r.lines) ≡ true) same some

world_edge_stands : (w : World) (fd offset : ℕ) (rising : Bool) (timestamp : ℕ) → HasSoundRequests w → is_line_of offset (request_at (map kept_request w.requests) fd) ≡ true
    → StandsFor (record (kept_of w) { requests = change_first (is_number fd) (noted_at offset rising timestamp) (map kept_request w.requests) })
    (record w { requests = change_first (has_number fd) (with_edge offset rising timestamp) w.requests })
world_edge_stands w fd offset rising timestamp sound some =
    let found : is_line_of offset (option_map kept_request (find (has_number fd) w.requests)) ≡ true =
    ap (is_line_of offset) (sym (find-map kept_request (has_number fd) (is_number fd) (λ r. refl) w.requests)) ∙ some in
    record {
      kept_so =
          ap (λ (rows : List RequestRow). record (kept_of w) { requests = rows })
          (map-change_first kept_request (has_number fd) (is_number fd) (with_edge offset rising timestamp) (noted_at offset rising timestamp) (λ r. refl) w.requests
          (λ request is. edge_noted request offset rising timestamp (Each-find IsSoundRequest (has_number fd) w.requests request sound is) (line_of (find (has_number fd) w.requests) request offset found is)));
      sound_requests = Each-change_first IsSoundRequest (has_number fd) (with_edge offset rising timestamp) w.requests (sound-with_edge offset rising timestamp) sound;
    }

-- an edge of a line that a request holds as an input

not_output : (output : Bool) (number : Option ℕ) (fd : ℕ) → Some fd ≡ cond output None number → number ≡ Some fd
not_output true number fd is = cc
not_output false number fd is = sym is

pub edge_comes : (k : Kept) (w : World) (place offset : ℕ) (up : Bool) (moment fd : ℕ) → StandsFor k w → HoldersHaveLines k.places k.requests
    → Some fd ≡ input_holder (slice_index_or k.places place no_place) offset
    → (let line = levels_at (slice_index_or k.places place no_place).bank offset in
    StandsFor (record k { requests = change_first (is_number fd) (noted_at offset (flipped line.flags up) (event_time line.flags moment k.real)) k.requests }) (edge place offset up moment w))
edge_comes k w place offset up moment fd stands =
    subst (λ (k : Kept). HoldersHaveLines k.places k.requests
    → Some fd ≡ input_holder (slice_index_or k.places place no_place) offset
    → (let line = levels_at (slice_index_or k.places place no_place).bank offset in
    StandsFor (record k { requests = change_first (is_number fd) (noted_at offset (flipped line.flags up) (event_time line.flags moment k.real)) k.requests }) (edge place offset up moment w))) stands.kept_so
    (λ lines told.
    let tables : Place = place_at w place in
    let line : Levels = levels_at tables.bank offset in
    let holds : request_number (desc_at tables.descs offset).holder ≡ Some fd = not_output line.output (request_number (desc_at tables.descs offset).holder) fd told in
    subst (λ (o : Option ℕ). StandsFor (record (kept_of w) { requests = change_first (is_number fd) (noted_at offset (flipped line.flags up) (event_time line.flags moment w.real)) (map kept_request w.requests) }) (edge_for o offset line up moment w)) told
    (world_edge_stands w fd offset (flipped line.flags up) (event_time line.flags moment w.real) stands.sound_requests (lines.have place offset fd holds)))
