-- The events of a request that wait, and what is kept of it after a read.
use Rattle.std.proofs.Common.{◌≡◌, ◌+◌, ◌-◌, ◌*◌, ◌≤◌, ℕ, List, [], ◌∷◌, length, drop, min, take, Option, Some, None, refl, sym, ap, ◌∙◌, arith, length-append, length-drop}
use Rattle.std.specs.List.{flat_map}
use Rattle.std.specs.Option.{option_map, option_map_or}
use Rattle.std.proofs.lemmas.List.{length-take-le}
use Rattle.circular_buffer.specs.Buffer.{Buffer, buffer}
use Rattle.gl_base.specs.Rows.{change_first}
use Rattle.gl_base.proofs.FirstRows.{Each-change_first}
use Rattle.gl_base.proofs.Seen.{map-change_first}
use Rattle.gl_ring.specs.Edges.{events_of}
use Rattle.gl_ring.specs.Waiting.{taken, taken_count}
use Rattle.gl_ring.proofs.Edges.{length-events_behind}
use Rattle.gl_ring.proofs.Lasting.{left-waiting}
use Rattle.gl_uapi.specs.LineEvent.{event_bytes}
use Rattle.gl_uapi.specs.declared.line_events.Event.{Event}
use Rattle.gl_uapi.proofs.EventLaws.{length-event_bytes}
use Rattle.gl_request.specs.Request.{is_number, read_from as row_read, request_at as row_at}
use Rattle.gl_request.specs.declared.row.RequestRow.{RequestRow}
use Rattle.gl_model.specs.Reading.{events_for, events_waiting, read_from}
use Rattle.gl_model.specs.SoundRequests.{IsSoundRequest}
use Rattle.gl_model.specs.World.{Request, World, has_number, request_at}
use Rattle.gl_core.specs.Kept.{Kept, StandsFor, kept_of, kept_request}
use Rattle.gl_core.proofs.KeptRequests.{kept_at}

-- what waits

waiting_in : (request : Option Request) → option_map_or (λ (row : RequestRow). length row.ring.items) (option_map kept_request request) 0 ≡ length (option_map_or events_waiting request [])
waiting_in None = refl
waiting_in (Some request) = refl

pub waiting_told : (k : Kept) (w : World) (fd : ℕ) → StandsFor k w → option_map_or (λ (row : RequestRow). length row.ring.items) (row_at k.requests fd) 0 ≡ length (events_for fd w)
waiting_told k w fd s = ap (λ row. option_map_or (λ (row : RequestRow). length row.ring.items) row 0) (kept_at k w fd s) ∙ waiting_in (request_at w.requests fd)

-- what a read takes

count_in : (request : Option Request) (max : ℕ) → option_map_or (λ (row : RequestRow). taken_count max row.ring) (option_map kept_request request) 0 ≡ min max (length (option_map_or events_waiting request []))
count_in None max = omega arith
count_in (Some request) max = refl

pub count_told : (k : Kept) (w : World) (fd max : ℕ) → StandsFor k w → option_map_or (λ (row : RequestRow). taken_count max row.ring) (row_at k.requests fd) 0 ≡ min max (length (events_for fd w))
count_told k w fd max s = ap (λ row. option_map_or (λ (row : RequestRow). taken_count max row.ring) row 0) (kept_at k w fd s) ∙ count_in (request_at w.requests fd) max

taken_in : (request : Option Request) (max : ℕ) → option_map_or (λ (row : RequestRow). taken max row.ring) (option_map kept_request request) []
    ≡ take (min max (length (option_map_or events_waiting request []))) (option_map_or events_waiting request [])
taken_in None max = let none : min max 0 ≡ 0 = omega arith in sym (ap (λ n. take n []) none)
taken_in (Some request) max = refl

pub taken_told : (k : Kept) (w : World) (fd max : ℕ) → StandsFor k w → option_map_or (λ (row : RequestRow). taken max row.ring) (row_at k.requests fd) []
    ≡ take (min max (length (events_for fd w))) (events_for fd w)
taken_told k w fd max s = ap (λ row. option_map_or (λ (row : RequestRow). taken max row.ring) row []) (kept_at k w fd s) ∙ taken_in (request_at w.requests fd) max

-- its bytes

length-spelled : (events : List Event) → length (flat_map event_bytes events) ≡ 48 * length events
length-spelled [] = omega arith
length-spelled (event ∷ events) = omega (arith, length-append (event_bytes event) (flat_map event_bytes events), length-event_bytes event, length-spelled events)

-- the bytes of the first that wait, as many as fit
pub spelled_count : (room : ℕ) (events : List Event) → let count = min room (length events) in length (flat_map event_bytes (take count events)) ≡ 48 * count
spelled_count room events =
    let count : ℕ = min room (length events) in
    length-spelled (take count events) ∙ ap (λ n. 48 * n) (length-take-le count events (omega arith))

-- what is left

read_kept : (max : ℕ) (request : Request) → kept_request (read_from max request) ≡ row_read max (kept_request request)
read_kept max request =
    let events : List Event = events_of request.past.all in
    let next : ℕ = request.past.next in
    let as_many : length (drop next request.past.all) ≡ length (drop next events) =
    length-drop next request.past.all ∙ sym (length-drop next events ∙ ap (λ n. n - next) (length-events_behind [] request.past.all)) in
    ap (λ (ring : Buffer Event). record (kept_request request) { ring = ring })
    (ap (λ n. buffer (drop (next + min max n) events) request.capacity) as_many ∙ sym (left-waiting request.capacity max (record { all = events; next = next })))

sound_read : (max : ℕ) (request : Request) → IsSoundRequest request → IsSoundRequest (read_from max request)
sound_read max request sound =
    let before : request.past.next ≤ length request.past.all = sound.in_order in
    record { in_order = omega (arith, length-drop request.past.next request.past.all); at_most = sound.at_most; lines_differ = sound.lines_differ }

pub read_stands : (k : Kept) (w : World) (fd max : ℕ) → StandsFor k w
    → StandsFor (record k { requests = change_first (is_number fd) (row_read max) k.requests }) (record w { requests = change_first (has_number fd) (read_from max) w.requests })
read_stands k w fd max s = record {
  kept_so =
      ap (λ (rows : List RequestRow). record (kept_of w) { requests = rows })
      (map-change_first kept_request (has_number fd) (is_number fd) (read_from max) (row_read max) (λ r. refl) w.requests (λ request is. read_kept max request))
      ∙ ap (λ (k : Kept). record k { requests = change_first (is_number fd) (row_read max) k.requests }) s.kept_so;
  sound_requests = Each-change_first IsSoundRequest (has_number fd) (read_from max) w.requests (sound_read max) s.sound_requests;
}
