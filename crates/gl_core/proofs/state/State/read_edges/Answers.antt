use Rattle.std.proofs.Common.{◌≡◌, ◌*◌, ◌++◌, ℕ, List, length, drop, min, take, Option, None, sym, ap, ◌∙◌, subst}
use Rattle.std.specs.Prelude.{◌/◌}
use Rattle.std.specs.List.{flat_map}
use Rattle.gl_base.specs.declared.errno.Errno.{Errno}
use Rattle.gl_uapi.specs.LineEvent.{event_bytes}
use Rattle.gl_uapi.specs.declared.line_events.Event.{Event}
use Rattle.gl_base.specs.Rows.{change_first}
use Rattle.gl_request.specs.Request.{is_number, read_from as row_read}
use Rattle.gl_request.specs.declared.row.RequestRow.{RequestRow}
use Rattle.gl_model.specs.Outcome.{refused_or}
use Rattle.gl_model.specs.Reading.{events_for, take_events}
use Rattle.gl_model.specs.declared.reply.Reply.TheVariants.{Number}
use Rattle.gl_core.specs.Kept.{Kept, StandsFor}
use Rattle.gl_core.specs.View.{view_of}
use Rattle.gl_core.proofs.ReadEvents.{count_told, read_stands, spelled_count, taken_told}
use Rattle.gl_core.proofs.state.State.read_edges.Goals as goal

pub returns-in-Ok : goal.returns-in-Ok
returns-in-Ok c w s =
    let k : Kept = view_of c.self.inside in
    let before : StandsFor k w = subst (λ k. StandsFor k w) (sym c.self.view_is) s in
    let fd : ℕ = c.in-Ok.found.fd in
    let room : ℕ = c.args.len / 48 in
    let rows : c.read_at-count.new.self ≡ change_first (is_number fd) (row_read room) k.requests = c.read_at-count.ensures.rows ∙ ap (λ n. change_first (is_number fd) (row_read n) k.requests) c.room_for-room.ensures in
    let events : List Event = events_for fd w in
    let count : ℕ = min room (length events) in
    let many : c.read_at-count.result ≡ count = c.read_at-count.ensures.count ∙ count_told k w fd c.room_for-room.result before ∙ ap (λ n. min n (length events)) c.room_for-room.ensures in
    let old : List ℕ = c.args.out.now in
    let out : c.read_at-count.new.out ≡ flat_map event_bytes (take count events) ++ drop (length (flat_map event_bytes (take count events))) old =
    c.read_at-count.ensures.out
    ∙ ap (λ (es : List Event). flat_map event_bytes es ++ drop (48 * c.read_at-count.result) old) (taken_told k w fd c.room_for-room.result before)
    ∙ ap (λ n. flat_map event_bytes (take (min n (length events)) events) ++ drop (48 * c.read_at-count.result) old) c.room_for-room.ensures
    ∙ ap (λ (n : ℕ). flat_map event_bytes (take count events) ++ drop n old) (ap (λ n. 48 * n) many ∙ sym (spelled_count room events)) in
    let does : Option Errno → ℕ → Type 0 = λ refusal fd.
    let step = refused_or refusal w (take_events fd c.args.len w) in
    StandsFor (record k { requests = c.read_at-count.new.self }) step.world × (Number (48 * c.from.result) ≡ step.reply) × (c.read_at-count.new.out ≡ step.bytes ++ drop (length step.bytes) old) in
    subst (λ (refusal : Option Errno). does refusal c.args.fd) (c.in-Ok.ensures.passed w s)
    (subst (λ (n : ℕ). does None n) c.in-Ok.ensures.number
    (subst (λ (rows : List RequestRow). StandsFor (record k { requests = rows }) (take_events fd c.args.len w).world) (sym rows) (read_stands k w fd room before), ap (λ n. Number (48 * n)) (c.from.ensures ∙ many), out))
