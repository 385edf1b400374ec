use Rattle.std.proofs.Common.{ℕ, ◌≡◌, List, Some, drop, ap, sym, ◌∙◌, arith}
use Rattle.std.specs.List.{slice_get}
use Rattle.std.proofs.lemmas.List.{drop-drop}
use Rattle.circular_buffer.specs.Buffer.{Buffer, buffer}
use Rattle.gl_uapi.specs.declared.line_events.Event.{Event}
use Rattle.gl_uapi.proofs.Moving.{item_written}
use Rattle.gl_uapi.specs.LineEvent.{event_bytes}
use Rattle.gl_ring.proofs.ring.EdgeRing.read.Goals as goal

pub loop-i-preserved : goal.loop-i-preserved
loop-i-preserved c =
    let items : List Event = c.self.inside.events.items in
    let i : ℕ = c.loop-i.i in
    let left : c.loop-i.self-inside.events ≡ buffer (drop i items) c.self.inside.events.capacity = c.loop-i.invariant.0 in
    let next : slice_get (drop i items) 0 ≡ Some c.unwrap-event.result =
    ap (λ (ring : Buffer Event). slice_get ring.items 0) (sym left) ∙ sym c.pop_front.ensures.value ∙ c.unwrap-event.ensures in (
      c.pop_front.ensures.items ∙ ap (λ (ring : Buffer Event). buffer (drop 1 ring.items) ring.capacity) left
          ∙ ap (λ (events : List Event). buffer events c.self.inside.events.capacity) (drop-drop 1 i items),
      item_written event_bytes 48 items c.args.out.now c.loop-i.out c.write_event.new.out i c.unwrap-event.result (omega arith) (omega (arith, c.write_event.auto.out)) next c.loop-i.invariant.1 c.write_event.ensures.bytes,
      c.loop-i.invariant.2,
    )
