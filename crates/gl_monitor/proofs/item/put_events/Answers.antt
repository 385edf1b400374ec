use Rattle.std.proofs.Common.{◌≡◌, ◌+◌, ◌-◌, ◌*◌, ◌/◌, ◌<◌, ◌++◌, ◌∷◌, [], List, ℕ, length, append_assoc, sym, ap, ◌∙◌, arith}
use Rattle.gl_uapi.specs.Fields.{stretch}
use Rattle.gl_uapi.specs.LineEvent.{event_in}
use Rattle.gl_monitor.specs.declared.item.Item.{Item}
use Rattle.gl_monitor.specs.Items.{event_item, events_from}
use Rattle.gl_monitor.proofs.Turns.{next_event}
use Rattle.gl_monitor.proofs.item.put_events.Goals as goal

pub loop-i-preserved : goal.loop-i-preserved
loop-i-preserved c =
    let bytes : List ℕ = c.args.bytes.now in
    let i : ℕ = c.loop-i.i in
    let n : ℕ = length bytes / 48 in
    let more : i < n = omega (arith, c.loop-i-test.true, c.loop-i.invariant.0) in
    let items : List Item = c.loop-i.items.items in
    let rest : List Item = events_from bytes (i + 1) (n - (i + 1)) in
    let here : Item = event_item (event_in (stretch (48 * i) 48 bytes)) in
    let item : c.event_item.result ≡ here =
    c.event_item.ensures ∙ ap event_item (c.get.ensures ∙ ap (λ (bs : List ℕ). event_in (stretch (48 * i) 48 bs)) c.of-events.ensures) in (
      c.loop-i.invariant.0,
      ap (λ (xs : List Item). xs ++ rest) (c.in_ok-push.ensures.items ∙ ap (λ x. items ++ x ∷ []) item)
          ∙ append_assoc items (here ∷ []) rest
          ∙ ap (λ (xs : List Item). items ++ xs) (sym (next_event bytes i n more))
          ∙ c.loop-i.invariant.1,
    )
