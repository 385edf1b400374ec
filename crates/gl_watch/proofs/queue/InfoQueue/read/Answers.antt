use Rattle.std.proofs.Common.{ℕ, ◌≡◌, List, Some, drop, ap, sym, ◌∙◌, arith}
use Rattle.std.specs.List.{slice_get}
use Rattle.std.proofs.lemmas.List.{drop-drop}
use Rattle.circular_buffer.specs.Buffer.{Buffer, buffer}
use Rattle.gl_uapi.specs.declared.info_changes.Changed.{Changed}
use Rattle.gl_uapi.proofs.Moving.{item_written}
use Rattle.gl_uapi.specs.InfoChanged.{changed_bytes}
use Rattle.gl_watch.proofs.queue.InfoQueue.read.Goals as goal

pub loop-i-preserved : goal.loop-i-preserved
loop-i-preserved c =
    let items : List Changed = c.self.inside.changes.items in
    let i : ℕ = c.loop-i.i in
    let left : c.loop-i.self-inside.changes ≡ buffer (drop i items) c.self.inside.changes.capacity = c.loop-i.invariant.0 in
    let next : slice_get (drop i items) 0 ≡ Some c.unwrap-changed.result =
    ap (λ (queue : Buffer Changed). slice_get queue.items 0) (sym left) ∙ sym c.pop_front.ensures.value ∙ c.unwrap-changed.ensures in (
      c.pop_front.ensures.items ∙ ap (λ (queue : Buffer Changed). buffer (drop 1 queue.items) queue.capacity) left
          ∙ ap (λ (changes : List Changed). buffer changes c.self.inside.changes.capacity) (drop-drop 1 i items),
      item_written changed_bytes 288 items c.args.out.now c.loop-i.out c.write_info_changed.new.out i c.unwrap-changed.result (omega arith) (omega (arith, c.write_info_changed.auto.out)) next c.loop-i.invariant.1 c.write_info_changed.ensures.bytes,
      c.loop-i.invariant.2,
    )
