use Rattle.std.proofs.Common.{◌+◌, ◌-◌, ◌/◌, ◌<◌, ◌++◌, List, ℕ, length, append_assoc, sym, ap, ◌∙◌, arith}
use Rattle.gl_monitor.specs.declared.item.Item.{Item}
use Rattle.gl_monitor.specs.Items.{change_at, changes_from, to_items}
use Rattle.gl_monitor.proofs.Turns.{next_change}
use Rattle.gl_monitor.proofs.item.put_changes.Goals as goal

pub loop-i-preserved : goal.loop-i-preserved
loop-i-preserved c =
    let bytes : List ℕ = c.args.bytes.now in
    let edges : ℕ = c.args.edges in
    let i : ℕ = c.loop-i.i in
    let n : ℕ = length bytes / 288 in
    let more : i < n = omega arith in
    let items : List Item = c.loop-i.items.items in
    let rest : List Item = changes_from edges bytes (i + 1) (n - (i + 1)) in (
      c.loop-i.invariant.0,
      ap (λ (xs : List Item). xs ++ rest) c.in_ok-put_change.ensures.ok
          ∙ append_assoc items (to_items (change_at edges bytes i)) rest
          ∙ ap (λ (xs : List Item). items ++ xs) (sym (next_change edges bytes i n more))
          ∙ c.loop-i.invariant.1,
    )
