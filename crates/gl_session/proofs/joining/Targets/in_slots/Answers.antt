use Rattle.std.proofs.Common.{rules, ◌≡◌, ◌++◌, Option, ap, sym, ◌∙◌, arith, length}
use Rattle.gl_asking.specs.Rows.{file_of}
use Rattle.gl_asking.specs.declared.kinds.FileRow.{FileRow}
use Rattle.gl_check.specs.Joining.{target_in}
use Rattle.gl_session.proofs.Targets.{slot_more, slot_past}
use Rattle.gl_session.proofs.joining.Targets.in_slots.Goals.{else-n-count, then-n-count}
use Rattle.gl_session.proofs.joining.Targets.in_slots.Goals as goal

pub loop-n-preserved : goal.loop-n-preserved
loop-n-preserved c =
    let four : length c.args.slots.now ≡ 4 = search rules in
    elim c.if-n-count.branch [
      | then-n-count w ↦ (
        w.targets-is ∙ w.add.ensures.added ∙ (λ i. c.loop-n.invariant.0 i ++ target_in ((ap (λ (r : Option FileRow). file_of r) w.row.ensures ∙ w.in_slot.ensures.found) i))
            ∙ sym (slot_more c.args.slots.now c.args.rows.now c.args.count c.loop-n.n 0 (omega (arith, c.loop-n-test.true)) (omega (arith, w.if-n-count))),
        (let one = w.add.ensures.one in let before = c.loop-n.invariant.1 in let same = ap (λ l. length l) w.targets-is in omega arith),
      )
      | else-n-count w ↦ (
        w.targets-is ∙ c.loop-n.invariant.0 ∙ sym (slot_past c.args.slots.now c.args.rows.now c.args.count c.loop-n.n (omega (arith, w.if-n-count))),
        (let before = c.loop-n.invariant.1 in let same = ap (λ l. length l) w.targets-is in omega arith),
      )
    ]
