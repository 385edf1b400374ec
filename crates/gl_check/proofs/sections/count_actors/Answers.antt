use Rattle.std.proofs.Common.{◌<◌, length, arith}
use Rattle.gl_script.specs.Script.{sections_of}
use Rattle.gl_check.proofs.WholeSections.{actors_few, none_counted, one_counted}
use Rattle.gl_check.proofs.sections.count_actors.Goals.{then-is_actor_head, else-is_actor_head}
use Rattle.gl_check.proofs.sections.count_actors.Goals as goal

pub overflow_add-count : goal.overflow_add-count
overflow_add-count c =
    let there : c.loop-section.section < length (sections_of c.args.script.now) = (let e = c.sections-section-end.ensures in let l = c.loop-section-test.true in omega arith) in
    let counted = one_counted _ _ _ _ there c.is_actor_head.ensures c.head.ensures c.if-is_actor_head.true in
    let few = actors_few (sections_of c.args.script.now) in let i = c.loop-section.invariant in let e = c.sections-section-end.ensures in let r = c.sections-section-end.type_inv in omega arith

pub loop-section-preserved : goal.loop-section-preserved
loop-section-preserved c =
    let there : c.loop-section.section < length (sections_of c.args.script.now) = (let e = c.sections-section-end.ensures in let l = c.loop-section-test.true in omega arith) in
    let i = c.loop-section.invariant in
    elim c.if-is_actor_head.branch [
      | then-is_actor_head w ↦ let counted = one_counted _ _ _ _ there c.is_actor_head.ensures c.head.ensures w.if-is_actor_head.true in let is = w.count-is in omega arith
      | else-is_actor_head w ↦ let counted = none_counted _ _ _ _ there c.is_actor_head.ensures c.head.ensures w.if-is_actor_head.false in let is = w.count-is in omega arith
    ]
