use Rattle.std.proofs.Common.{◌<◌, ◌+◌, ◌-◌, length, drop, get_or, ap, ◌∙◌, arith}
use Rattle.gl_script.specs.Script.{sections_of}
use Rattle.gl_check.specs.Many.{actor_sections, no_section}
use Rattle.gl_check.proofs.WholeSections.{none_counted, one_counted, section_elsewhere, section_found, section_later}
use Rattle.gl_check.proofs.sections.actor_statements.Goals.{then-is_actor_head+else-missing-eq0, else-is_actor_head}
use Rattle.gl_check.proofs.sections.actor_statements.Goals as goal

pub returns-in-Some : goal.returns-in-Some
returns-in-Some c =
    let there : c.loop-section.section < length (sections_of c.args.script.now) = c.in-Some.ensures.0 in
    section_found _ _ _ _ there c.is_actor_head.ensures c.head.ensures c.loop-section.missing c.args.number c.in-Some.statements.now c.if-is_actor_head.true c.if-missing-eq0.true c.loop-section.invariant.same c.in-Some.ensures.1

pub loop-section-preserved : goal.loop-section-preserved
loop-section-preserved c =
    let there : c.loop-section.section < length (sections_of c.args.script.now) = (let e = c.sections-section-end.ensures in let l = c.loop-section-test.true in omega arith) in
    let i = c.loop-section.invariant in let some = i.some_missing in let behind = i.behind in
    elim c.if-is_actor_head.branch [
      | then-is_actor_head+else-missing-eq0 w ↦
          let counted = one_counted _ _ _ _ there c.is_actor_head.ensures c.head.ensures w.if-is_actor_head.true in
          let more = w.if-missing-eq0.false in let is = w.missing-is in record {
            some_missing = omega arith;
            behind = omega arith;
            same = section_later _ _ _ _ there c.is_actor_head.ensures c.head.ensures c.loop-section.missing c.if-is_actor_head.missing c.args.number w.if-is_actor_head.true (omega arith) is i.same;
          }
      | else-is_actor_head w ↦
          let counted = none_counted _ _ _ _ there c.is_actor_head.ensures c.head.ensures w.if-is_actor_head.false in let is = w.missing-is in record {
            some_missing = omega arith;
            behind = omega arith;
            same = ap (λ k. get_or (actor_sections (drop (c.loop-section.section + 1) (sections_of c.args.script.now))) (k - 1) no_section) is
                ∙ section_elsewhere _ _ _ _ there c.is_actor_head.ensures c.head.ensures c.loop-section.missing c.args.number w.if-is_actor_head.false i.same;
          }
    ]
