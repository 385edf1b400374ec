use Rattle.std.proofs.Common.{◌<◌, length, arith}
use Rattle.gl_script.specs.Script.{sections_of}
use Rattle.gl_session.proofs.Figures.{counted_on}
use Rattle.gl_session.proofs.load.count_statements.Goals as goal

pub overflow_add-count : goal.overflow_add-count
overflow_add-count c =
    let there : c.loop-section.section < length (sections_of c.args.script.now) = (let e = c.sections-section-end.ensures in let l = c.loop-section-test.true in omega arith) in
    let on = counted_on (sections_of c.args.script.now) c.loop-section.section there in
    let one = c.count_in_section-count.ensures in let i = c.loop-section.invariant in let few = c.requires.few in omega arith

pub loop-section-preserved : goal.loop-section-preserved
loop-section-preserved c =
    let there : c.loop-section.section < length (sections_of c.args.script.now) = (let e = c.sections-section-end.ensures in let l = c.loop-section-test.true in omega arith) in
    let on = counted_on (sections_of c.args.script.now) c.loop-section.section there in
    let one = c.count_in_section-count.ensures in let i = c.loop-section.invariant in omega arith
