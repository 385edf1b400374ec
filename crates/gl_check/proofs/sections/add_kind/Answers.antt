use Rattle.std.proofs.Common.{◌<◌, ◌≤◌, length, arith}
use Rattle.gl_script.specs.Script.{sections_of}
use Rattle.gl_check.proofs.OfKind.{kind_done, kind_more}
use Rattle.gl_check.proofs.sections.add_kind.Goals as goal

pub loop-section-preserved : goal.loop-section-preserved
loop-section-preserved c =
    let there : c.loop-section.section < length (sections_of c.args.script.now) = (let e = c.sections-section-end.ensures in let l = c.loop-section-test.true in omega arith) in
    kind_more c.args.kind (sections_of c.args.script.now) c.loop-section.section c.loop-section.all.items c.statements_of_kind.result.now c.extend_from_slice.new.self.items c.args.all.now.items there
    c.statements_of_kind.ensures c.in_ok-extend_from_slice.ensures.items c.loop-section.invariant

pub returns-clause-ok : goal.returns-clause-ok
returns-clause-ok c =
    let most : length (sections_of c.args.script.now) ≤ c.loop-section.section = (let e = c.sections-section-end.ensures in let l = c.loop-section-test.false in omega arith) in
    kind_done c.args.kind (sections_of c.args.script.now) c.loop-section.section c.loop-section.all.items c.args.all.now.items most c.loop-section.invariant
