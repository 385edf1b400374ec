use Rattle.std.proofs.Common.{◌≡◌, length, true, sym, ◌∙◌, subst, arith}
use Rattle.gl_check.specs.Misfit.{all_ended}
use Rattle.gl_check.proofs.Moves.{all_more, ended_as, not_all}
use Rattle.gl_check.proofs.judge.all_ended.Goals as goal

pub returns-then-not-is_ended : goal.returns-then-not-is_ended
returns-then-not-is_ended c = λ sections others seats.
    not_all c.loop-i.i _ others c.loop-i-test.true
    (ended_as sections c.args.seats.now others c.loop-i.i c.index-seats-i.result c.is_ended.result c.loop-i-test.true c.index-seats-i.is seats c.is_ended.ensures ∙ c.if-not-is_ended.true)

pub loop-i-preserved : goal.loop-i-preserved
loop-i-preserved c = λ sections others seats.
    all_more c.loop-i.i others (c.loop-i.invariant sections others seats)
    (ended_as sections c.args.seats.now others c.loop-i.i c.index-seats-i.result c.is_ended.result c.loop-i-test.true c.index-seats-i.is seats c.is_ended.ensures ∙ c.if-not-is_ended.false)

pub returns : goal.returns
returns c = λ sections others seats.
    let same : c.loop-i.i ≡ length c.args.seats.now = (let end = c.loop-i.auto.i-end in let past = c.loop-i-test.false in omega arith) in
    sym (subst (λ n. all_ended n others ≡ true) same (c.loop-i.invariant sections others seats))
