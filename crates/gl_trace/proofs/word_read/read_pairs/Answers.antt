use Rattle.std.proofs.Common.{◌≡◌, ◌∙◌, ◌<◌, length, take, arith, length-take, length-set}
use Rattle.gl_trace.proofs.Pairs.{one_more, too_many}
use Rattle.gl_trace.proofs.word_read.read_pairs.Goals as goal

pub returns-then-count-ge-TEXT_MAX : goal.returns-then-count-ge-TEXT_MAX
returns-then-count-ge-TEXT_MAX c =
    let size : length c.loop-rest.bytes ≡ 127 = c.loop-rest.invariant.1 in
    let front : length (take c.loop-rest.count c.loop-rest.bytes) ≡ 127 = let few = c.loop-rest.invariant.0 in let many = c.if-count-ge-TEXT_MAX.true in grind (arith, length-take) in
    let there : 0 < length c.loop-rest.rest.now = grind (arith, c.loop-rest-test.ensures, c.loop-rest-test.true) in
    too_many c.args.digits.now (take c.loop-rest.count c.loop-rest.bytes) c.loop-rest.rest.now c.loop-rest.invariant.2 front there

pub loop-rest-preserved : goal.loop-rest-preserved
loop-rest-preserved c =
    let size : length c.loop-rest.bytes ≡ 127 = c.loop-rest.invariant.1 in
    let within : c.loop-rest.count < length c.loop-rest.bytes = let few = c.if-count-ge-TEXT_MAX.false in omega arith in
    (omega (arith, c.if-count-ge-TEXT_MAX.false), length-set c.loop-rest.bytes c.loop-rest.count c.in-Some.pair.byte ∙ size, one_more c.args.digits.now c.loop-rest.bytes c.loop-rest.rest.now c.in-Some.pair.rest.now c.loop-rest.count c.in-Some.pair.byte c.loop-rest.invariant.2 c.in-Some.ensures.pairs within)
