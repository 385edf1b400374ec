use Rattle.std.proofs.Common.{ℕ, ◌∙◌, arith, length-set}
use Rattle.std.proofs.lemmas.List.{length-replicate}
use Rattle.std.specs.Prelude.{replicate}
use Rattle.gl_trace.proofs.Guessing.{guess_more, zeros_stay}
use Rattle.gl_trace.proofs.buffer_read.whole_guess.Goals as goal

pub loop-i-preserved : goal.loop-i-preserved
loop-i-preserved c =
    let next = c.next_after-next in
    let few = c.requires in
    let within = c.loop-i-test.true in (
      length-set c.loop-i.bytes c.loop-i.i next.result.byte ∙ c.loop-i.invariant.0,
      guess_more c.loop-i.bytes c.args.count c.loop-i.i c.loop-i.zeros next.result.byte next.result.zeros c.args.text.now c.loop-i.rest.now next.result.rest.now c.loop-i.invariant.0 few within c.loop-i.invariant.1 next.ensures.byte next.ensures.zeros next.ensures.rest,
      zeros_stay c.loop-i.bytes (replicate 592 0) c.loop-i.i next.result.byte c.loop-i.invariant.0 (length-replicate {A = ℕ} 592 0) (omega (arith, within, few)) c.loop-i.invariant.2,
    )
