use Rattle.std.proofs.Common.{◌≡◌, ℕ, Vec, Global}
use Rattle.std.proofs.lemmas.Result.{IfOk-weaker}
use Rattle.gl_served.specs.Frames.{frame_of}
use Rattle.gl_served.proofs.CutLines.{framed, framed_last}
use Rattle.gl_served.proofs.Running.{keeps_can}
use Rattle.gl_served.proofs.serving.Reading.frame.Goals as goal

pub returns-clause-framed : goal.returns-clause-framed
returns-clause-framed c = λ before written has.
    IfOk-weaker c.frame_of.result (λ (frame : Vec ℕ Global). frame.items ≡ frame_of c.count_up-self.result c.in_ok-answer.answer c.deref-2.result.now) _
    (λ frame is.
    framed c.args.served.now c.args.self.now.line.items c.args.self.now.answered before written has c.in_ok-answer.answer c.new-text.result.items c.answer.new.out.items c.deref-2.result.now c.deref.result.now
    c.answer.new.self c.count_up-self.result frame.items c.new-text.ensures.items c.count_up-self.ensures c.deref.ensures.value c.deref-2.ensures.value is (c.in_ok-answer.ensures.answered has.said (keeps_can c.args.served.now has.said c.deref.result.now has.keeps))
    c.clear.new.self.items c.clear.ensures.items)
    c.frame_of.ensures.ok

pub returns-clause-last : goal.returns-clause-last
returns-clause-last c = λ before written has some.
    IfOk-weaker c.frame_of.result (λ (frame : Vec ℕ Global). frame.items ≡ frame_of c.count_up-self.result c.in_ok-answer.answer c.deref-2.result.now) _
    (λ frame is.
    framed_last c.args.served.now c.args.self.now.line.items c.args.self.now.answered before written has c.in_ok-answer.answer c.new-text.result.items c.answer.new.out.items c.deref-2.result.now c.deref.result.now
    c.answer.new.self c.count_up-self.result frame.items c.new-text.ensures.items c.count_up-self.ensures c.deref.ensures.value c.deref-2.ensures.value is (c.in_ok-answer.ensures.answered has.said (keeps_can c.args.served.now has.said c.deref.result.now has.keeps))
    some)
    c.frame_of.ensures.ok
