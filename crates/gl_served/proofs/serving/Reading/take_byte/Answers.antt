use Rattle.std.proofs.Common.{ℕ, List, [], ◌∷◌, ◌++◌, OnErr, OnOk, subst, sym}
use Rattle.gl_served.specs.CutLines.{Sent, ServesTo, WroteFront, WroteWhole}
use Rattle.gl_served.proofs.CutLines.{end_is, front_of, whole_of}
use Rattle.gl_served.proofs.serving.Reading.take_byte.Goals as goal

pub returns-then-byte-eq10-clause-served : goal.returns-then-byte-eq10-clause-served
returns-then-byte-eq10-clause-served g c = λ start before serves.
    subst
    (λ (b : ℕ). OnOk c.answer.result (ServesTo start (g.K.Sink.held c.answer.new.sink) c.answer.new.served c.answer.new.self.line.items c.answer.new.self.answered c.answer.new.self.waiting.items (before ++ b ∷ [])))
    (sym c.if-byte-eq10.true) (c.answer.ensures.served start before serves)

pub returns-in-Ok-clause-served : goal.returns-in-Ok-clause-served
returns-in-Ok-clause-served g c = λ start before serves. record {
  frames = serves.frames;
  has = c.in-Ok.ensures.added c.args.served.now before serves.frames serves.has;
  sent = subst (λ (w : List ℕ). Sent start (g.K.Sink.held c.args.sink.now) w serves.frames) (sym c.in-Ok.ensures.waits) serves.sent;
}

pub returns-then-byte-eq10-clause-front : goal.returns-then-byte-eq10-clause-front
returns-then-byte-eq10-clause-front g c = λ start before serves.
    subst (λ (b : ℕ). OnErr c.answer.result (WroteFront (before ++ b ∷ []) start (g.K.Sink.held c.answer.new.sink))) (sym c.if-byte-eq10.true) (c.answer.ensures.front start before serves)

pub returns-then-byte-eq10-clause-whole : goal.returns-then-byte-eq10-clause-whole
returns-then-byte-eq10-clause-whole g c = λ start before serves is.
    subst (λ (b : ℕ). WroteWhole (before ++ b ∷ []) start (g.K.Sink.held c.answer.new.sink)) (sym c.if-byte-eq10.true) (c.answer.ensures.whole start before serves is)

pub returns-in-Err-clause-front : goal.returns-in-Err-clause-front
returns-in-Err-clause-front g c = λ start before serves.
    front_of c.args.served.now c.args.self.now.line.items c.args.self.now.answered before serves.frames serves.has start (g.K.Sink.held c.leave.new.sink) (c.args.byte ∷ [])
    (c.leave.ensures.front start serves.frames (subst (λ (w : List ℕ). Sent start (g.K.Sink.held c.args.sink.now) w serves.frames) (sym c.in-Err.ensures.waits) serves.sent))

pub returns-in-Err-clause-whole : goal.returns-in-Err-clause-whole
returns-in-Err-clause-whole g c = λ start before serves is.
    whole_of c.args.served.now c.args.self.now.line.items c.args.self.now.answered before serves.frames serves.has start (g.K.Sink.held c.leave.new.sink) (c.args.byte ∷ [])
    (c.leave.ensures.whole start serves.frames (subst (λ (w : List ℕ). Sent start (g.K.Sink.held c.args.sink.now) w serves.frames) (sym c.in-Err.ensures.waits) serves.sent) (end_is _ _ is))
