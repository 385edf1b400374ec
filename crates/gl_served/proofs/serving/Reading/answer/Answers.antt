use Rattle.std.proofs.Common.{◌++◌, ◌∷◌, [], ℕ, List, Option, sym, subst}
use Rattle.std.proofs.lemmas.Result.{on_err_weaker, on_ok_weaker}
use Rattle.gl_served.specs.CutLines.{HasServed, HasServedAll, Sent, WroteFront, WrotePart}
use Rattle.gl_served.proofs.CutLines.{end_is, front_at, front_of, serves_on, whole_of}
use Rattle.gl_served.proofs.serving.Reading.answer.Goals as goal

pub returns-in-Ok-clause-served : goal.returns-in-Ok-clause-served
returns-in-Ok-clause-served g c = λ start before serves.
    serves_on c.frame.new.self.line.items c.put.new.self.line.items c.frame.new.self.answered c.put.new.self.answered c.put.ensures.line c.put.ensures.answered c.put.result start (g.K.Sink.held c.put.new.sink) c.frame.new.served
    c.put.new.self.waiting.items (before ++ 10 ∷ []) (serves.frames ++ c.deref.result.now)
    (subst (λ (f : List ℕ). HasServed c.frame.new.served c.frame.new.self.line.items c.frame.new.self.answered (before ++ 10 ∷ []) (serves.frames ++ f)) (sym c.deref.ensures.value) (c.in-Ok.ensures.framed before serves.frames serves.has))
    (c.put.ensures.sent start serves.frames (subst (λ (w : List ℕ). Sent start (g.K.Sink.held c.args.sink.now) w serves.frames) (sym c.in-Ok.ensures.waits) serves.sent))

pub returns-in-Ok-clause-last : goal.returns-in-Ok-clause-last
returns-in-Ok-clause-last g c = λ start before serves some.
    let last = c.in-Ok.ensures.last before serves.frames serves.has some in
    let frames : List ℕ = serves.frames ++ c.deref.result.now in
    let all : HasServedAll before frames last.0 = subst (λ (f : List ℕ). HasServedAll before (serves.frames ++ f) last.0) (sym c.deref.ensures.value) last.1 in
    on_ok_weaker c.put.result (λ (s : Sent start (g.K.Sink.held c.put.new.sink) c.put.new.self.waiting.items frames). (last.0, frames, all, s, last.2))
    (c.put.ensures.sent start serves.frames (subst (λ (w : List ℕ). Sent start (g.K.Sink.held c.args.sink.now) w serves.frames) (sym c.in-Ok.ensures.waits) serves.sent))

pub returns-in-Ok-clause-front : goal.returns-in-Ok-clause-front
returns-in-Ok-clause-front g c = λ start before serves.
    let now : Option (List ℕ) = g.K.Sink.held c.put.new.sink in
    let frames : List ℕ = serves.frames ++ c.deref.result.now in
    let has : HasServed c.frame.new.served c.frame.new.self.line.items c.frame.new.self.answered (before ++ 10 ∷ []) frames =
    subst (λ (f : List ℕ). HasServed c.frame.new.served c.frame.new.self.line.items c.frame.new.self.answered (before ++ 10 ∷ []) (serves.frames ++ f)) (sym c.deref.ensures.value) (c.in-Ok.ensures.framed before serves.frames serves.has) in
    let and_has : WrotePart frames start now → WroteFront (before ++ 10 ∷ []) start now = front_at c.frame.new.served c.frame.new.self.line.items c.frame.new.self.answered (before ++ 10 ∷ []) frames has start now in
    on_err_weaker c.put.result and_has
    (c.put.ensures.front start serves.frames (subst (λ (w : List ℕ). Sent start (g.K.Sink.held c.args.sink.now) w serves.frames) (sym c.in-Ok.ensures.waits) serves.sent))

pub returns-in-Ok-clause-whole : goal.returns-in-Ok-clause-whole
returns-in-Ok-clause-whole g c = λ start before serves is.
    whole_of c.args.served.now c.args.self.now.line.items c.args.self.now.answered before serves.frames serves.has start (g.K.Sink.held c.put.new.sink) (10 ∷ [])
    (c.put.ensures.whole start serves.frames (subst (λ (w : List ℕ). Sent start (g.K.Sink.held c.args.sink.now) w serves.frames) (sym c.in-Ok.ensures.waits) serves.sent) is)

pub returns-in-Err-clause-front : goal.returns-in-Err-clause-front
returns-in-Err-clause-front g c = λ start before serves.
    front_of c.args.served.now c.args.self.now.line.items c.args.self.now.answered before serves.frames serves.has start (g.K.Sink.held c.leave.new.sink) (10 ∷ [])
    (c.leave.ensures.front start serves.frames (subst (λ (w : List ℕ). Sent start (g.K.Sink.held c.args.sink.now) w serves.frames) (sym c.in-Err.ensures.waits) serves.sent))

pub returns-in-Err-clause-whole : goal.returns-in-Err-clause-whole
returns-in-Err-clause-whole g c = λ start before serves is.
    whole_of c.args.served.now c.args.self.now.line.items c.args.self.now.answered before serves.frames serves.has start (g.K.Sink.held c.leave.new.sink) (10 ∷ [])
    (c.leave.ensures.whole start serves.frames (subst (λ (w : List ℕ). Sent start (g.K.Sink.held c.args.sink.now) w serves.frames) (sym c.in-Err.ensures.waits) serves.sent) (end_is _ _ is))
