use Rattle.std.proofs.Common.{◌≡◌, ◌++◌, ◌∷◌, [], ℕ, List, Option}
use Rattle.std.proofs.lemmas.Result.{on_err_weaker}
use Rattle.gl_served.specs.CutLines.{Sent, WroteFront, WrotePart}
use Rattle.gl_served.proofs.CutLines.{all_sent, front_at, on_ok_both, whole_at}
use Rattle.gl_served.proofs.serving.Reading.answer_last.Goals as goal

pub returns-in-Ok-clause-last : goal.returns-in-Ok-clause-last
returns-in-Ok-clause-last g c = λ start before serves.
    let last = c.in-Ok.ensures.last start before serves c.requires.some in
    let now : Option (List ℕ) = g.K.Sink.held c.send.new.sink in
    let waiting : List ℕ = c.send.new.self.waiting.items in
    on_ok_both c.send.result
    (λ (s : Sent start now waiting last.1) (none : waiting ≡ []). (last.0, (last.1, last.2, all_sent start now waiting last.1 s none), last.4))
    (c.send.ensures.sent start last.1 last.3) c.send.ensures.rests

pub returns-in-Ok-clause-written : goal.returns-in-Ok-clause-written
returns-in-Ok-clause-written g c = λ start before serves.
    let then = c.in-Ok.ensures.served start before serves in
    let now : Option (List ℕ) = g.K.Sink.held c.send.new.sink in
    let waiting : List ℕ = c.send.new.self.waiting.items in
    on_ok_both c.send.result
    (λ (s : Sent start now waiting then.frames) (none : waiting ≡ []).
    whole_at c.answer.new.served c.answer.new.self.line.items c.answer.new.self.answered (before ++ 10 ∷ []) then.frames then.has start now (all_sent start now waiting then.frames s none))
    (c.send.ensures.sent start then.frames then.sent) c.send.ensures.rests

pub returns-in-Ok-clause-front : goal.returns-in-Ok-clause-front
returns-in-Ok-clause-front g c = λ start before serves.
    let then = c.in-Ok.ensures.served start before serves in
    let now : Option (List ℕ) = g.K.Sink.held c.send.new.sink in
    let and_has : WrotePart then.frames start now → WroteFront (before ++ 10 ∷ []) start now =
    front_at c.answer.new.served c.answer.new.self.line.items c.answer.new.self.answered (before ++ 10 ∷ []) then.frames then.has start now in
    on_err_weaker c.send.result and_has (c.send.ensures.front start then.frames then.sent)

pub returns-in-Ok-clause-whole : goal.returns-in-Ok-clause-whole
returns-in-Ok-clause-whole g c = λ start before serves is. absurd (c.send.ensures.no_memory is)
