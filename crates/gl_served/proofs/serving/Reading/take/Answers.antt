use Rattle.std.proofs.Common.{◌++◌, ℕ, List, Option}
use Rattle.std.proofs.lemmas.Result.{on_err_weaker}
use Rattle.gl_served.specs.CutLines.{WroteFront, WrotePart}
use Rattle.gl_served.proofs.CutLines.{front_at, serves_on}
use Rattle.gl_served.proofs.serving.Reading.take.Goals as goal

pub returns-in-Ok-clause-served : goal.returns-in-Ok-clause-served
returns-in-Ok-clause-served g c = λ start before serves.
    let then = c.in-Ok.ensures.served start before serves in
    serves_on c.take_all.new.self.line.items c.send.new.self.line.items c.take_all.new.self.answered c.send.new.self.answered c.send.ensures.line c.send.ensures.answered c.send.result start (g.K.Sink.held c.send.new.sink) c.take_all.new.served
    c.send.new.self.waiting.items (before ++ c.args.bytes.now) then.frames then.has (c.send.ensures.sent start then.frames then.sent)

pub returns-in-Ok-clause-front : goal.returns-in-Ok-clause-front
returns-in-Ok-clause-front g c = λ start before serves.
    let then = c.in-Ok.ensures.served start before serves in
    let now : Option (List ℕ) = g.K.Sink.held c.send.new.sink in
    let and_has : WrotePart then.frames start now → WroteFront (before ++ c.args.bytes.now) start now =
    front_at c.take_all.new.served c.take_all.new.self.line.items c.take_all.new.self.answered (before ++ c.args.bytes.now) then.frames then.has start now in
    on_err_weaker c.send.result and_has (c.send.ensures.front start then.frames then.sent)

pub returns-in-Ok-clause-whole : goal.returns-in-Ok-clause-whole
returns-in-Ok-clause-whole g c = λ start before serves is. absurd (c.send.ensures.no_memory is)
