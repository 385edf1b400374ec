use Rattle.std.proofs.Common.{ℕ, List, subst, take}
use Rattle.std.specs.Io.KnownBytes.{Appends}
use Rattle.gl_served.proofs.CutLines.{then_part, then_sent}
use Rattle.gl_served.proofs.serving.Reading.send.Goals as goal

pub returns-in-Ok-clause-sent : goal.returns-in-Ok-clause-sent
returns-in-Ok-clause-sent g c = λ start frames s.
    then_sent start (g.K.Sink.held c.args.sink.now) c.args.self.now.waiting.items frames s (g.K.Sink.held c.write_all.new.sink) c.clear.new.self.items
    (subst (λ (t : List ℕ). Appends (g.K.Sink.held c.args.sink.now) (g.K.Sink.held c.write_all.new.sink) t) c.deref.ensures.value c.in-Ok.ensures.ok) c.clear.ensures.items

pub returns-in-Err-clause-front : goal.returns-in-Err-clause-front
returns-in-Err-clause-front g c = λ start frames s.
    let part = c.in-Err.ensures.front in
    then_part start (g.K.Sink.held c.args.sink.now) c.args.self.now.waiting.items frames s (g.K.Sink.held c.write_all.new.sink)
    (part.0, subst (λ (t : List ℕ). Appends (g.K.Sink.held c.args.sink.now) (g.K.Sink.held c.write_all.new.sink) (take part.0 t)) c.deref.ensures.value part.1)
