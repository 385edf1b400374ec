use Rattle.gl_served.proofs.CutLines.{all_sent, part_sent}
use Rattle.gl_served.proofs.serving.Reading.leave.Goals as goal

pub returns-in-Ok-clause-front : goal.returns-in-Ok-clause-front
returns-in-Ok-clause-front g c = λ start frames s.
    part_sent start (g.K.Sink.held c.send.new.sink) c.send.new.self.waiting.items frames (c.in-Ok.ensures.sent start frames s)

pub returns-in-Ok-clause-whole : goal.returns-in-Ok-clause-whole
returns-in-Ok-clause-whole g c = λ start frames s is.
    all_sent start (g.K.Sink.held c.send.new.sink) c.send.new.self.waiting.items frames (c.in-Ok.ensures.sent start frames s) c.in-Ok.ensures.rests
