use Rattle.std.proofs.Common.{◌++◌, ℕ, List, subst, sym}
use Rattle.gl_served.specs.CutLines.{Sent}
use Rattle.gl_served.proofs.CutLines.{end_is, part_further, sent_more}
use Rattle.gl_served.proofs.serving.Reading.put.Goals as goal

pub returns-in-Ok-clause-sent : goal.returns-in-Ok-clause-sent
returns-in-Ok-clause-sent g c = λ start frames s.
    c.send_many.ensures.sent start (frames ++ c.args.frame.now)
    (sent_more start (g.K.Sink.held c.args.sink.now) c.args.self.now.waiting.items frames s c.args.frame.now c.extend_from_slice.new.self.items c.in-Ok.ensures.items)

pub returns-in-Ok-clause-front : goal.returns-in-Ok-clause-front
returns-in-Ok-clause-front g c = λ start frames s.
    c.send_many.ensures.front start (frames ++ c.args.frame.now)
    (sent_more start (g.K.Sink.held c.args.sink.now) c.args.self.now.waiting.items frames s c.args.frame.now c.extend_from_slice.new.self.items c.in-Ok.ensures.items)

pub returns-in-Err-clause-front : goal.returns-in-Err-clause-front
returns-in-Err-clause-front g c = λ start frames s.
    part_further start (g.K.Sink.held c.leave.new.sink) frames c.args.frame.now
    (c.leave.ensures.front start frames (subst (λ (w : List ℕ). Sent start (g.K.Sink.held c.args.sink.now) w frames) (sym c.in-Err.ensures.items) s))

pub returns-in-Err-clause-whole : goal.returns-in-Err-clause-whole
returns-in-Err-clause-whole g c = λ start frames s is.
    c.leave.ensures.whole start frames (subst (λ (w : List ℕ). Sent start (g.K.Sink.held c.args.sink.now) w frames) (sym c.in-Err.ensures.items) s) (end_is _ _ is)
