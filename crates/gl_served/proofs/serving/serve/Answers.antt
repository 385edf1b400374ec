use Rattle.std.proofs.Common.{[]}
use Rattle.gl_served.proofs.CutLines.{front_nothing, new_served, whole_nothing}
use Rattle.gl_served.proofs.Known.{consumes_nothing}
use Rattle.gl_served.proofs.serving.serve.Goals as goal

pub run-requires : goal.run-requires
run-requires g c = record { new = new_served c.args.served.now c.in-Ok.reading.line.items c.in-Ok.reading.answered c.in-Ok.ensures.ok.0 c.in-Ok.ensures.ok.1 c.requires.new; rests = c.in-Ok.ensures.ok.2 }

pub returns-in-Err-clause-front : goal.returns-in-Err-clause-front
returns-in-Err-clause-front g c = λ other. ([], consumes_nothing (g.S.Source.left c.args.source.now), front_nothing (g.K.Sink.held c.args.sink.now))

pub returns-in-Err-clause-memory_front : goal.returns-in-Err-clause-memory_front
returns-in-Err-clause-memory_front g c = λ is. ([], consumes_nothing (g.S.Source.left c.args.source.now), whole_nothing (g.K.Sink.held c.args.sink.now))
