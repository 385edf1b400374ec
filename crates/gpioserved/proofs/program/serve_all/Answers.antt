use Rattle.std.proofs.Common.{[], sym, ◌∙◌}
use Rattle.gpioserved.proofs.Ending.{at_end, consumes_nothing, front_nothing, no_memory, no_usage, not_at_end, read_fault, whole_nothing, write_fault}
use Rattle.gpioserved.proofs.program.serve_all.Goals as goal

pub returns-in-Ok-clause-served : goal.returns-in-Ok-clause-served
returns-in-Ok-clause-served g c = λ is.
    let said = c.serve.ensures.served (at_end c.serve.result (sym c.status_of.ensures ∙ is)) in
    (said.0, (said.1.0, said.1.1, (said.1.2.0, said.1.2.1)))

pub returns-in-Ok-clause-front : goal.returns-in-Ok-clause-front
returns-in-Ok-clause-front g c = λ other. c.serve.ensures.front (not_at_end c.serve.result (λ is. other (c.status_of.ensures ∙ is)))

pub returns-in-Ok-clause-memory_front : goal.returns-in-Ok-clause-memory_front
returns-in-Ok-clause-memory_front g c = λ is. c.serve.ensures.memory_front (no_memory c.serve.result (sym c.status_of.ensures ∙ is))

pub returns-in-Ok-clause-no_usage : goal.returns-in-Ok-clause-no_usage
returns-in-Ok-clause-no_usage g c = λ is. no_usage c.serve.result (sym c.status_of.ensures ∙ is)

pub returns-in-Ok-clause-read_fault : goal.returns-in-Ok-clause-read_fault
returns-in-Ok-clause-read_fault g c = λ is. c.serve.ensures.read_fault (read_fault c.serve.result (sym c.status_of.ensures ∙ is))

pub returns-in-Ok-clause-read_fault_front : goal.returns-in-Ok-clause-read_fault_front
returns-in-Ok-clause-read_fault_front g c = λ is. c.serve.ensures.read_fault_front (read_fault c.serve.result (sym c.status_of.ensures ∙ is))

pub returns-in-Ok-clause-write_fault : goal.returns-in-Ok-clause-write_fault
returns-in-Ok-clause-write_fault g c = λ is. c.serve.ensures.write_fault (write_fault c.serve.result (sym c.status_of.ensures ∙ is))

pub returns-in-Err-clause-front : goal.returns-in-Err-clause-front
returns-in-Err-clause-front g c = λ other. ([], consumes_nothing (g.S.Source.left c.args.source.now), front_nothing (g.K.Sink.held c.args.sink.now))

pub returns-in-Err-clause-memory_front : goal.returns-in-Err-clause-memory_front
returns-in-Err-clause-memory_front g c = λ is. ([], consumes_nothing (g.S.Source.left c.args.source.now), whole_nothing (g.K.Sink.held c.args.sink.now))
