use Rattle.std.proofs.Common.{ℕ, List, [], ◌∷◌, ◌++◌, take, refl, sym, ◌∙◌, subst}
use Rattle.gl_served.specs.CutLines.{ServesTo, WroteFront, WroteWhole}
use Rattle.gl_served.proofs.CutLines.{all_sent, err_is, front_further, front_written, lines_served, whole_further, whole_written}
use Rattle.gl_served.proofs.Known.{appends_nothing, consumes_kept, consumes_more, consumes_nothing}
use Rattle.gl_served.proofs.serving.Reading.run.Goals as goal

pub loop-init : goal.loop-init
loop-init g c = (
  refl,
  refl,
  (
    [],
    consumes_nothing (g.S.Source.left c.args.source.now),
    record { frames = []; has = c.requires.new; sent = record { sent = []; wrote = appends_nothing (g.K.Sink.held c.args.sink.now); rest = sym c.requires.rests } },
  ),
  c.requires.rests,
)

pub loop-preserved : goal.loop-preserved
loop-preserved g c = (
  c.in-Ok.ensures.no_fault ∙ c.loop.invariant.0,
  c.in-Ok-take.ensures.no_fault ∙ c.loop.invariant.1,
  (
    c.loop.invariant.2.0 ++ take c.in-Ok.count c.take.new.buf,
    consumes_more (g.S.Source.left c.args.source.now) (g.S.Source.left c.loop.source) (g.S.Source.left c.take.new.self) c.loop.invariant.2.0 (take c.in-Ok.count c.take.new.buf) c.loop.invariant.2.1 c.in-Ok.ensures.taken,
    subst (λ (b : List ℕ). ServesTo (g.K.Sink.held c.args.sink.now) (g.K.Sink.held c.take-in-Ok.new.sink) c.take-in-Ok.new.served c.take-in-Ok.new.self.line.items c.take-in-Ok.new.self.answered c.take-in-Ok.new.self.waiting.items (c.loop.invariant.2.0 ++ b))
        c.split_at.ensures.front (c.in-Ok-take.ensures.served (g.K.Sink.held c.args.sink.now) c.loop.invariant.2.0 c.loop.invariant.2.2),
  ),
  c.in-Ok-take.ensures.rests,
)

pub returns-in-Err-take-clause-front : goal.returns-in-Err-take-clause-front
returns-in-Err-take-clause-front g c = λ other.
    let bytes : List ℕ = c.loop.invariant.2.0 in
    let taken : List ℕ = take c.in-Ok.count c.take.new.buf in (
      bytes ++ taken,
      consumes_more (g.S.Source.left c.args.source.now) (g.S.Source.left c.loop.source) (g.S.Source.left c.take.new.self) bytes taken c.loop.invariant.2.1 c.in-Ok.ensures.taken,
      front_further (g.K.Sink.held c.args.sink.now) (g.K.Sink.held c.take-in-Ok.new.sink) (bytes ++ taken) (10 ∷ [])
          (subst (λ (b : List ℕ). WroteFront (bytes ++ b) (g.K.Sink.held c.args.sink.now) (g.K.Sink.held c.take-in-Ok.new.sink)) c.split_at.ensures.front
          (c.in-Err-take.ensures.front (g.K.Sink.held c.args.sink.now) bytes c.loop.invariant.2.2)),
    )

pub returns-in-Err-clause-front : goal.returns-in-Err-clause-front
returns-in-Err-clause-front g c = λ other.
    let bytes : List ℕ = c.loop.invariant.2.0 in (
      bytes,
      consumes_kept (g.S.Source.left c.args.source.now) (g.S.Source.left c.loop.source) (g.S.Source.left c.take.new.self) bytes c.loop.invariant.2.1 c.in-Err.ensures.kept,
      front_written (g.K.Sink.held c.args.sink.now) (g.K.Sink.held c.loop.sink) c.loop.served c.loop.self.line.items c.loop.self.answered c.loop.self.waiting.items bytes (10 ∷ []) c.loop.invariant.2.2,
    )

pub returns-clause-front : goal.returns-clause-front
returns-clause-front g c = λ other.
    let bytes : List ℕ = c.loop.invariant.2.0 in (
      bytes,
      c.loop.invariant.2.1,
      front_written (g.K.Sink.held c.args.sink.now) (g.K.Sink.held c.loop.sink) c.loop.served c.loop.self.line.items c.loop.self.answered c.loop.self.waiting.items bytes (10 ∷ []) c.loop.invariant.2.2,
    )

pub returns-in-Err-clause-read_fault_front : goal.returns-in-Err-clause-read_fault_front
returns-in-Err-clause-read_fault_front g c = λ is.
    let bytes : List ℕ = c.loop.invariant.2.0 in
    let serves = c.loop.invariant.2.2 in (
      bytes,
      consumes_kept (g.S.Source.left c.args.source.now) (g.S.Source.left c.loop.source) (g.S.Source.left c.take.new.self) bytes c.loop.invariant.2.1 c.in-Err.ensures.kept,
      (
        serves.frames,
        lines_served c.loop.served c.loop.self.line.items c.loop.self.answered bytes serves.frames serves.has,
        all_sent (g.K.Sink.held c.args.sink.now) (g.K.Sink.held c.loop.sink) c.loop.self.waiting.items serves.frames serves.sent c.loop.invariant.3,
      ),
    )

pub returns-in-Err-take-clause-memory_front : goal.returns-in-Err-take-clause-memory_front
returns-in-Err-take-clause-memory_front g c = λ is.
    let bytes : List ℕ = c.loop.invariant.2.0 in
    let taken : List ℕ = take c.in-Ok.count c.take.new.buf in (
      bytes ++ taken,
      consumes_more (g.S.Source.left c.args.source.now) (g.S.Source.left c.loop.source) (g.S.Source.left c.take.new.self) bytes taken c.loop.invariant.2.1 c.in-Ok.ensures.taken,
      whole_further (g.K.Sink.held c.args.sink.now) (g.K.Sink.held c.take-in-Ok.new.sink) (bytes ++ taken) (10 ∷ [])
          (subst (λ (b : List ℕ). WroteWhole (bytes ++ b) (g.K.Sink.held c.args.sink.now) (g.K.Sink.held c.take-in-Ok.new.sink)) c.split_at.ensures.front
          (c.in-Err-take.ensures.whole (g.K.Sink.held c.args.sink.now) bytes c.loop.invariant.2.2 (err_is _ _ is))),
    )

pub returns-clause-memory_front : goal.returns-clause-memory_front
returns-clause-memory_front g c = λ is.
    let bytes : List ℕ = c.loop.invariant.2.0 in (
      bytes,
      c.loop.invariant.2.1,
      whole_written (g.K.Sink.held c.args.sink.now) (g.K.Sink.held c.loop.sink) c.loop.served c.loop.self.line.items c.loop.self.answered c.loop.self.waiting.items bytes (10 ∷ []) c.loop.invariant.2.2 c.loop.invariant.3,
    )
