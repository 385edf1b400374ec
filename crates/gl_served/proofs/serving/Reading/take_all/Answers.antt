use Rattle.std.proofs.Common.{ℕ, List, [], ◌∷◌, ◌++◌, take, drop, ◌+◌, get_or, refl, sym, ap, ◌∙◌, subst}
use Rattle.std.proofs.lemmas.List.{append_assoc, append-nil, take-append-drop, take_more}
use Rattle.gl_served.specs.CutLines.{ServesTo, WroteFront, WroteWhole}
use Rattle.gl_served.proofs.CutLines.{front_further, whole_further}
use Rattle.gl_served.proofs.serving.Reading.take_all.Goals as goal

pub loop-byte-init : goal.loop-byte-init
loop-byte-init g c = (
  refl,
  λ start before serves.
      subst (λ (b : List ℕ). ServesTo start (g.K.Sink.held c.args.sink.now) c.args.served.now c.args.self.now.line.items c.args.self.now.answered c.args.self.now.waiting.items b) (sym (append-nil before)) serves,
)

pub loop-byte-preserved : goal.loop-byte-preserved
loop-byte-preserved g c = (
  c.in-Ok.ensures.no_fault ∙ c.loop-byte.invariant.0,
  λ start before serves.
      let at : ℕ = c.loop-byte.byte-index in
      let bytes : List ℕ = c.args.bytes.now in
      subst (λ (b : List ℕ). ServesTo start (g.K.Sink.held c.take_byte.new.sink) c.take_byte.new.served c.take_byte.new.self.line.items c.take_byte.new.self.answered c.take_byte.new.self.waiting.items b)
      (append_assoc before (take at bytes) (get_or bytes at 0 ∷ []) ∙ ap (λ (t : List ℕ). before ++ t) (sym (take_more bytes at 0 c.loop-byte-test.true)))
      (c.in-Ok.ensures.served start (before ++ take at bytes) (c.loop-byte.invariant.1 start before serves)),
)

pub returns-in-Err-clause-front : goal.returns-in-Err-clause-front
returns-in-Err-clause-front g c = λ start before serves.
    let at : ℕ = c.loop-byte.byte-index in
    let bytes : List ℕ = c.args.bytes.now in
    let here : WroteFront ((before ++ take at bytes) ++ get_or bytes at 0 ∷ []) start (g.K.Sink.held c.take_byte.new.sink) = c.in-Err.ensures.front start (before ++ take at bytes) (c.loop-byte.invariant.1 start before serves) in
    subst (λ (b : List ℕ). WroteFront b start (g.K.Sink.held c.take_byte.new.sink))
    (ap (λ (t : List ℕ). t ++ drop (at + 1) bytes) (append_assoc before (take at bytes) (get_or bytes at 0 ∷ []) ∙ ap (λ (t : List ℕ). before ++ t) (sym (take_more bytes at 0 c.loop-byte-test.true)))
    ∙ append_assoc before (take (at + 1) bytes) (drop (at + 1) bytes) ∙ ap (λ (t : List ℕ). before ++ t) (take-append-drop (at + 1) bytes))
    (front_further start (g.K.Sink.held c.take_byte.new.sink) ((before ++ take at bytes) ++ get_or bytes at 0 ∷ []) (drop (at + 1) bytes) here)

pub returns-in-Err-clause-whole : goal.returns-in-Err-clause-whole
returns-in-Err-clause-whole g c = λ start before serves is.
    let at : ℕ = c.loop-byte.byte-index in
    let bytes : List ℕ = c.args.bytes.now in
    let here : WroteWhole ((before ++ take at bytes) ++ get_or bytes at 0 ∷ []) start (g.K.Sink.held c.take_byte.new.sink) = c.in-Err.ensures.whole start (before ++ take at bytes) (c.loop-byte.invariant.1 start before serves) is in
    subst (λ (b : List ℕ). WroteWhole b start (g.K.Sink.held c.take_byte.new.sink))
    (ap (λ (t : List ℕ). t ++ drop (at + 1) bytes) (append_assoc before (take at bytes) (get_or bytes at 0 ∷ []) ∙ ap (λ (t : List ℕ). before ++ t) (sym (take_more bytes at 0 c.loop-byte-test.true)))
    ∙ append_assoc before (take (at + 1) bytes) (drop (at + 1) bytes) ∙ ap (λ (t : List ℕ). before ++ t) (take-append-drop (at + 1) bytes))
    (whole_further start (g.K.Sink.held c.take_byte.new.sink) ((before ++ take at bytes) ++ get_or bytes at 0 ∷ []) (drop (at + 1) bytes) here)
