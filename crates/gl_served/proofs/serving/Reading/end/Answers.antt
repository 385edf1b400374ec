use Rattle.std.proofs.Common.{◌≡◌, ◌++◌, ◌∷◌, [], length, rules, sym, ◌∙◌, vec_len}
use Rattle.gl_served.proofs.CutLines.{all_sent, err_is, front_written, no_items, nothing_under_way, some_items, whole_front, whole_written}
use Rattle.gl_served.proofs.serving.Reading.end.Goals as goal

pub returns-then-is_empty-clause-served : goal.returns-then-is_empty-clause-served
returns-then-is_empty-clause-served g c = λ start before serves at_end.
    let size : length c.args.self.now.line.items ≡ vec_len c.args.self.now.line = search rules in (
      serves.has.said,
      (
        serves.frames,
        nothing_under_way c.args.served.now c.args.self.now.line.items c.args.self.now.answered before serves.frames serves.has
            (no_items c.args.self.now.line.items (vec_len c.args.self.now.line) size (sym c.is_empty.ensures ∙ c.if-is_empty.true)),
        all_sent start (g.K.Sink.held c.args.sink.now) c.args.self.now.waiting.items serves.frames serves.sent c.requires.rests,
      ),
      c.close.ensures.ended serves.has.said serves.has.keeps at_end,
    )

pub returns-then-is_empty-clause-front : goal.returns-then-is_empty-clause-front
returns-then-is_empty-clause-front g c = λ start before serves other.
    front_written start (g.K.Sink.held c.args.sink.now) c.args.served.now c.args.self.now.line.items c.args.self.now.answered c.args.self.now.waiting.items before (10 ∷ []) serves

pub returns-then-is_empty-clause-whole : goal.returns-then-is_empty-clause-whole
returns-then-is_empty-clause-whole g c = λ start before serves is.
    whole_written start (g.K.Sink.held c.args.sink.now) c.args.served.now c.args.self.now.line.items c.args.self.now.answered c.args.self.now.waiting.items before (10 ∷ []) serves c.requires.rests

pub answer_last-requires : goal.answer_last-requires
answer_last-requires g c =
    let size : length c.args.self.now.line.items ≡ vec_len c.args.self.now.line = search rules in
    record { some = some_items c.args.self.now.line.items (vec_len c.args.self.now.line) size (sym c.is_empty.ensures ∙ c.if-is_empty.false) }

pub returns-in-Ok-clause-served : goal.returns-in-Ok-clause-served
returns-in-Ok-clause-served g c = λ start before serves at_end.
    let last = c.in-Ok.ensures.last start before serves in
    (last.0, last.1, c.close-in-Ok.ensures.ended last.0 last.2 at_end)

pub returns-in-Ok-clause-front : goal.returns-in-Ok-clause-front
returns-in-Ok-clause-front g c = λ start before serves other.
    whole_front start (g.K.Sink.held c.answer_last.new.sink) (before ++ 10 ∷ []) (c.in-Ok.ensures.written start before serves)

pub returns-in-Ok-clause-whole : goal.returns-in-Ok-clause-whole
returns-in-Ok-clause-whole g c = λ start before serves is. c.in-Ok.ensures.written start before serves

pub returns-in-Err-clause-front : goal.returns-in-Err-clause-front
returns-in-Err-clause-front g c = λ start before serves other. c.in-Err.ensures.front start before serves

pub returns-in-Err-clause-whole : goal.returns-in-Err-clause-whole
returns-in-Err-clause-whole g c = λ start before serves is. c.in-Err.ensures.whole start before serves (err_is _ _ is)
