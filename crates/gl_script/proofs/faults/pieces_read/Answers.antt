use Rattle.std.proofs.Common.{sym, ◌∙◌}
use Rattle.gl_base.specs.Words.{Span, span, words_at}
use Rattle.gl_script.proofs.TypedWords.{made_here}
use Rattle.gl_script.proofs.faults.pieces_read.Goals as goal

pub returns-in-Ok : goal.returns-in-Ok
returns-in-Ok c =
    let word : Span = span c.in-Some.found.at c.in-Some.found.word.now in
    let words = words_at c.in-Some.found.rest_at c.in-Some.found.rest.now in
    let l = c.loop-found in
    let is = made_here c.args.makes l.said l.end word words (words_at l.at l.rest.now) c.in-Ok.name c.in-Some.ensures.words (sym c.is_as.ensures ∙ c.if-is_as.true) c.in-Ok.ensures in
    (l.invariant.0 ∙ is.0, l.invariant.1 ∙ is.1)
