use Rattle.std.proofs.Common.{sym, ◌∙◌, arith}
use Rattle.gl_base.specs.Words.{span, words_at}
use Rattle.gl_talk.specs.Words.{bytes_said}
use Rattle.gl_talk.proofs.PiecesRead.{piece_first, piece_said}
use Rattle.gl_talk.proofs.words.pieces_in.Goals as goal

pub put_bytes_of-requires : goal.put_bytes_of-requires
put_bytes_of-requires c =
    let l = c.loop-found in
    let found = c.in-Some.found in
    (piece_first (span found.at found.word.now) (words_at found.rest_at found.rest.now) (words_at l.at l.rest.now) c.in-Some.ensures.words (sym c.is_as.ensures ∙ c.if-is_as.false) l.invariant.1).0

pub loop-found-preserved : goal.loop-found-preserved
loop-found-preserved c =
    let l = c.loop-found in
    let found = c.in-Some.found in
    let word = span found.at found.word.now in
    let words = words_at found.rest_at found.rest.now in
    let left = words_at l.at l.rest.now in (
      piece_said word words left l.bytes.items c.put_bytes_of.new.bytes.items (bytes_said (words_at c.args.at c.args.line.now)) c.in-Some.ensures.words (sym c.is_as.ensures ∙ c.if-is_as.false) l.invariant.0 c.in_ok-put_bytes_of.ensures.ok,
      (piece_first word words left c.in-Some.ensures.words (sym c.is_as.ensures ∙ c.if-is_as.false) l.invariant.1).1,
      omega (arith, c.in-Some.ensures.within.1, l.invariant.2),
    )
