use Rattle.std.proofs.Common.{◌≡◌, false, rules}
use Rattle.std.specs.Prelude.{codes}
use Rattle.std.specs.Str.{bytes_eq}
use Rattle.gl_base.specs.Words.{Span, span, words_at}
use Rattle.gl_script.proofs.TypedWords.{pieces_behind}
use Rattle.gl_script.proofs.faults.bytes_read.Goals as goal

pub returns-in-Ok : goal.returns-in-Ok
returns-in-Ok c =
    let word : Span = span c.in-Some.found.at c.in-Some.found.word.now in
    let words = words_at c.in-Some.found.rest_at c.in-Some.found.rest.now in
    let other : bytes_eq c.in-Some.found.word.now (codes "-") ≡ false = search rules in
    pieces_behind c.args.makes c.args.end c.in-Ok.said word words (words_at c.args.at c.args.line.now) c.pieces_read.result c.in-Some.ensures.words other c.in-Ok.ensures.fault c.in-Ok.ensures.said.0 c.pieces_read.ensures
