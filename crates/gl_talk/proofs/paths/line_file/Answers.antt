use Rattle.gl_talk.proofs.Parts.{four_parts}
use Rattle.gl_talk.proofs.paths.line_file.Goals as goal

pub returns-in-Some-more : goal.returns-in-Some-more
returns-in-Some-more c =
    four_parts c.args.path.now c.in-Some.rest.now c.in-Some-rest.rest.now c.in-Some-more.field-0.now _ _ _
    (rw c.in-Some.is at c.split_first.ensures.pieces) (rw c.in-Some-rest.is at c.split_first-2.ensures.pieces) (rw c.in-Some-more.is at c.split_first-3.ensures.pieces)
