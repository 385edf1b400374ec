use Rattle.std.proofs.Common.{sym, ◌∙◌}
use Rattle.gl_talk.specs.Copied.{words_of}
use Rattle.gl_talk.proofs.Copies.{spelled}
use Rattle.gl_talk.proofs.TypedActions.{kind_is}
use Rattle.gl_talk.proofs.tools.kind_of.Goals as goal

pub returns : goal.returns
returns c =
    let line = c.args.line.now in
    c.kind_said.ensures ∙ sym (kind_is (words_of line) line.said (spelled line))
