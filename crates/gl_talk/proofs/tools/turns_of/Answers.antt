use Rattle.std.proofs.Common.{sym, ◌∙◌}
use Rattle.gl_talk.specs.Copied.{words_of}
use Rattle.gl_talk.proofs.Copies.{spelled}
use Rattle.gl_talk.proofs.TypedActions.{kind_is, turns_are}
use Rattle.gl_talk.proofs.tools.turns_of.Goals as goal

pub turns_said-requires : goal.turns_said-requires
turns_said-requires c =
    let line = c.args.line.now in
    sym (kind_is (words_of line) line.said (spelled line)) ∙ c.requires

pub returns : goal.returns
returns c =
    let line = c.args.line.now in
    turns_are (words_of line) line.said c.turns_said.result c.turns_said.ensures (spelled line)
