use Rattle.std.proofs.Common.{sym, ap, ◌∙◌}
use Rattle.gl_talk.specs.Copied.{words_of}
use Rattle.gl_talk.specs.ToolWords.{names_tool}
use Rattle.gl_talk.specs.declared.tools.StatementKind.{StatementKind}
use Rattle.gl_talk.proofs.Copies.{spelled}
use Rattle.gl_talk.proofs.TypedActions.{kind_is, name_is}
use Rattle.gl_talk.proofs.tools.tool_name.Goals as goal

pub name_said-requires : goal.name_said-requires
name_said-requires c =
    let line = c.args.line.now in
    ap (λ (kind : StatementKind). names_tool kind) (sym (kind_is (words_of line) line.said (spelled line))) ∙ c.requires

pub returns : goal.returns
returns c =
    let line = c.args.line.now in
    name_is (words_of line) line.said c.name_said.result c.name_said.ensures (spelled line)
