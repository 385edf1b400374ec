use Rattle.std.proofs.Common.{ap, List, ◌∙◌}
use Rattle.std.specs.Prelude.{find}
use Rattle.gl_script.specs.declared.table.Keyword.{Keyword}
use Rattle.gl_script.specs.Table.{is_keyword}
use Rattle.gl_script.proofs.FirstBytes.{from_first}
use Rattle.gl_script.proofs.table.keyword_from.Goals as goal

pub returns-in-Some : goal.returns-in-Some
returns-in-Some c = c.in-Some.ensures ∙ ap (λ (l : List Keyword). find (is_keyword c.args.word.now) l) (c.beginning_with.ensures ∙ from_first c.args.first)

pub returns-in-None : goal.returns-in-None
returns-in-None c = c.in-None.ensures ∙ ap (λ (l : List Keyword). find (is_keyword c.args.word.now) l) (c.beginning_with.ensures ∙ from_first c.args.first)
