use Rattle.std.proofs.Common.{Option, subst, sym}
use Rattle.gl_base.specs.Words.{Span, span, text_at, words_at}
use Rattle.gl_script.specs.declared.table.Keyword.{Keyword}
use Rattle.gl_script.specs.Faults.{makes_file}
use Rattle.gl_script.specs.Left.{IsStated, Left, Says}
use Rattle.gl_script.specs.Said.{values}
use Rattle.gl_script.specs.Table.{wanted}
use Rattle.gl_script.proofs.Widening.{stated_as}
use Rattle.gl_script.proofs.rows.statement_said.Goals as goal

pub returns-in-Some : goal.returns-in-Some
returns-in-Some c =
    let first : Span = span c.args.first.now.at c.args.first.now.word.now in
    let words = words_at c.args.first.now.rest_at c.args.first.now.rest.now in
    let keyword = c.in-Some.keyword in
    subst (λ (o : Option Keyword). IsStated c.args.version o first words c.words_said.result) (sym c.in-Some.is)
    (stated_as c.args.version keyword first words c.words_said.result
    (subst (λ (left : Left). Says (wanted c.args.version keyword (text_at 0 left.words) (makes_file keyword left.words)) (values keyword left.words) left c.words_said.result)
    c.behind.ensures.left c.words_said.ensures))
