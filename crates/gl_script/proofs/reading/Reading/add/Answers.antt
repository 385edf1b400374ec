use Rattle.std.proofs.Common.{Option, sym, ap, ◌∙◌}
use Rattle.gl_base.specs.Words.{Span, span, words_at}
use Rattle.gl_script.specs.declared.table.Keyword.{Keyword}
use Rattle.gl_script.specs.Columns.{columns}
use Rattle.gl_script.specs.Said.{said_by}
use Rattle.gl_script.proofs.Saying.{stated}
use Rattle.gl_script.proofs.reading.Reading.add.Goals as goal

pub push_statement-requires : goal.push_statement-requires
push_statement-requires c =
    let first : Span = span c.args.first.now.at c.args.first.now.word.now in
    let words = words_at c.args.first.now.rest_at c.args.first.now.rest.now in
    stated c.args.version first words (columns c.args.line.now) c.in-Ok.said c.requires.line
    (sym (ap (λ (o : Option Keyword). said_by o first words) c.keyword_in-keyword.ensures) ∙ c.in-Ok.ensures.1)
