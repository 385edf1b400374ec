use Rattle.std.proofs.Common.{◌∷◌, Option, refl, sym, ap, ◌∙◌}
use Rattle.gl_base.specs.Words.{Span, span, words_at}
use Rattle.gl_script.specs.declared.table.Keyword.{Keyword}
use Rattle.gl_script.specs.Said.{said_by}
use Rattle.gl_script.proofs.Saying.{stated}
use Rattle.gl_script.proofs.served.open_kind.Goals as goal

pub returns-in-Ok-clause-said : goal.returns-in-Ok-clause-said
returns-in-Ok-clause-said c =
    let first : Span = span c.args.first.now.at c.args.first.now.word.now in
    let words = words_at c.args.first.now.rest_at c.args.first.now.rest.now in
    stated c.args.version first words (first ∷ words) c.in-Ok.said refl
    (sym (ap (λ (o : Option Keyword). said_by o first words) c.keyword_in.ensures) ∙ c.in-Ok.ensures.1)
