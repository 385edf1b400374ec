use Rattle.std.proofs.Common.{◌∙◌}
use Rattle.gl_script.proofs.FirstBytes.{kept_by}
use Rattle.gl_script.proofs.table.keyword_of.Goals as goal

pub returns-in-len1-up : goal.returns-in-len1-up
returns-in-len1-up c = c.keyword_from.ensures ∙ kept_by c.args.word.now c.in-len1-up.len_at_least
