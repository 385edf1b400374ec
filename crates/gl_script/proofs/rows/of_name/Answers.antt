use Rattle.std.proofs.Common.{[], Some, refl, ◌∙◌}
use Rattle.gl_script.specs.declared.table.Form.TheVariants.{FileName}
use Rattle.gl_script.specs.Faults.{tail_fault}
use Rattle.gl_script.specs.Left.{left_in}
use Rattle.gl_script.specs.Table.{NoMore}
use Rattle.gl_script.proofs.OneByOne.{itself, misread_here, one_word, passed_on, read_on}
use Rattle.gl_script.proofs.rows.of_name.Goals as goal

pub no_more-requires : goal.no_more-requires
no_more-requires c = c.in_ok-text.ensures.short

pub returns-in_err-text : goal.returns-in_err-text
returns-in_err-text c =
    passed_on _ _ c.from_residual.result _ c.from_residual.ensures.1
    (misread_here FileName [] (tail_fault NoMore) c.args.words.now.end (left_in c.args.words.now).words _ c.in_err-text.ensures.read)

pub returns-in_err-no_more : goal.returns-in_err-no_more
returns-in_err-no_more c =
    passed_on _ _ c.from_residual-in_err-no_more.result _ c.from_residual-in_err-no_more.ensures.1
    (read_on FileName [] (tail_fault NoMore) itself _ _ _ c.in_ok-text.ensures.read
    ∙ c.in_err-no_more.ensures)

pub returns : goal.returns
returns c =
    one_word FileName NoMore itself (λ first. Some c.args.said)
    _ _ _ _ refl c.in_ok-text.ensures.read c.in_ok-no_more.ensures
