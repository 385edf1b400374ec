use Rattle.std.proofs.Common.{[], refl, ◌∙◌}
use Rattle.gl_script.specs.declared.said.Said.TheVariants.{Stop as SaidStop}
use Rattle.gl_script.specs.declared.table.Form.TheVariants.{FileName}
use Rattle.gl_script.specs.Faults.{tail_fault}
use Rattle.gl_script.specs.Forms.{file_name_of}
use Rattle.gl_script.specs.Left.{left_in}
use Rattle.gl_script.specs.Said.{one}
use Rattle.gl_script.specs.Table.{NoMore}
use Rattle.gl_script.proofs.OneByOne.{misread_here, one_word, passed_on, read_on}
use Rattle.gl_script.proofs.rows.stop_said.Goals as goal

pub no_more-requires : goal.no_more-requires
no_more-requires c = c.in_ok-name.ensures.short

pub returns-in_err-name : goal.returns-in_err-name
returns-in_err-name c =
    passed_on _ _ c.from_residual.result _ c.from_residual.ensures.1
    (misread_here FileName [] (tail_fault NoMore) c.args.words.now.end (left_in c.args.words.now).words _ c.in_err-name.ensures.read)

pub returns-in_err-no_more : goal.returns-in_err-no_more
returns-in_err-no_more c =
    passed_on _ _ c.from_residual-in_err-no_more.result _ c.from_residual-in_err-no_more.ensures.1
    (read_on FileName [] (tail_fault NoMore) file_name_of _ _ _ c.in_ok-name.ensures.read
    ∙ c.in_err-no_more.ensures)

pub returns : goal.returns
returns c =
    one_word FileName NoMore file_name_of (one (λ name. SaidStop name))
    _ _ _ _ refl c.in_ok-name.ensures.read c.in_ok-no_more.ensures
