use Rattle.std.proofs.Common.{[], refl, ◌∙◌}
use Rattle.gl_script.specs.declared.said.Said.TheVariants.{Accept as SaidAccept}
use Rattle.gl_script.specs.declared.table.Form.{Form}
use Rattle.gl_script.specs.declared.table.Form.TheVariants.{Number}
use Rattle.gl_script.specs.Faults.{tail_fault}
use Rattle.gl_script.specs.Left.{left_in}
use Rattle.gl_script.specs.Said.{one, wide_of}
use Rattle.gl_script.specs.Table.{NoMore}
use Rattle.gl_script.proofs.OneByOne.{misread_here, one_word, passed_on, read_on}
use Rattle.gl_script.proofs.rows.accept_said.Goals as goal

abbrev wide : Form
wide = Number 0 0xFFFFFFFFFFFFFFFF

pub no_more-requires : goal.no_more-requires
no_more-requires c = c.in_ok-bits.ensures.short

pub returns-in_err-bits : goal.returns-in_err-bits
returns-in_err-bits c =
    passed_on _ _ c.from_residual.result _ c.from_residual.ensures.1
    (misread_here wide [] (tail_fault NoMore) c.args.words.now.end (left_in c.args.words.now).words _ c.in_err-bits.ensures.read)

pub returns-in_err-no_more : goal.returns-in_err-no_more
returns-in_err-no_more c =
    passed_on _ _ c.from_residual-in_err-no_more.result _ c.from_residual-in_err-no_more.ensures.1
    (read_on wide [] (tail_fault NoMore) wide_of _ _ _ c.in_ok-bits.ensures.read
    ∙ c.in_err-no_more.ensures)

pub returns : goal.returns
returns c =
    one_word wide NoMore wide_of (one (λ n. SaidAccept n))
    _ _ _ _ refl c.in_ok-bits.ensures.read c.in_ok-no_more.ensures
