use Rattle.std.proofs.Common.{[], refl, ◌∙◌}
use Rattle.gl_script.specs.declared.said.Said.TheVariants.{Fault as SaidFault}
use Rattle.gl_script.specs.declared.table.Form.TheVariants.{Number}
use Rattle.gl_script.specs.Faults.{tail_fault}
use Rattle.gl_script.specs.Forms.{number_within}
use Rattle.gl_script.specs.Left.{left_in}
use Rattle.gl_script.specs.Said.{one}
use Rattle.gl_script.specs.Table.{NoMore}
use Rattle.gl_script.proofs.OneByOne.{misread_here, one_word, passed_on, read_on}
use Rattle.gl_script.proofs.rows.fault_said.Goals as goal

pub no_more-requires : goal.no_more-requires
no_more-requires c = c.in_ok-nth.ensures.short

pub returns-in_err-nth : goal.returns-in_err-nth
returns-in_err-nth c =
    passed_on _ _ c.from_residual.result _ c.from_residual.ensures.1
    (misread_here (Number 1 1000000) [] (tail_fault NoMore) c.args.words.now.end (left_in c.args.words.now).words _ c.in_err-nth.ensures.read)

pub returns-in_err-no_more : goal.returns-in_err-no_more
returns-in_err-no_more c =
    passed_on _ _ c.from_residual-in_err-no_more.result _ c.from_residual-in_err-no_more.ensures.1
    (read_on (Number 1 1000000) [] (tail_fault NoMore) (number_within 1 1000000) _ _ _ c.in_ok-nth.ensures.read
    ∙ c.in_err-no_more.ensures)

pub returns : goal.returns
returns c =
    one_word (Number 1 1000000) NoMore (number_within 1 1000000) (one (λ n. SaidFault n))
    _ _ _ _ refl c.in_ok-nth.ensures.read c.in_ok-no_more.ensures
