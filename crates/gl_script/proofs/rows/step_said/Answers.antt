use Rattle.std.proofs.Common.{[], ◌∷◌, refl, ◌∙◌}
use Rattle.gl_script.specs.declared.said.Said.TheVariants.{Step as SaidStep}
use Rattle.gl_script.specs.declared.table.Form.TheVariants.{FileName, Number}
use Rattle.gl_script.specs.Faults.{tail_fault}
use Rattle.gl_script.specs.Forms.{file_name_of, number_within}
use Rattle.gl_script.specs.Left.{left_in}
use Rattle.gl_script.specs.Said.{two}
use Rattle.gl_script.specs.Table.{NoMore}
use Rattle.gl_script.proofs.OneByOne.{misread_here, passed_on, read_on, two_words}
use Rattle.gl_script.proofs.rows.step_said.Goals as goal

pub small-requires : goal.small-requires
small-requires c = c.in_ok-name.ensures.short

pub no_more-requires : goal.no_more-requires
no_more-requires c = c.in_ok-turns.ensures.short

pub returns-in_err-name : goal.returns-in_err-name
returns-in_err-name c =
    passed_on _ _ c.from_residual.result _ c.from_residual.ensures.1
    (misread_here FileName (Number 1 1000 ∷ []) (tail_fault NoMore) c.args.words.now.end (left_in c.args.words.now).words _ c.in_err-name.ensures.read)

pub returns-in_err-turns : goal.returns-in_err-turns
returns-in_err-turns c =
    passed_on _ _ c.from_residual-in_err-turns.result _ c.from_residual-in_err-turns.ensures.1
    (read_on FileName (Number 1 1000 ∷ []) (tail_fault NoMore) file_name_of _ _ _ c.in_ok-name.ensures.read
    ∙ misread_here (Number 1 1000) [] (tail_fault NoMore) c.file_name.new.self.end (left_in c.file_name.new.self).words _ c.in_err-turns.ensures.read)

pub returns-in_err-no_more : goal.returns-in_err-no_more
returns-in_err-no_more c =
    passed_on _ _ c.from_residual-in_err-no_more.result _ c.from_residual-in_err-no_more.ensures.1
    (read_on FileName (Number 1 1000 ∷ []) (tail_fault NoMore) file_name_of _ _ _ c.in_ok-name.ensures.read
    ∙ read_on (Number 1 1000) [] (tail_fault NoMore) (number_within 1 1000) _ _ _ c.in_ok-turns.ensures.read
    ∙ c.in_err-no_more.ensures)

pub returns : goal.returns
returns c =
    two_words FileName (Number 1 1000) NoMore file_name_of (number_within 1 1000) (two (λ name n. SaidStep name n))
    _ _ _ _ _ _ refl c.in_ok-name.ensures.read c.in_ok-turns.ensures.read c.in_ok-no_more.ensures
