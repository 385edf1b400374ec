use Rattle.std.proofs.Common.{[], ◌∷◌, refl, ◌∙◌}
use Rattle.gl_script.specs.declared.said.Said.TheVariants.{Changes as SaidChanges}
use Rattle.gl_script.specs.declared.table.Form.TheVariants.{FileName, Number}
use Rattle.gl_script.specs.Faults.{tail_fault}
use Rattle.gl_script.specs.Forms.{number_within}
use Rattle.gl_script.specs.Left.{left_in}
use Rattle.gl_script.specs.Said.{one}
use Rattle.gl_script.specs.Table.{NoMore}
use Rattle.gl_script.proofs.OneByOne.{itself, misread_here, passed_on, read_on, two_words}
use Rattle.gl_script.proofs.rows.changes_said.Goals as goal

pub short-requires : goal.short-requires
short-requires c = c.in_ok-text.ensures.short

pub no_more-requires : goal.no_more-requires
no_more-requires c = c.in_ok-len.ensures.short

pub returns-in_err-text : goal.returns-in_err-text
returns-in_err-text c =
    passed_on _ _ c.from_residual.result _ c.from_residual.ensures.1
    (misread_here FileName (Number 0 9216 ∷ []) (tail_fault NoMore) c.args.words.now.end (left_in c.args.words.now).words _ c.in_err-text.ensures.read)

pub returns-in_err-len : goal.returns-in_err-len
returns-in_err-len c =
    passed_on _ _ c.from_residual-in_err-len.result _ c.from_residual-in_err-len.ensures.1
    (read_on FileName (Number 0 9216 ∷ []) (tail_fault NoMore) itself _ _ _ c.in_ok-text.ensures.read
    ∙ misread_here (Number 0 9216) [] (tail_fault NoMore) c.text.new.self.end (left_in c.text.new.self).words _ c.in_err-len.ensures.read)

pub returns-in_err-no_more : goal.returns-in_err-no_more
returns-in_err-no_more c =
    passed_on _ _ c.from_residual-in_err-no_more.result _ c.from_residual-in_err-no_more.ensures.1
    (read_on FileName (Number 0 9216 ∷ []) (tail_fault NoMore) itself _ _ _ c.in_ok-text.ensures.read
    ∙ read_on (Number 0 9216) [] (tail_fault NoMore) (number_within 0 9216) _ _ _ c.in_ok-len.ensures.read
    ∙ c.in_err-no_more.ensures)

pub returns : goal.returns
returns c =
    two_words FileName (Number 0 9216) NoMore itself (number_within 0 9216) (λ first n. one (λ n. SaidChanges n) n)
    _ _ _ _ _ _ refl c.in_ok-text.ensures.read c.in_ok-len.ensures.read c.in_ok-no_more.ensures
