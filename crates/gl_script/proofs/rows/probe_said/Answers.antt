use Rattle.std.proofs.Common.{[], ◌∷◌, refl, ◌∙◌}
use Rattle.gl_base.specs.declared.limits.TheConstants.{LINES_MAX}
use Rattle.gl_script.specs.declared.said.Said.TheVariants.{Probe as SaidProbe}
use Rattle.gl_script.specs.declared.table.Form.TheVariants.{Label, Number}
use Rattle.gl_script.specs.Faults.{tail_fault}
use Rattle.gl_script.specs.Forms.{label_of, number_within}
use Rattle.gl_script.specs.Left.{left_in}
use Rattle.gl_script.specs.Said.{two}
use Rattle.gl_script.specs.Table.{NoMore}
use Rattle.gl_script.proofs.OneByOne.{misread_here, passed_on, read_on, two_words}
use Rattle.gl_script.proofs.rows.probe_said.Goals as goal

pub small-requires : goal.small-requires
small-requires c = c.in_ok-label.ensures.short

pub no_more-requires : goal.no_more-requires
no_more-requires c = c.in_ok-lines.ensures.short

pub returns-in_err-label : goal.returns-in_err-label
returns-in_err-label c =
    passed_on _ _ c.from_residual.result _ c.from_residual.ensures.1
    (misread_here (Label c.args.version) (Number 1 LINES_MAX ∷ []) (tail_fault NoMore) c.args.words.now.end (left_in c.args.words.now).words _ c.in_err-label.ensures.read)

pub returns-in_err-lines : goal.returns-in_err-lines
returns-in_err-lines c =
    passed_on _ _ c.from_residual-in_err-lines.result _ c.from_residual-in_err-lines.ensures.1
    (read_on (Label c.args.version) (Number 1 LINES_MAX ∷ []) (tail_fault NoMore) label_of _ _ _ c.in_ok-label.ensures.read
    ∙ misread_here (Number 1 LINES_MAX) [] (tail_fault NoMore) c.label.new.self.end (left_in c.label.new.self).words _ c.in_err-lines.ensures.read)

pub returns-in_err-no_more : goal.returns-in_err-no_more
returns-in_err-no_more c =
    passed_on _ _ c.from_residual-in_err-no_more.result _ c.from_residual-in_err-no_more.ensures.1
    (read_on (Label c.args.version) (Number 1 LINES_MAX ∷ []) (tail_fault NoMore) label_of _ _ _ c.in_ok-label.ensures.read
    ∙ read_on (Number 1 LINES_MAX) [] (tail_fault NoMore) (number_within 1 LINES_MAX) _ _ _ c.in_ok-lines.ensures.read
    ∙ c.in_err-no_more.ensures)

pub returns : goal.returns
returns c =
    two_words (Label c.args.version) (Number 1 LINES_MAX) NoMore label_of (number_within 1 LINES_MAX) (two (λ label n. SaidProbe label n))
    _ _ _ _ _ _ refl c.in_ok-label.ensures.read c.in_ok-lines.ensures.read c.in_ok-no_more.ensures
