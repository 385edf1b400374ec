use Rattle.std.proofs.Common.{[], ◌∷◌, refl, ◌∙◌}
use Rattle.gl_script.specs.declared.said.Said.TheVariants.{Aggregate as SaidAggregate}
use Rattle.gl_script.specs.declared.table.Form.TheVariants.{FileName, Label}
use Rattle.gl_script.specs.Faults.{tail_fault}
use Rattle.gl_script.specs.Forms.{label_of}
use Rattle.gl_script.specs.Left.{left_in}
use Rattle.gl_script.specs.Said.{one}
use Rattle.gl_script.specs.Table.{Tail, FileNames}
use Rattle.gl_script.proofs.OneByOne.{itself, misread_here, passed_on, read_on, two_words}
use Rattle.gl_script.proofs.rows.aggregate_said.Goals as goal

abbrev further : Tail
further = FileNames 3

pub text-requires : goal.text-requires
text-requires c = c.in_ok-label.ensures.short

pub file_names-requires : goal.file_names-requires
file_names-requires c = c.in_ok-text.ensures.short

pub returns-in_err-label : goal.returns-in_err-label
returns-in_err-label c =
    passed_on _ _ c.from_residual.result _ c.from_residual.ensures.1
    (misread_here (Label c.args.version) (FileName ∷ []) (tail_fault further) c.args.words.now.end (left_in c.args.words.now).words _ c.in_err-label.ensures.read)

pub returns-in_err-text : goal.returns-in_err-text
returns-in_err-text c =
    passed_on _ _ c.from_residual-in_err-text.result _ c.from_residual-in_err-text.ensures.1
    (read_on (Label c.args.version) (FileName ∷ []) (tail_fault further) label_of _ _ _ c.in_ok-label.ensures.read
    ∙ misread_here FileName [] (tail_fault further) c.label.new.self.end (left_in c.label.new.self).words _ c.in_err-text.ensures.read)

pub returns-in_err-file_names : goal.returns-in_err-file_names
returns-in_err-file_names c =
    passed_on _ _ c.from_residual-in_err-file_names.result _ c.from_residual-in_err-file_names.ensures.1
    (read_on (Label c.args.version) (FileName ∷ []) (tail_fault further) label_of _ _ _ c.in_ok-label.ensures.read
    ∙ read_on FileName [] (tail_fault further) itself _ _ _ c.in_ok-text.ensures.read
    ∙ c.in_err-file_names.ensures)

pub returns : goal.returns
returns c =
    two_words (Label c.args.version) FileName further label_of itself (λ label first. one (λ label. SaidAggregate label) label)
    _ _ _ _ _ _ refl c.in_ok-label.ensures.read c.in_ok-text.ensures.read c.in_ok-file_names.ensures.0
