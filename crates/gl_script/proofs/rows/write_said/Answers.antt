use Rattle.std.proofs.Common.{[], ◌∷◌, refl, ◌∙◌}
use Rattle.gl_script.specs.declared.said.Said.TheVariants.{Write as SaidWrite}
use Rattle.gl_script.specs.declared.table.Form.TheVariants.{Label, Path}
use Rattle.gl_script.specs.Faults.{tail_fault}
use Rattle.gl_script.specs.Forms.{label_of, tree_path_of}
use Rattle.gl_script.specs.Left.{left_in}
use Rattle.gl_script.specs.Said.{two}
use Rattle.gl_script.specs.Table.{NoMore}
use Rattle.gl_script.proofs.OneByOne.{misread_here, passed_on, read_on, two_words}
use Rattle.gl_script.proofs.rows.write_said.Goals as goal

pub label-requires : goal.label-requires
label-requires c = c.in_ok-path.ensures.short

pub no_more-requires : goal.no_more-requires
no_more-requires c = c.in_ok-value.ensures.short

pub returns-in_err-path : goal.returns-in_err-path
returns-in_err-path c =
    passed_on _ _ c.from_residual.result _ c.from_residual.ensures.1
    (misread_here Path (Label c.args.version ∷ []) (tail_fault NoMore) c.args.words.now.end (left_in c.args.words.now).words _ c.in_err-path.ensures.read)

pub returns-in_err-value : goal.returns-in_err-value
returns-in_err-value c =
    passed_on _ _ c.from_residual-in_err-value.result _ c.from_residual-in_err-value.ensures.1
    (read_on Path (Label c.args.version ∷ []) (tail_fault NoMore) tree_path_of _ _ _ c.in_ok-path.ensures.read
    ∙ misread_here (Label c.args.version) [] (tail_fault NoMore) c.path.new.self.end (left_in c.path.new.self).words _ c.in_err-value.ensures.read)

pub returns-in_err-no_more : goal.returns-in_err-no_more
returns-in_err-no_more c =
    passed_on _ _ c.from_residual-in_err-no_more.result _ c.from_residual-in_err-no_more.ensures.1
    (read_on Path (Label c.args.version ∷ []) (tail_fault NoMore) tree_path_of _ _ _ c.in_ok-path.ensures.read
    ∙ read_on (Label c.args.version) [] (tail_fault NoMore) label_of _ _ _ c.in_ok-value.ensures.read
    ∙ c.in_err-no_more.ensures)

pub returns : goal.returns
returns c =
    two_words Path (Label c.args.version) NoMore tree_path_of label_of (two (λ path value. SaidWrite path value))
    _ _ _ _ _ _ refl c.in_ok-path.ensures.read c.in_ok-value.ensures.read c.in_ok-no_more.ensures
