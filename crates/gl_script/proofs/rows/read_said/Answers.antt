use Rattle.std.proofs.Common.{[], refl, ◌∙◌}
use Rattle.gl_script.specs.declared.said.Said.TheVariants.{Read as SaidRead}
use Rattle.gl_script.specs.declared.table.Form.TheVariants.{Path}
use Rattle.gl_script.specs.Faults.{tail_fault}
use Rattle.gl_script.specs.Forms.{tree_path_of}
use Rattle.gl_script.specs.Left.{left_in}
use Rattle.gl_script.specs.Said.{one}
use Rattle.gl_script.specs.Table.{NoMore}
use Rattle.gl_script.proofs.OneByOne.{misread_here, one_word, passed_on, read_on}
use Rattle.gl_script.proofs.rows.read_said.Goals as goal

pub no_more-requires : goal.no_more-requires
no_more-requires c = c.in_ok-path.ensures.short

pub returns-in_err-path : goal.returns-in_err-path
returns-in_err-path c =
    passed_on _ _ c.from_residual.result _ c.from_residual.ensures.1
    (misread_here Path [] (tail_fault NoMore) c.args.words.now.end (left_in c.args.words.now).words _ c.in_err-path.ensures.read)

pub returns-in_err-no_more : goal.returns-in_err-no_more
returns-in_err-no_more c =
    passed_on _ _ c.from_residual-in_err-no_more.result _ c.from_residual-in_err-no_more.ensures.1
    (read_on Path [] (tail_fault NoMore) tree_path_of _ _ _ c.in_ok-path.ensures.read
    ∙ c.in_err-no_more.ensures)

pub returns : goal.returns
returns c =
    one_word Path NoMore tree_path_of (one (λ path. SaidRead path))
    _ _ _ _ refl c.in_ok-path.ensures.read c.in_ok-no_more.ensures
