use Rattle.std.proofs.Common.{[], refl, ◌∙◌}
use Rattle.gl_script.specs.declared.said.Said.TheVariants.{Unplug as SaidUnplug}
use Rattle.gl_script.specs.declared.table.Form.TheVariants.{Chip}
use Rattle.gl_script.specs.Faults.{tail_fault}
use Rattle.gl_script.specs.Left.{left_in}
use Rattle.gl_script.specs.Said.{chip_of, one}
use Rattle.gl_script.specs.Table.{NoMore}
use Rattle.gl_script.proofs.OneByOne.{misread_here, one_word, passed_on, read_on}
use Rattle.gl_script.proofs.rows.unplug_said.Goals as goal

pub no_more-requires : goal.no_more-requires
no_more-requires c = c.in_ok-chip.ensures.short

pub returns-in_err-chip : goal.returns-in_err-chip
returns-in_err-chip c =
    passed_on _ _ c.from_residual.result _ c.from_residual.ensures.1
    (misread_here Chip [] (tail_fault NoMore) c.args.words.now.end (left_in c.args.words.now).words _ c.in_err-chip.ensures.read)

pub returns-in_err-no_more : goal.returns-in_err-no_more
returns-in_err-no_more c =
    passed_on _ _ c.from_residual-in_err-no_more.result _ c.from_residual-in_err-no_more.ensures.1
    (read_on Chip [] (tail_fault NoMore) chip_of _ _ _ c.in_ok-chip.ensures.read
    ∙ c.in_err-no_more.ensures)

pub returns : goal.returns
returns c =
    one_word Chip NoMore chip_of (one (λ n. SaidUnplug n))
    _ _ _ _ refl c.in_ok-chip.ensures.read c.in_ok-no_more.ensures
