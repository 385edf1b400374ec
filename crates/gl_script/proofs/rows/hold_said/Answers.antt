use Rattle.std.proofs.Common.{[], ◌∷◌, refl, ◌∙◌}
use Rattle.gl_script.specs.declared.table.Form.{Form}
use Rattle.gl_script.specs.declared.table.Form.TheVariants.{Number, Chip}
use Rattle.gl_script.specs.Faults.{tail_fault}
use Rattle.gl_script.specs.Left.{left_in}
use Rattle.gl_script.specs.Said.{chip_of, hold_of, pin_said, small_of}
use Rattle.gl_script.specs.Table.{NoMore}
use Rattle.gl_script.proofs.OneByOne.{misread_here, passed_on, read_on, two_words}
use Rattle.gl_script.proofs.rows.hold_said.Goals as goal

abbrev number : Form
number = Number 0 0xFFFFFFFF

pub small-requires : goal.small-requires
small-requires c = c.in_ok-chip.ensures.short

pub no_more-requires : goal.no_more-requires
no_more-requires c = c.in_ok-pin.ensures.short

pub returns-in_err-chip : goal.returns-in_err-chip
returns-in_err-chip c =
    passed_on _ _ c.from_residual.result _ c.from_residual.ensures.1
    (misread_here Chip (number ∷ []) (tail_fault NoMore) c.args.words.now.end (left_in c.args.words.now).words _ c.in_err-chip.ensures.read)

pub returns-in_err-pin : goal.returns-in_err-pin
returns-in_err-pin c =
    passed_on _ _ c.from_residual-in_err-pin.result _ c.from_residual-in_err-pin.ensures.1
    (read_on Chip (number ∷ []) (tail_fault NoMore) chip_of _ _ _ c.in_ok-chip.ensures.read
    ∙ misread_here number [] (tail_fault NoMore) c.chip.new.self.end (left_in c.chip.new.self).words _ c.in_err-pin.ensures.read)

pub returns-in_err-no_more : goal.returns-in_err-no_more
returns-in_err-no_more c =
    passed_on _ _ c.from_residual-in_err-no_more.result _ c.from_residual-in_err-no_more.ensures.1
    (read_on Chip (number ∷ []) (tail_fault NoMore) chip_of _ _ _ c.in_ok-chip.ensures.read
    ∙ read_on number [] (tail_fault NoMore) small_of _ _ _ c.in_ok-pin.ensures.read
    ∙ c.in_err-no_more.ensures)

pub returns : goal.returns
returns c =
    two_words Chip number NoMore chip_of small_of (λ chip pin. pin_said chip (hold_of pin))
    _ _ _ _ _ _ refl c.in_ok-chip.ensures.read c.in_ok-pin.ensures.read c.in_ok-no_more.ensures
