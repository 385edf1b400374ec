use Rattle.std.proofs.Common.{[], ◌∷◌, refl, ◌∙◌}
use Rattle.gl_script.specs.declared.said.Said.TheVariants.{Clock as SaidClock}
use Rattle.gl_script.specs.declared.table.Form.{Form}
use Rattle.gl_script.specs.declared.table.Form.TheVariants.{Number}
use Rattle.gl_script.specs.Faults.{tail_fault}
use Rattle.gl_script.specs.Left.{left_in}
use Rattle.gl_script.specs.Said.{two, wide_of}
use Rattle.gl_script.specs.Table.{NoMore}
use Rattle.gl_script.proofs.OneByOne.{misread_here, passed_on, read_on, two_words}
use Rattle.gl_script.proofs.rows.clock_said.Goals as goal

abbrev wide : Form
wide = Number 0 0xFFFFFFFFFFFFFFFF

pub number-requires-2 : goal.number-requires-2
number-requires-2 c = c.in_ok-mono.ensures.short

pub no_more-requires : goal.no_more-requires
no_more-requires c = c.in_ok-real.ensures.short

pub returns-in_err-mono : goal.returns-in_err-mono
returns-in_err-mono c =
    passed_on _ _ c.from_residual.result _ c.from_residual.ensures.1
    (misread_here wide (wide ∷ []) (tail_fault NoMore) c.args.words.now.end (left_in c.args.words.now).words _ c.in_err-mono.ensures.read)

pub returns-in_err-real : goal.returns-in_err-real
returns-in_err-real c =
    passed_on _ _ c.from_residual-in_err-real.result _ c.from_residual-in_err-real.ensures.1
    (read_on wide (wide ∷ []) (tail_fault NoMore) wide_of _ _ _ c.in_ok-mono.ensures.read
    ∙ misread_here wide [] (tail_fault NoMore) c.number.new.self.end (left_in c.number.new.self).words _ c.in_err-real.ensures.read)

pub returns-in_err-no_more : goal.returns-in_err-no_more
returns-in_err-no_more c =
    passed_on _ _ c.from_residual-in_err-no_more.result _ c.from_residual-in_err-no_more.ensures.1
    (read_on wide (wide ∷ []) (tail_fault NoMore) wide_of _ _ _ c.in_ok-mono.ensures.read
    ∙ read_on wide [] (tail_fault NoMore) wide_of _ _ _ c.in_ok-real.ensures.read
    ∙ c.in_err-no_more.ensures)

pub returns : goal.returns
returns c =
    two_words wide wide NoMore wide_of wide_of (two (λ mono real. SaidClock mono real))
    _ _ _ _ _ _ refl c.in_ok-mono.ensures.read c.in_ok-real.ensures.read c.in_ok-no_more.ensures
