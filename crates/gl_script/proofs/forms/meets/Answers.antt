use Rattle.std.proofs.Common.{sym, ap, ◌∙◌}
use Rattle.std.specs.Option.{is_some}
use Rattle.gl_script.specs.declared.table.Form.{Form}
use Rattle.gl_script.specs.Forms.{meets}
use Rattle.gl_script.proofs.ThereWords.{irq_word_there, pin_word_there}
use Rattle.gl_script.proofs.forms.meets.Goals as goal

pub returns-in-PinWord : goal.returns-in-PinWord
returns-in-PinWord c =
    c.is_some-in-PinWord.ensures ∙ ap is_some c.pin_word_of.ensures ∙ pin_word_there c.args.word.now ∙ ap (λ (form : Form). meets form c.args.word.now) (sym c.in-PinWord.is)

pub returns-in-IrqWord : goal.returns-in-IrqWord
returns-in-IrqWord c =
    c.is_some-in-IrqWord.ensures ∙ ap is_some c.irq_of.ensures ∙ irq_word_there c.args.word.now ∙ ap (λ (form : Form). meets form c.args.word.now) (sym c.in-IrqWord.is)
