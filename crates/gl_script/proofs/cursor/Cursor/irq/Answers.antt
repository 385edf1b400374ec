use Rattle.std.proofs.Common.{sym}
use Rattle.gl_script.specs.declared.table.Form.TheVariants.{IrqWord}
use Rattle.gl_script.specs.Left.{left_in}
use Rattle.gl_script.specs.Said.{irq_of}
use Rattle.gl_script.proofs.ReadWords.{missing_by, on_ok, reads_by}
use Rattle.gl_script.proofs.ThereWords.{irq_word_there}
use Rattle.gl_script.proofs.cursor.Cursor.irq.Goals as goal

pub returns-in-Ok-clause-read : goal.returns-in-Ok-clause-read
returns-in-Ok-clause-read c =
    reads_by IrqWord irq_of (left_in c.args.self.now) (left_in c.next.new.self) c.in-Ok.found.at c.in-Ok.found.word.now _ _ c.in-Ok.ensures.found.0 c.in-Ok.ensures.found.1
    (sym (irq_word_there c.in-Ok.found.word.now)) c.irq_of.ensures c.or_misread.ensures

pub returns-in-Ok-clause-short : goal.returns-in-Ok-clause-short
returns-in-Ok-clause-short c = on_ok _ _ c.in-Ok.ensures.short

pub returns-in-Err-clause-read : goal.returns-in-Err-clause-read
returns-in-Err-clause-read c = missing_by IrqWord (left_in c.args.self.now) c.in-Err.fault c.in-Err.ensures.missing
