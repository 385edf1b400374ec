use Rattle.std.proofs.Common.{sym}
use Rattle.gl_script.specs.declared.table.Form.TheVariants.{PinWord}
use Rattle.gl_script.specs.Left.{left_in, pin_word_of}
use Rattle.gl_script.proofs.ReadWords.{missing_by, on_ok, reads_by}
use Rattle.gl_script.proofs.ThereWords.{pin_word_there}
use Rattle.gl_script.proofs.cursor.Cursor.pin.Goals as goal

pub returns-in-Ok-clause-read : goal.returns-in-Ok-clause-read
returns-in-Ok-clause-read c =
    reads_by PinWord pin_word_of (left_in c.args.self.now) (left_in c.next.new.self) c.in-Ok.found.at c.in-Ok.found.word.now _ _ c.in-Ok.ensures.found.0 c.in-Ok.ensures.found.1
    (sym (pin_word_there c.in-Ok.found.word.now)) c.pin_word_of.ensures c.or_misread.ensures

pub returns-in-Ok-clause-short : goal.returns-in-Ok-clause-short
returns-in-Ok-clause-short c = on_ok _ _ c.in-Ok.ensures.short

pub returns-in-Err-clause-read : goal.returns-in-Err-clause-read
returns-in-Err-clause-read c = missing_by PinWord (left_in c.args.self.now) c.in-Err.fault c.in-Err.ensures.missing
