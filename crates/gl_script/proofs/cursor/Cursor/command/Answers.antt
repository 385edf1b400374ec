use Rattle.gl_base.specs.CommandWord.{command_number_of}
use Rattle.gl_script.specs.declared.table.Form.TheVariants.{Command}
use Rattle.gl_script.specs.Left.{left_in}
use Rattle.gl_script.proofs.ReadWords.{missing_by, on_ok, reads_by, there_is}
use Rattle.gl_script.proofs.cursor.Cursor.command.Goals as goal

pub returns-in-Ok-clause-read : goal.returns-in-Ok-clause-read
returns-in-Ok-clause-read c =
    reads_by Command command_number_of (left_in c.args.self.now) (left_in c.next.new.self) c.in-Ok.found.at c.in-Ok.found.word.now _ _ c.in-Ok.ensures.found.0 c.in-Ok.ensures.found.1
    (there_is (command_number_of c.in-Ok.found.word.now)) c.command_number.ensures c.or_misread.ensures

pub returns-in-Ok-clause-short : goal.returns-in-Ok-clause-short
returns-in-Ok-clause-short c = on_ok _ _ c.in-Ok.ensures.short

pub returns-in-Err-clause-read : goal.returns-in-Err-clause-read
returns-in-Err-clause-read c = missing_by Command (left_in c.args.self.now) c.in-Err.fault c.in-Err.ensures.missing
