use Rattle.gl_script.specs.declared.table.Form.TheVariants.{Number}
use Rattle.gl_script.specs.Forms.{number_within}
use Rattle.gl_script.specs.Left.{left_in}
use Rattle.gl_script.proofs.ReadWords.{missing_by, on_ok, reads_by, there_is}
use Rattle.gl_script.proofs.cursor.Cursor.number.Goals as goal

pub returns-in-Ok-clause-read : goal.returns-in-Ok-clause-read
returns-in-Ok-clause-read c =
    reads_by (Number c.args.low c.args.high) (number_within c.args.low c.args.high) (left_in c.args.self.now) (left_in c.next.new.self) c.in-Ok.found.at c.in-Ok.found.word.now _ _ c.in-Ok.ensures.found.0 c.in-Ok.ensures.found.1
    (there_is (number_within c.args.low c.args.high c.in-Ok.found.word.now)) c.number_within.ensures c.or_misread.ensures

pub returns-in-Ok-clause-short : goal.returns-in-Ok-clause-short
returns-in-Ok-clause-short c = on_ok _ _ c.in-Ok.ensures.short

pub returns-in-Err-clause-read : goal.returns-in-Err-clause-read
returns-in-Err-clause-read c = missing_by (Number c.args.low c.args.high) (left_in c.args.self.now) c.in-Err.fault c.in-Err.ensures.missing
