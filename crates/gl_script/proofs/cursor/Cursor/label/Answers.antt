use Rattle.std.proofs.Common.{refl}
use Rattle.gl_script.specs.declared.table.Form.TheVariants.{Label}
use Rattle.gl_script.specs.Forms.{label_in}
use Rattle.gl_script.specs.Left.{left_in}
use Rattle.gl_script.proofs.ReadWords.{missing_by, on_ok, reads_by}
use Rattle.gl_script.proofs.Widening.{read_widens}
use Rattle.gl_script.proofs.cursor.Cursor.label.Goals as goal

pub returns-in-Ok-clause-read : goal.returns-in-Ok-clause-read
returns-in-Ok-clause-read c =
    read_widens c.args.version (left_in c.args.self.now) (left_in c.next.new.self) _
    (reads_by (Label c.args.version) (λ word. label_in c.args.version word) (left_in c.args.self.now) (left_in c.next.new.self) c.in-Ok.found.at c.in-Ok.found.word.now _ _ c.in-Ok.ensures.found.0 c.in-Ok.ensures.found.1
    refl c.label_in.ensures c.or_misread.ensures)

pub returns-in-Ok-clause-short : goal.returns-in-Ok-clause-short
returns-in-Ok-clause-short c = on_ok _ _ c.in-Ok.ensures.short

pub returns-in-Err-clause-read : goal.returns-in-Err-clause-read
returns-in-Err-clause-read c = missing_by (Label c.args.version) (left_in c.args.self.now) c.in-Err.fault c.in-Err.ensures.missing
