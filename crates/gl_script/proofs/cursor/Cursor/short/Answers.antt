use Rattle.std.proofs.Common.{ℕ, subst}
use Rattle.std.specs.Prelude.{Ok}
use Rattle.gl_script.specs.declared.table.Form.TheVariants.{Number}
use Rattle.gl_script.specs.Forms.{number_within}
use Rattle.gl_script.specs.Left.{Reads, left_in}
use Rattle.gl_script.proofs.cursor.Cursor.short.Goals as goal

pub returns-in-Ok-clause-read : goal.returns-in-Ok-clause-read
returns-in-Ok-clause-read c =
    subst (λ (high : ℕ). Reads (Number 0 high) (number_within 0 high) (left_in c.args.self.now) (left_in c.number.new.self) (Ok c.in-Ok.number)) c.from.ensures c.in-Ok.ensures.read
