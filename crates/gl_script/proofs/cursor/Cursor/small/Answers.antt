use Rattle.std.proofs.Common.{ℕ, subst}
use Rattle.std.specs.Prelude.{Ok}
use Rattle.gl_script.specs.declared.table.Form.TheVariants.{Number}
use Rattle.gl_script.specs.Forms.{number_within}
use Rattle.gl_script.specs.Left.{Reads, left_in}
use Rattle.gl_script.proofs.cursor.Cursor.small.Goals as goal

pub returns-in-Ok-clause-read : goal.returns-in-Ok-clause-read
returns-in-Ok-clause-read c =
    subst (λ (b : ℕ × ℕ). Reads (Number b.0 b.1) (number_within b.0 b.1) (left_in c.args.self.now) (left_in c.number.new.self) (Ok c.in-Ok.number))
    (λ i. (c.from.ensures i, c.from-2.ensures i)) c.in-Ok.ensures.read
