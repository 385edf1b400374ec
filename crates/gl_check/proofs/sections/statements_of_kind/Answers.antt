use Rattle.std.proofs.Common.{rules, ◌≡◌, true}
use Rattle.gl_script.specs.Meaning.{head_in}
use Rattle.gl_check.specs.One.{is_kind}
use Rattle.gl_check.proofs.SaidHere.{said_here}
use Rattle.gl_check.proofs.sections.statements_of_kind.Goals as goal

pub returns : goal.returns
returns c =
    let of : is_kind c.args.kind (head_in c.in-Some.head).kind ≡ true = search rules in
    said_here c.args.kind _ (head_in c.in-Some.head) c.in-Some-statements.statements.now c.in-Some.ensures of c.in-Some-statements.ensures.1
