use Rattle.std.proofs.Common.{List, Option, ap, sym, ◌∙◌}
use Rattle.gl_asking.specs.Asking.{file_for}
use Rattle.gl_asking.specs.Files.{OpenFile}
use Rattle.gl_asking.specs.Rows.{file_of}
use Rattle.gl_asking.specs.declared.kinds.FileRow.{FileRow}
use Rattle.gl_session.proofs.Asked.{found_given, found_left}
use Rattle.gl_session.proofs.rows.Rows.handed.Goals as goal

pub returns-in-Some-clause-found : goal.returns-in-Some-clause-found
returns-in-Some-clause-found c = λ files left given. found_given c.args.what.now files c.in-Some.file (ap (λ (g : Option FileRow). file_of g) (sym c.in-Some.is) ∙ given)

pub returns-in-None-clause-found : goal.returns-in-None-clause-found
returns-in-None-clause-found c = λ files left given.
    found_left c.args.what.now files (ap (λ (g : Option FileRow). file_of g) (sym c.in-None.is) ∙ given) ∙ ap (λ (l : List OpenFile). file_for c.args.what.now l) (sym left) ∙ c.lent.ensures.found
