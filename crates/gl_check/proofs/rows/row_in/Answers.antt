use Rattle.std.proofs.Common.{sym}
use Rattle.gl_asking.specs.Files.{is_in}
use Rattle.gl_asking.specs.Rows.{row_file}
use Rattle.gl_talk.proofs.NamedRows.{row_found, no_row_found}
use Rattle.gl_check.proofs.rows.row_in.Goals as goal

pub returns-in-Some-clause-found : goal.returns-in-Some-clause-found
returns-in-Some-clause-found c = sym (row_found row_file (is_in c.args.slot) c.args.rows.now c.in-Some.at _ (sym c.in-Some.ensures))

pub returns-in-None-clause-found : goal.returns-in-None-clause-found
returns-in-None-clause-found c = sym (no_row_found row_file (is_in c.args.slot) c.args.rows.now (sym c.in-None.ensures))
