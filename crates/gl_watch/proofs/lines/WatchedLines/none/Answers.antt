use Rattle.std.proofs.Common.{refl}
use Rattle.gl_watch.specs.declared.lines.TheConstants.{WORDS}
use Rattle.gl_watch.proofs.Marks.{no_marks}
use Rattle.gl_watch.proofs.lines.WatchedLines.none.Goals as goal

pub returns : goal.returns
returns c = no_marks _ WORDS refl
