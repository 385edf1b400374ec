use Rattle.std.proofs.Common.{Bool, false, List, get_or, ap, sym, ◌∙◌}
use Rattle.gl_watch.proofs.Marks.{mark_read}
use Rattle.gl_watch.proofs.lines.WatchedLines.has.Goals as goal

pub returns : goal.returns
returns c = c.is_marked.ensures ∙ sym (mark_read c.self.inside.words c.args.offset false c.requires) ∙ ap (λ (marks : List Bool). get_or marks c.args.offset false) c.self.view_is
