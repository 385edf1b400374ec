use Rattle.std.proofs.Common.{◌∙◌, sym, ap}
use Rattle.gl_debounce.specs.Earliest.{earliest}
use Rattle.gl_debounce.proofs.SoonestOf.{earliest_same}
use Rattle.gl_debounce.proofs.table.Timers.earliest.Goals as goal

pub returns : goal.returns
returns c = c.earliest.ensures ∙ sym (earliest_same c.self.inside.rows) ∙ ap earliest c.self.view_is
