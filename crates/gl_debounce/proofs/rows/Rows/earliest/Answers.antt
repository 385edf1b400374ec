use Rattle.std.proofs.Common.{◌∙◌, sym, ap, map, arith}
use Rattle.gl_debounce.specs.Earliest.{earliest_of}
use Rattle.gl_debounce.specs.Order.{deadline_of}
use Rattle.gl_debounce.proofs.SoonestOf.{first_is_earliest, none_is_earliest}
use Rattle.gl_debounce.proofs.rows.Rows.earliest.Goals as goal

pub returns-in-None : goal.returns-in-None
returns-in-None c = sym (none_is_earliest c.self.inside.deadlines c.in-None.ensures) ∙ ap earliest_of (c.self.invariant.debounced ∙ ap (map deadline_of) c.self.view_is)

pub returns-in-Some : goal.returns-in-Some
returns-in-Some c =
    sym (first_is_earliest c.self.inside.deadlines c.in-Some.due (omega (arith, c.self.invariant.as_many, c.self.invariant.few)) c.in-Some.ensures)
    ∙ ap earliest_of (c.self.invariant.debounced ∙ ap (map deadline_of) c.self.view_is)
