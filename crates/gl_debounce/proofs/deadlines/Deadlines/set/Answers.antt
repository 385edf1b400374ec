use Rattle.std.proofs.Common.{ℕ, List, set, Option, Some, None, ap, ◌∙◌}
use Rattle.std.proofs.lemmas.List.{set-set}
use Rattle.gl_debounce.proofs.Lookup.{free_cleared, row_stays}
use Rattle.gl_debounce.proofs.deadlines.Deadlines.set.Goals as goal

pub add-requires-clause-free : goal.add-requires-clause-free
add-requires-clause-free c =
    free_cleared c.self.inside.heap.items c.self.inside.slots.items c.args.self.now c.args.line c.requires (c.self.view_is ∙ c.clear.ensures)

pub add-requires-clause-line : goal.add-requires-clause-line
add-requires-clause-line c =
    row_stays c.self.inside.heap.items c.self.inside.slots.items c.args.self.now c.args.line c.requires (c.self.view_is ∙ c.clear.ensures)

pub returns : goal.returns
returns c =
    c.add.ensures.deadlines ∙ ap (λ (ds : List (Option ℕ)). set ds c.args.line (Some c.args.deadline)) (c.self.view_is ∙ c.clear.ensures)
    ∙ set-set c.args.self.now c.args.line None (Some c.args.deadline)
