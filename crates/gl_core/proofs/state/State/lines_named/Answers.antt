use Rattle.std.proofs.Common.{ℕ, List, Option, append-nil, ap, sym, ◌∙◌}
use Rattle.std.specs.List.{flat_map}
use Rattle.gl_model.specs.Chips.{used_places}
use Rattle.gl_model.specs.Opening.{named_at, searched}
use Rattle.gl_core.specs.FoundLines.{found_of, with_lines}
use Rattle.gl_core.proofs.FindingLines.{found_all}
use Rattle.gl_core.proofs.state.State.lines_named.Goals as goal

pub returns-in-Some : goal.returns-in-Some
returns-in-Some c w s =
    let lines : List (ℕ × ℕ) = named_at c.args.name.now w c.in-Some.place in
    c.look_at.ensures.told w s ∙ ap (with_lines lines) c.none-found.ensures ∙ found_all lines ∙ ap found_of (sym (append-nil lines))
    ∙ ap (λ (place : Option ℕ). found_of (flat_map (named_at c.args.name.now w) (searched place w))) (sym c.in-Some.is)

pub returns-in-None : goal.returns-in-None
returns-in-None c w s =
    let lines : List (ℕ × ℕ) = flat_map (named_at c.args.name.now w) (used_places w) in
    c.look_everywhere.ensures w s ∙ ap (with_lines lines) c.none-found.ensures ∙ found_all lines
    ∙ ap (λ (place : Option ℕ). found_of (flat_map (named_at c.args.name.now w) (searched place w))) (sym c.in-None.is)
