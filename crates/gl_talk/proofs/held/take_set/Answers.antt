use Rattle.std.proofs.Common.{sym, ◌∙◌, ap, Some, ◌≡◌}
use Rattle.std.specs.Prelude.{option_map}
use Rattle.std.specs.List.{position}
use Rattle.gl_talk.specs.Open.{SetTool, set_in, is_set, is_set_row}
use Rattle.gl_talk.proofs.NamedRows.{row_removed, row_found, no_row_found}
use Rattle.gl_talk.proofs.held.take_set.Goals as goal

pub returns-in-Some-clause-held : goal.returns-in-Some-clause-held
returns-in-Some-clause-held c =
    let at : position (is_set_row c.args.name.now) c.args.tools.now.items ≡ Some c.in-Some.at = sym (c.in-Some.ensures ∙ ap (position (is_set_row c.args.name.now)) c.deref.ensures.value) in
    ap (option_map (λ (tool : SetTool). tool.held)) (row_found set_in (is_set c.args.name.now) c.args.tools.now.items c.in-Some.at c.remove-row.result at)
    ∙ ap (λ row. Some (set_in row).held) (sym c.remove-row.ensures.value)

pub returns-in-Some-clause-left : goal.returns-in-Some-clause-left
returns-in-Some-clause-left c =
    row_removed set_in (is_set c.args.name.now) c.args.tools.now.items _ c.in-Some.at c.remove-row.result (sym (c.in-Some.ensures ∙ ap (position (is_set_row c.args.name.now)) c.deref.ensures.value))
    c.remove-row.ensures.items

pub returns-in-None-clause-held : goal.returns-in-None-clause-held
returns-in-None-clause-held c =
    ap (option_map (λ (tool : SetTool). tool.held))
    (no_row_found set_in (is_set c.args.name.now) c.args.tools.now.items (sym (c.in-None.ensures ∙ ap (position (is_set_row c.args.name.now)) c.deref.ensures.value)))
