use Rattle.std.proofs.Common.{sym, ◌∙◌, ap, Some, ◌≡◌}
use Rattle.std.specs.Prelude.{option_map}
use Rattle.std.specs.List.{position}
use Rattle.gl_talk.specs.Open.{MonitorTool, monitor_in, is_monitor, is_monitor_row}
use Rattle.gl_talk.proofs.NamedRows.{row_removed, row_found, no_row_found}
use Rattle.gl_talk.proofs.held.take_monitor.Goals as goal

pub returns-in-Some-clause-watched : goal.returns-in-Some-clause-watched
returns-in-Some-clause-watched c =
    let at : position (is_monitor_row c.args.name.now) c.args.tools.now.items ≡ Some c.in-Some.at = sym (c.in-Some.ensures ∙ ap (position (is_monitor_row c.args.name.now)) c.deref.ensures.value) in
    ap (option_map (λ (tool : MonitorTool). tool.watched)) (row_found monitor_in (is_monitor c.args.name.now) c.args.tools.now.items c.in-Some.at c.remove-row.result at)
    ∙ ap (λ row. Some (monitor_in row).watched) (sym c.remove-row.ensures.value)

pub returns-in-Some-clause-left : goal.returns-in-Some-clause-left
returns-in-Some-clause-left c =
    row_removed monitor_in (is_monitor c.args.name.now) c.args.tools.now.items _ c.in-Some.at c.remove-row.result (sym (c.in-Some.ensures ∙ ap (position (is_monitor_row c.args.name.now)) c.deref.ensures.value))
    c.remove-row.ensures.items

pub returns-in-None-clause-watched : goal.returns-in-None-clause-watched
returns-in-None-clause-watched c =
    ap (option_map (λ (tool : MonitorTool). tool.watched))
    (no_row_found monitor_in (is_monitor c.args.name.now) c.args.tools.now.items (sym (c.in-None.ensures ∙ ap (position (is_monitor_row c.args.name.now)) c.deref.ensures.value)))
