use Rattle.std.proofs.Common.{[], ℕ, map, refl, ap, ◌∙◌}
use Rattle.std.proofs.lemmas.Result.{on_ok_weaker}
use Rattle.gl_asking.specs.Rows.{row_file}
use Rattle.gl_base.specs.Ordered.{ordered}
use Rattle.gl_check.specs.Joining.{no_maps}
use Rattle.gl_check.specs.One.{PlannedPort, Standing}
use Rattle.gl_served.specs.Alone.{StandsAs}
use Rattle.gl_served.specs.Closing.{all_closed, front_closed, is_row_before}
use Rattle.gl_check.specs.Seating.{port_in}
use Rattle.gl_served.proofs.CutLines.{on_any_err}
use Rattle.gl_served.proofs.Closed.{closed_in_order, front_in_order, no_rows, none_is_open}
use Rattle.gl_served.proofs.alone.Alone.close_all.Goals as goal

pub returns-clause-closed : goal.returns-clause-closed
returns-clause-closed c = λ s stands.
    closed_in_order c.close_rows.result c.args.self.now.rows.items c.deref-2.result.now s c.close_rows.new.self (c.deref-2.ensures.value ∙ c.in_ok-rows.ensures.ok ∙ ap (ordered is_row_before) c.deref.ensures.value) stands.files (c.close_rows.ensures.closed s stands)

pub returns-clause-none_open : goal.returns-clause-none_open
returns-clause-none_open c =
    let kept = c.core_is_well_kept.ensures in
    let s : Standing PlannedPort = record { world = kept.world; files = map row_file c.args.self.now.rows.items; maps = no_maps 0; source = port_in c.args.self.now.port; took = []; asked = []; entries = 0 } in
    on_ok_weaker c.close_rows.result (λ (stands : StandsAs c.close_rows.new.self (all_closed s)). no_rows c.close_rows.new.self.rows.items (stands.files ∙ none_is_open s))
    (closed_in_order c.close_rows.result c.args.self.now.rows.items c.deref-2.result.now s c.close_rows.new.self (c.deref-2.ensures.value ∙ c.in_ok-rows.ensures.ok ∙ ap (ordered is_row_before) c.deref.ensures.value) refl
    (c.close_rows.ensures.closed s (record { world = kept.stands; files = refl; source = refl; maps = refl })))

pub returns-in_err-rows-clause-front : goal.returns-in_err-rows-clause-front
returns-in_err-rows-clause-front c = λ s stands. on_any_err c.from_residual.result ((count : ℕ) × StandsAs c.args.self.now (front_closed count s)) (0, stands)

pub returns-clause-front : goal.returns-clause-front
returns-clause-front c = λ s stands.
    front_in_order c.close_rows.result c.args.self.now.rows.items c.deref-2.result.now s c.close_rows.new.self (c.deref-2.ensures.value ∙ c.in_ok-rows.ensures.ok ∙ ap (ordered is_row_before) c.deref.ensures.value) stands.files (c.close_rows.ensures.front s stands)
