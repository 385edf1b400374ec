use Rattle.std.proofs.Common.{ℕ, List, map, take, subst, sym}
use Rattle.std.proofs.lemmas.List.{take-map}
use Rattle.gl_asking.specs.Files.{OpenFile}
use Rattle.gl_base.specs.declared.operation.Do.TheVariants.{Close}
use Rattle.gl_asking.specs.Rows.{row_file}
use Rattle.gl_check.specs.One.{PlannedPort, Standing, from_plan, performs}
use Rattle.gl_served.specs.Alone.{StandsAs}
use Rattle.gl_served.specs.Closing.{closes}
use Rattle.gl_served.proofs.Closed.{row_closed}
use Rattle.gl_served.proofs.Running.{stands_same}
use Rattle.gl_served.proofs.alone.Alone.close_rows.Goals as goal

pub loop-row-preserved : goal.loop-row-preserved
loop-row-preserved c = (
  c.perform.ensures.rows,
  λ s stands.
      let came = c.in-Ok.ensures.ok (closes (map row_file (take c.loop-row.row-index c.args.rows.now)) s) (c.loop-row.invariant.1 s stands) in
      subst (λ (t : Standing PlannedPort). StandsAs c.perform.new.self t) (sym (row_closed c.args.rows.now c.loop-row.row-index _ s c.loop-row-test.true))
      (subst (λ (slot : ℕ). StandsAs c.perform.new.self (performs 0 from_plan (Close slot) (closes (map row_file (take c.loop-row.row-index c.args.rows.now)) s)).1) c.slot.ensures came.1),
)

pub returns-in-Err-clause-front : goal.returns-in-Err-clause-front
returns-in-Err-clause-front c = λ s stands.
    let at : ℕ = c.loop-row.row-index in (
      at,
      subst (λ (files : List OpenFile). StandsAs c.perform.new.self (closes files s)) (sym (take-map row_file at c.args.rows.now))
          (stands_same c.loop-row.self c.perform.new.self (closes (map row_file (take at c.args.rows.now)) s) c.in-Err.ensures.kept (c.loop-row.invariant.1 s stands)),
    )
