use Rattle.std.proofs.Common.{ℕ, ◌<◌, ◌+◌, ◌-◌, ◌++◌, List, Option, append_assoc, sym, ◌∙◌, ap, arith}
use Rattle.gl_desc.specs.declared.hog.Hog.{Hog as HogPlan}
use Rattle.gl_base.specs.declared.limits.TheConstants.{LINES_MAX}
use Rattle.gl_simtree.specs.declared.row.TreeRow.{TreeRow}
use Rattle.gl_simtree.specs.declared.node.Directory.TheVariants.{Hog}
use Rattle.gl_simtree.specs.Rows.{row_at}
use Rattle.gl_simtree.specs.Plans.{line_hog, hogs_from}
use Rattle.gl_simtree.proofs.Planning.{hogs_from_more}
use Rattle.gl_simtree.proofs.plan.fill_hogs.Goals as goal

pub loop-offset-preserved : goal.loop-offset-preserved
loop-offset-preserved c =
    let device : List ℕ = c.args.device.now in
    let bank : List ℕ = c.args.bank.now in
    let rows : List TreeRow = c.args.rows.now in
    let at = c.loop-offset.offset in
    let below : at < LINES_MAX = omega (arith, c.loop-offset-test.true, c.loop-offset.invariant.2) in
    let so_far : List HogPlan = c.loop-offset.hogs.items in
    let left = hogs_from device bank rows (at + 1) (c.args.lines - (at + 1)) in
    let more = hogs_from_more device bank rows at c.args.lines c.loop-offset-test.true in (
      ap (λ (xs : List HogPlan). xs ++ left) (c.push_hog.ensures.hogs ∙ ap (λ (row : Option TreeRow). so_far ++ line_hog row) (c.row_found.ensures ∙ c.requires.found at below))
          ∙ append_assoc so_far (line_hog (row_at (Hog device bank at) rows)) left ∙ ap (λ (xs : List HogPlan). so_far ++ xs) (sym more) ∙ c.loop-offset.invariant.0,
      omega (arith, c.push_hog.ensures.count, c.loop-offset.invariant.1),
      c.loop-offset.invariant.2,
      omega (arith, c.push_hog.ensures.room, c.loop-offset.invariant.3),
      omega (arith, c.push_hog.ensures.room, c.loop-offset.invariant.4),
    )
