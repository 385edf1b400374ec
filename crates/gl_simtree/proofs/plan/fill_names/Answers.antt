use Rattle.std.proofs.Common.{ℕ, ◌<◌, ◌+◌, ◌-◌, ◌++◌, List, Option, append_assoc, sym, ◌∙◌, ap, arith}
use Rattle.gl_base.specs.declared.limits.TheConstants.{LINES_MAX}
use Rattle.gl_simtree.specs.declared.row.TreeRow.{TreeRow}
use Rattle.gl_simtree.specs.declared.node.Directory.TheVariants.{Line}
use Rattle.gl_simtree.specs.Rows.{row_at}
use Rattle.gl_simtree.specs.Plans.{line_name, names_from}
use Rattle.gl_simtree.proofs.Planning.{names_from_more}
use Rattle.gl_simtree.proofs.plan.fill_names.Goals as goal

pub loop-offset-preserved : goal.loop-offset-preserved
loop-offset-preserved c =
    let device : List ℕ = c.args.device.now in
    let bank : List ℕ = c.args.bank.now in
    let rows : List TreeRow = c.args.rows.now in
    let at = c.loop-offset.offset in
    let below : at < LINES_MAX = omega (arith, c.loop-offset-test.true, c.loop-offset.invariant.2) in
    let so_far : List (ℕ × List ℕ) = c.loop-offset.names.items in
    let left = names_from device bank rows (at + 1) (c.args.lines - (at + 1)) in
    let more = names_from_more device bank rows at c.args.lines c.loop-offset-test.true in (
      ap (λ (xs : List (ℕ × List ℕ)). xs ++ left) (c.push_name.ensures.names ∙ ap (λ (row : Option TreeRow). so_far ++ line_name row) (c.row_found.ensures ∙ c.requires.found at below))
          ∙ append_assoc so_far (line_name (row_at (Line device bank at) rows)) left ∙ ap (λ (xs : List (ℕ × List ℕ)). so_far ++ xs) (sym more) ∙ c.loop-offset.invariant.0,
      omega (arith, c.push_name.ensures.count, c.loop-offset.invariant.1),
      c.loop-offset.invariant.2,
      omega (arith, c.push_name.ensures.room, c.loop-offset.invariant.3),
      omega (arith, c.push_name.ensures.room, c.loop-offset.invariant.4),
    )
