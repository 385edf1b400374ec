use Rattle.std.proofs.Common.{◌<◌, List, length, Option, ◌∙◌, arith, vec_capacity}
use Rattle.gl_debounce.specs.declared.timer.TheConstants.{TABLE_SIZE}
use Rattle.gl_debounce.specs.declared.timer.TimerLevels.{TimerLevels}
use Rattle.gl_debounce.specs.Order.{AreRows}
use Rattle.gl_debounce.proofs.Joining.{rows_made, table_made}
use Rattle.gl_debounce.proofs.rows.make_rows.Goals as goal

pub push_within-requires : goal.push_within-requires
push_within-requires c =
    let less : c.len.result < c.args.count = c.loop-levels-test.true in
    omega (arith, c.loop-levels.invariant.1.all_lines)

pub add_row-requires : goal.add_row-requires
add_row-requires c =
    let less : c.len.result < c.args.count = c.loop-levels-test.true in
    omega (arith, c.loop-levels.invariant.1.as_many)

pub loop-levels-preserved : goal.loop-levels-preserved
loop-levels-preserved c =
    let ls : List (Option TimerLevels) = c.loop-levels.levels.items in
    let after : List (Option TimerLevels) = c.push_within.new.items.items in
    let rows : AreRows ls c.loop-levels.deadlines (vec_capacity c.loop-levels.levels) = c.loop-levels.invariant.1 in
    let less : c.len.result < c.args.count = c.loop-levels-test.true in
    let room : length ls < TABLE_SIZE = omega (arith, less) in (
      table_made ls after c.loop-levels.deadlines c.add_row.new.self rows.as_many room c.push_within.ensures.items c.add_row.ensures ∙ c.loop-levels.invariant.0,
      rows_made ls after c.loop-levels.deadlines c.add_row.new.self (vec_capacity c.loop-levels.levels) (vec_capacity c.push_within.new.items) rows room c.push_within.ensures.items c.add_row.ensures c.push_within.ensures.capacity,
    )
