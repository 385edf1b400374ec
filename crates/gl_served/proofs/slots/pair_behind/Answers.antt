use Rattle.std.proofs.Common.{cond, map, Some, ap, sym, ◌∙◌, arith}
use Rattle.std.proofs.lemmas.Bool.{le-ltb, lt-ltb}
use Rattle.gl_asking.specs.Rows.{row_file}
use Rattle.gl_served.specs.Slots.{lowest_free}
use Rattle.gl_served.specs.declared.limits.TheConstants.{PAIRS}
use Rattle.gl_served.proofs.slots.pair_behind.Goals as goal

pub returns-then-count-lt-PAIRS-clause-pair : goal.returns-then-count-lt-PAIRS-clause-pair
returns-then-count-lt-PAIRS-clause-pair c = sym (ap (λ b. cond b (Some c.args.count) (lowest_free (map row_file c.args.rows.now))) (lt-ltb c.args.count PAIRS (omega arith)))

pub returns-clause-pair : goal.returns-clause-pair
returns-clause-pair c =
    c.lowest_free.ensures.pair ∙ sym (ap (λ b. cond b (Some c.args.count) (lowest_free (map row_file c.args.rows.now))) (le-ltb c.args.count PAIRS (omega arith)))
