use Rattle.std.proofs.Common.{map, arith}
use Rattle.std.proofs.lemmas.List.{length-map}
use Rattle.gl_talk.specs.Over.{columns_in}
use Rattle.gl_check.proofs.Moves.{first_begins}
use Rattle.gl_check.proofs.judge.start_first.Goals as goal

pub returns-clause-first : goal.returns-clause-first
returns-clause-first c = λ sections same as_all.
    first_begins sections c.in_ok-first.first _ c.in_ok-after.after c.new-printed.result.items _ (map columns_in c.args.setup.now) same c.in_ok-first.ensures.seat c.in_ok-first.ensures.kept
    c.in_ok-after.ensures.after (λ m. c.in_ok-after.ensures.first sections m as_all)

pub begin_after-requires : goal.begin_after-requires
begin_after-requires c = record {
  kept = (map columns_in c.args.setup.now, omega (arith, length-map c.args.setup.now columns_in, c.requires.within), c.in_ok-first.ensures.kept);
}
