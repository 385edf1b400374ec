use Rattle.std.proofs.Common.{subst}
use Rattle.gl_core.specs.Reached.{IsReached}
use Rattle.gl_core.specs.WellKept.{HasItsTables}
use Rattle.gl_core.proofs.laws.core_is_well_kept.Goals as goal

pub returns : goal.returns
returns c =
    let reached : IsReached c.args.core.now = subst IsReached c.core.view_is c.core.invariant in
    record {
      tables = subst HasItsTables c.core.view_is c.has_its_tables.ensures;
      world = reached.world;
      stands = reached.stands;
      in_order = record {
        one_holder = reached.good.holders.requests_have;
        agree = reached.good.holders;
        one_claim = reached.good.claims;
        numbers_differ = reached.good.holders.numbers_differ;
        numbers_below = reached.good.holders.numbers_below;
        next = reached.good.bounded.next;
        names = reached.good.names;
      };
    }
