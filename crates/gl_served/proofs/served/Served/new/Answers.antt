use Rattle.std.proofs.Common.{ap, map, refl}
use Rattle.gl_asking.specs.Rows.{row_file}
use Rattle.gl_served.proofs.served.Served.new.Goals as goal

pub returns-clause-ok : goal.returns-clause-ok
returns-clause-ok c = record {
  stage = refl;
  count = refl;
  names = c.in_ok-talk.ensures.ok.0;
  stands = record { world = c.in_ok-alone.ensures.ok.0; files = ap (map row_file) c.in_ok-alone.ensures.ok.1; source = c.in_ok-alone.ensures.ok.2; maps = refl };
  rests = refl;
}
