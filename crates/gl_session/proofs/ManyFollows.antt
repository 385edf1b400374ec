-- What all actors carried out comes to Many.
use Rattle.std.proofs.Common.{refl}
use Rattle.gl_session.specs.Many.{AllPlayedCameToMany}
use Rattle.gl_session.proofs.Counting.{within_cost}
use Rattle.gl_session.proofs.Silence.{many_played, planned_played}
use Rattle.gl_check.specs.Drivers.{DriverOver}
use Rattle.gl_check.proofs.Outer.{ports_tell}
use Rattle.gl_script.specs.Cost.{session_cost}

pub came_to_many : (driver : DriverOver) → AllPlayedCameToMany driver
came_to_many driver limit before left sections history texts played = record {
  ports = played;
  many = many_played driver before left sections history texts played;
  as_planned = λ is news. planned_played driver before left sections history texts is news played;
  tells = ports_tell driver before left sections history texts played;
  maps = refl;
  within = within_cost driver limit before left sections history (session_cost sections) texts played;
}
