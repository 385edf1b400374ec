use Rattle.gl_check.specs.Drivers.{driver_kind, over}
use Rattle.gl_session.proofs.Telling as followed
use Rattle.gl_session.proofs.Told as told
use Rattle.gl_session.proofs.laws.output_tells_history.Goals as goal

pub returns : goal.returns
returns g c = record {
  of_entries = followed.output_tells_history;
  of_runs = λ left other. told.texts_tell_history (over left (driver_kind g.D.Driver.ENTRIES g.D.Driver.is_planned g.D.Driver.OwnEntries g.D.Driver.Follows)) (over other (driver_kind g.E.Driver.ENTRIES g.E.Driver.is_planned g.E.Driver.OwnEntries g.E.Driver.Follows));
}
