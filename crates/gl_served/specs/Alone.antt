-- The machine, the open files of its one actor and the port of its planned driver, as the code keeps them.
use Rattle.std.specs.Prelude.{◌≡◌, List, map}
use Rattle.gl_core.specs.Kept.{Kept, StandsFor}
use Rattle.gl_asking.specs.Files.{OpenFile}
use Rattle.gl_asking.specs.Rows.{row_file}
use Rattle.gl_check.specs.Joining.{no_maps}
use Rattle.gl_check.specs.One.{PlannedPort, Standing}
use Rattle.gl_check.specs.Seating.{port_in}
use Rattle.gl_served.specs.declared.alone.Alone.{Alone}

pub record AloneValue : Type 0 where
  pub core : Kept
  pub files : List OpenFile
  pub port : PlannedPort

abbrev pub alone_in : Alone → AloneValue
alone_in a = record { core = a.core; files = map row_file a.rows.items; port = port_in a.port }

-- it stands as One says, over a port that takes no maps
pub record StandsAs (a : Alone) (s : Standing PlannedPort) : Type 0 where
  pub world : StandsFor a.core s.world
  pub files : map row_file a.rows.items ≡ s.files
  pub source : port_in a.port ≡ s.source
  pub maps : s.maps ≡ no_maps 0
