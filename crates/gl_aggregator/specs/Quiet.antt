-- What a device asks of its driver's own entries, said of an aggregator's.
use Rattle.std.specs.Prelude.{List, Option}
use Rattle.gl_base.specs.declared.op.Op.{Op}
use Rattle.gl_core.specs.Device.{MayOwn, OneEntry}
use Rattle.gl_driver.specs.declared.map.Map.{Map}
use Rattle.gl_aggregator.specs.Aggregating.{OwnAt}

-- all entries that it makes of its own are such as a driver may make
abbrev pub OwnEntriesAreQuiet : Type 0
OwnEntriesAreQuiet = (map : Option Map) (op : Op) (own : List OneEntry) → OwnAt map op own → MayOwn own
