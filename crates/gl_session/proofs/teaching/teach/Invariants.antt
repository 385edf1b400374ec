use Rattle.std.proofs.Common.{take}
use Rattle.gl_session.specs.Ports.{HasLearned}
use Rattle.gl_session.proofs.teaching.teach.Given as goal

-- it has learned the first maps so far
abbrev pub invariant-loop-map : goal.invariant-loop-map
invariant-loop-map g l = HasLearned g.D.Port.Port.maps g.D.Port.Port.maps_left g.D.Port.Port.told g.D.Port.Port.faults (take l.map-index l.maps) l.initial.port l.port
