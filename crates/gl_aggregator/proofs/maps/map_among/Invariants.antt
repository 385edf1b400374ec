use Rattle.std.proofs.Common.{◌≡◌, drop}
use Rattle.gl_driver.specs.Maps.{map_at}
use Rattle.gl_aggregator.proofs.maps.map_among.Given as goal

-- none so far is the place's
abbrev pub invariant-loop-map : goal.invariant-loop-map
invariant-loop-map l = map_at l.place (drop l.map-index l.maps) ≡ map_at l.place l.maps
