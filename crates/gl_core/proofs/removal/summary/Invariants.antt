use Rattle.std.proofs.Common.{◌≡◌, ◌≤◌, ◌+◌, ◌-◌, length}
use Rattle.std.specs.Prelude.{slice_index_or}
use Rattle.std.specs.List.{filter}
use Rattle.gl_model.specs.Chips.{places_from}
use Rattle.gl_core.specs.Chosen.{is_chosen}
use Rattle.gl_core.proofs.removal.summary.Given as goal

-- the first and the number of those from this place on
abbrev pub invariant-loop-place : goal.invariant-loop-place
invariant-loop-place l =
    (l.first ≡ slice_index_or (filter (is_chosen l.places) (places_from l.place (l.used - l.place))) 0 0)
    × (l.count ≡ length (filter (is_chosen l.places) (places_from l.place (l.used - l.place))))
    × (l.count + l.place ≤ l.used)
