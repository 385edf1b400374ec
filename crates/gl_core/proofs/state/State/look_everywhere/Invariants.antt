use Rattle.std.proofs.Common.{◌≡◌, ◌-◌, ◌*◌, ◌≤◌, length}
use Rattle.std.specs.List.{flat_map}
use Rattle.gl_base.specs.declared.limits.TheConstants.{LINES_MAX}
use Rattle.gl_model.specs.Chips.{places_from, used_places}
use Rattle.gl_model.specs.Opening.{named_at}
use Rattle.gl_model.specs.World.{World}
use Rattle.gl_core.specs.FoundLines.{with_lines}
use Rattle.gl_core.specs.Kept.{StandsFor}
use Rattle.gl_core.proofs.state.State.look_everywhere.Given as goal

-- what is left to look at makes the whole, and each place has given LINES_MAX lines at most
abbrev pub invariant-loop-place : goal.invariant-loop-place
invariant-loop-place l =
    ((w : World) → StandsFor l.self w
    → with_lines (flat_map (named_at l.name w) (places_from l.place (length w.chips - l.place))) l.found ≡ with_lines (flat_map (named_at l.name w) (used_places w)) l.initial.found)
    × (l.found.count ≤ LINES_MAX * l.place)
