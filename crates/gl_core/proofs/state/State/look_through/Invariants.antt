use Rattle.std.proofs.Common.{◌≡◌, ◌+◌, ◌≤◌, drop}
use Rattle.std.specs.Prelude.{slice_index_or}
use Rattle.gl_model.specs.Opening.{named_from}
use Rattle.gl_model.specs.Places.{no_place}
use Rattle.gl_core.specs.FoundLines.{with_lines}
use Rattle.gl_core.proofs.state.State.look_through.Given as goal

-- what is left to look at makes the whole, and each offset has given one line at most
abbrev pub invariant-loop-offset : goal.invariant-loop-offset
invariant-loop-offset l =
    (let descs = (slice_index_or l.self.places l.place no_place).descs in with_lines (named_from l.name l.place l.offset (drop l.offset descs)) l.found ≡ with_lines (named_from l.name l.place 0 descs) l.initial.found)
    × (l.found.count ≤ l.initial.found.count + l.offset)
