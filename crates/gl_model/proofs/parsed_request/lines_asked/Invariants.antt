-- the offsets so far
use Rattle.std.proofs.Common.{◌≡◌, ◌<◌, ℕ, length, get_or}
use Rattle.gl_model.specs.AskedLines.{offset_asked}
use Rattle.gl_model.proofs.parsed_request.lines_asked.Given as goal

abbrev pub invariant-loop-i : goal.invariant-loop-i
invariant-loop-i l = (length l.offsets ≡ 64) × ((k d : ℕ) → k < l.i → get_or l.offsets k d ≡ offset_asked l.request k)
