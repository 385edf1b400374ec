use Rattle.std.proofs.Common.{◌≡◌, ◌<◌, ◌+◌, ◌*◌, ◌++◌, length, take}
use Rattle.gl_base.specs.BytesText.{pairs_bytes}
use Rattle.gl_script.proofs.escaped.put_pairs.Given as goal

abbrev pub invariant-loop-rest : goal.invariant-loop-rest
invariant-loop-rest l = (2 * l.count + length l.rest < 64) × (length l.bytes ≡ 31) × (take l.count l.bytes ++ pairs_bytes l.rest ≡ pairs_bytes l.digits)

abbrev pub decreases-loop-rest : goal.decreases-loop-rest
decreases-loop-rest l = length l.rest
