use Rattle.std.proofs.Common.{◌≡◌, take}
use Rattle.gl_uapi.specs.Fields.{overwritten}
use Rattle.gl_uapi.specs.NewRequest.{offsets_bytes}
use Rattle.gl_uapi.proofs.new_requests.put_offsets.Given as goal

-- the first offsets have been written
abbrev pub invariant-loop-i : goal.invariant-loop-i
invariant-loop-i l = l.out ≡ overwritten l.start (offsets_bytes (take l.i l.offsets)) l.fn.out
