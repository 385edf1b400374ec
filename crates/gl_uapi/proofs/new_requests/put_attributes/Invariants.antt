use Rattle.std.proofs.Common.{◌≡◌, take}
use Rattle.gl_uapi.specs.Fields.{overwritten}
use Rattle.gl_uapi.specs.NewRequest.{attributes_bytes}
use Rattle.gl_uapi.proofs.new_requests.put_attributes.Given as goal

-- the first attributes have been written
abbrev pub invariant-loop-i : goal.invariant-loop-i
invariant-loop-i l = l.out ≡ overwritten l.start (attributes_bytes (take l.i l.attributes)) l.fn.out
