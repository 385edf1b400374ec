-- The buffers of operations.
use Rattle.std.specs.Prelude.{ℕ, List, [], false, replicate}
use Rattle.gl_base.specs.declared.operation.Do.{Do}
use Rattle.gl_base.specs.declared.operation.Do.TheVariants.{Unplug, Live, Ioctl, ReadFile}
use Rattle.gl_asking.specs.Asking.{buffer_of}
use Rattle.gl_check.specs.declared.stand.Stand.{Stand}
use Rattle.gl_check.specs.declared.stand.Stand.TheVariants.{Ended, Before, Between}

-- the buffer of an operation: that of a command begins with its bytes; the first call of a removal has two bytes
abbrev pub buffer_for : Do → List ℕ
buffer_for (Unplug place) = replicate 2 0
buffer_for (Live device false) = replicate 2 0
buffer_for (Ioctl slot cmd len bytes made) = buffer_of len bytes
buffer_for (ReadFile slot len) = replicate len 0
buffer_for _ = []

-- the buffer of an actor's next entry
abbrev pub buffer_at : Stand → List ℕ
buffer_at Ended = []
buffer_at (Before what first) = buffer_for what
buffer_at (Between what first) = buffer_for what
