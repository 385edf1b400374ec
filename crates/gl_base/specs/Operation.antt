-- The results of a client's operations: this project's choice.
use Rattle.std.specs.Prelude.{ℕ, List, [], Option, Some, None}
use Rattle.gl_base.specs.declared.errno.Errno.{Errno}
use Rattle.gl_base.specs.declared.operation.Got.{Got}
use Rattle.gl_base.specs.declared.operation.Got.TheVariants.{Bytes, Ready, Refused}

-- what a result refuses, if it does
abbrev pub refusal : Got → Option Errno
refusal (Refused errno) = Some errno
refusal _ = None

-- the bytes of a result; none where it has none
abbrev pub bytes_of : Got → List ℕ
bytes_of (Bytes bytes) = bytes
bytes_of _ = []

-- the bits of what is ready, by a result; 0 where it is no answer of a poll
abbrev pub ready_of : Got → ℕ
ready_of (Ready bits) = bits
ready_of _ = 0
