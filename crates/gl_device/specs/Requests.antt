-- Requests of lines and values of requested lines, as the commands that they are.
use Rattle.std.specs.Prelude.{ℕ, List, [], ◌++◌, drop, length, take, Option, Some, Result, Ok, Err}
use Rattle.gl_base.specs.declared.errno.Errno.{Errno}
use Rattle.gl_uapi.specs.Fields.{number_at}
use Rattle.gl_uapi.specs.NewRequest.{new_request_bytes}
use Rattle.gl_uapi.specs.declared.layout.TheConstants.{LINE_VALUES_SIZE, VALUES_BITS}

-- the structure of a request of these lines for a consumer, with flags and without attributes
abbrev pub request_bytes : List ℕ → List ℕ → ℕ → List ℕ
request_bytes offsets consumer flags = new_request_bytes offsets consumer flags [] 0

-- what a request of lines comes to, as GET_LINE, which gives a file
abbrev pub as_command : {X : Type 0} → Result X Errno → Result (Option X) Errno
as_command (Ok file) = Ok (Some file)
as_command (Err errno) = Err errno

-- what a command comes to that gives nothing
abbrev pub without_value : {X : Type 0} → Result X Errno → Result (Unit {0}) Errno
without_value (Ok value) = Ok tt
without_value (Err errno) = Err errno

-- the bits in a structure of values, over whose front these bytes were written
abbrev pub bits_after : List ℕ → List ℕ → ℕ
bits_after bytes asked = number_at 8 VALUES_BITS (take LINE_VALUES_SIZE (bytes ++ drop (length bytes) asked))
