-- What contracts see of open files of the device.
use Rattle.std.specs.Prelude.{ℕ, Result, Ok, Err}
use Rattle.gl_base.specs.declared.errno.Errno.{Errno}
use Rattle.gl_base.specs.declared.lines.Lines.{Lines}

-- an open request: the place of its lines, its number, and the lines
pub record LineFile : Type 0 where
  pub place : ℕ
  pub fd : ℕ
  pub lines : Lines

-- a result without what comes back beside its error: the file of a close, or the order of a call
abbrev pub plain_result : {X F : Type 0} → Result X (F × Errno) → Result X Errno
plain_result (Ok value) = Ok value
plain_result (Err refused) = Err refused.1
