-- The numbers and names of the errors, from Linux's `errno.h`. `Full` is no error of Linux: its number and
-- name are this project's choice.
use Rattle.std.specs.Prelude.{ℕ, List, codes}
use Rattle.gl_base.specs.declared.errno.Errno.{Errno}
use Rattle.gl_base.specs.declared.errno.Errno.TheVariants.{Perm, NoEnt, Io, NxIo, BadF, Again, NoMemory, Fault, Busy, Exist, NoDev, Inval, MFile, NoSpc, OpNotSupp, Full}

-- the number of an error
abbrev pub errno_number : Errno → ℕ
errno_number Perm = 1
errno_number NoEnt = 2
errno_number Io = 5
errno_number NxIo = 6
errno_number BadF = 9
errno_number Again = 11
errno_number NoMemory = 12
errno_number Fault = 14
errno_number Busy = 16
errno_number Exist = 17
errno_number NoDev = 19
errno_number Inval = 22
errno_number MFile = 24
errno_number NoSpc = 28
errno_number OpNotSupp = 95
errno_number Full = 1000

-- the name of an error, as its bytes
abbrev pub errno_name : Errno → List ℕ
errno_name Perm = codes "EPERM"
errno_name NoEnt = codes "ENOENT"
errno_name Io = codes "EIO"
errno_name NxIo = codes "ENXIO"
errno_name BadF = codes "EBADF"
errno_name Again = codes "EAGAIN"
errno_name NoMemory = codes "ENOMEM"
errno_name Fault = codes "EFAULT"
errno_name Busy = codes "EBUSY"
errno_name Exist = codes "EEXIST"
errno_name NoDev = codes "ENODEV"
errno_name Inval = codes "EINVAL"
errno_name MFile = codes "EMFILE"
errno_name NoSpc = codes "ENOSPC"
errno_name OpNotSupp = codes "EOPNOTSUPP"
errno_name Full = codes "FULL"
