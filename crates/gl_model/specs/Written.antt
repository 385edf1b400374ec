-- How much a call writes: its reply tells it.
use Rattle.std.specs.Prelude.{◌≡◌, ℕ, false, min, if◌then◌else◌, IsTrue, length, Option, Some, None}
use Rattle.gl_base.specs.Name.{is_name}
use Rattle.gl_base.specs.Rows.{Each}
use Rattle.gl_uapi.specs.Command.{command_of, size_of}
use Rattle.gl_uapi.specs.declared.commands.Command.{Command}
use Rattle.gl_uapi.specs.declared.commands.Command.TheVariants.{ChipInfo, LineInfo, Watch, Unwatch, GetLine, SetConfig, GetValues, SetValues}
use Rattle.gl_uapi.specs.declared.info_changes.Changed.{Changed}
use Rattle.gl_uapi.specs.declared.layout.TheConstants.{LINE_REQUEST_SIZE}
use Rattle.gl_model.specs.declared.call.Call.{Call}
use Rattle.gl_model.specs.declared.call.Call.TheVariants.{Unplug, Remove, Ioctl, ReadEdges, ReadInfo}
use Rattle.gl_model.specs.declared.reply.Reply.{Reply}
use Rattle.gl_model.specs.declared.reply.Reply.TheVariants.{Number}
use Rattle.gl_model.specs.Entries.{is_done}
use Rattle.gl_model.specs.Fits.{FitsCall, IsPlace}
use Rattle.gl_model.specs.Machine.{Always, world_of}
use Rattle.gl_model.specs.Names.{HasNames}
use Rattle.gl_model.specs.Step.{step}
use Rattle.gl_model.specs.World.{World, opening}

-- the names in a change of a line are names
abbrev pub HasNamesIn : Changed → Type 0
HasNamesIn changed = IsTrue (is_name changed.info.name) × IsTrue (is_name changed.info.consumer)

-- the names in all changes that wait for the chip files of a world are names
abbrev pub HasNamedChanges : World → Type 0
HasNamedChanges w = Each (λ file. Each HasNamesIn file.changes) w.files

-- so many bytes where the call was done, and else none
abbrev pub if_done : ℕ → Reply → ℕ
if_done size reply = if is_done reply then size else 0

-- so many bytes where a number is answered, and else none
abbrev pub if_number : ℕ → Reply → ℕ
if_number size (Number n) = size
if_number size _ = 0

-- as many bytes as the number says that is answered, and else none
abbrev pub number_answered : Reply → ℕ
number_answered (Number n) = n
number_answered _ = 0

-- How many bytes a command writes into a buffer of `len` bytes: its whole structure where it was done, if it writes one. A
-- request that is told isn't looked at again, and is written as far as the buffer goes.
abbrev pub command_writes : Command → ℕ → Reply → ℕ
command_writes ChipInfo len reply = if_done (size_of ChipInfo) reply
command_writes LineInfo len reply = if_done (size_of LineInfo) reply
command_writes Watch len reply = if_done (size_of Watch) reply
command_writes Unwatch len reply = if_done (size_of Unwatch) reply
command_writes GetLine len reply = if_number (min len (size_of GetLine)) reply
command_writes SetConfig len reply = 0
command_writes GetValues len reply = if_done (size_of GetValues) reply
command_writes SetValues len reply = 0

-- how many bytes the command of a number writes, if it is one
abbrev pub numbered_command_writes : Option Command → ℕ → Reply → ℕ
numbered_command_writes None len reply = 0
numbered_command_writes (Some command) len reply = command_writes command len reply

-- How many bytes a call writes: the first call of a removal two, where it was done; a command as above; a read as many as it
-- answers; every other call none.
abbrev pub bytes_written : Call → Reply → ℕ
bytes_written (Unplug place false) reply = if_done 2 reply
bytes_written (Remove device false) reply = if_done 2 reply
bytes_written (Ioctl place fd cmd len bytes part) reply = numbered_command_writes (command_of cmd) len reply
bytes_written (ReadEdges place fd len) reply = number_answered reply
bytes_written (ReadInfo place fd len) reply = number_answered reply
bytes_written _ reply = 0

-- What these lengths rest on. A command: the world's names are names, the place is one, and the bytes that it was called with
-- are as many as the longest structure has. A read of changes: the names in those that wait are names. Every other call: nothing.
abbrev pub LengthsRestOn : World → Call → Type 0
LengthsRestOn w (Ioctl place fd cmd len bytes part) = HasNames w × IsPlace place × (length bytes ≡ LINE_REQUEST_SIZE)
LengthsRestOn w (ReadInfo place fd len) = HasNamedChanges w
LengthsRestOn w _ = Unit {0}

-- the reply of a call tells how many bytes it has written
abbrev pub RepliesTellLengths : Type 0
RepliesTellLengths = (w : World) (actor : ℕ) (call : Call) → LengthsRestOn w call
    → let out = step w actor call in length out.bytes ≡ bytes_written call out.reply

-- the names in the changes that wait are names: at first, and each call that finds a world whose names are names keeps it so
pub record ChangesKeepNames : Type 0 where
  pub at_first : HasNamedChanges opening
  pub kept : (w : World) → HasNames w → HasNamedChanges w → (actor : ℕ) (call : Call) → HasNamedChanges (step w actor call).world

module _ {K : Type 0} (stands_for : K → World → Type 0) where
  -- Behind a legal history a call has only to be in range: in each world that it leads to, the names in the changes that wait
  -- are names, and the reply of each call in range tells how many bytes it has written.
  pub record LegalRepliesTellLengths : Type 0 where
    pub changes : Always stands_for (λ history. HasNamedChanges (world_of stands_for history))
    pub lengths : Always stands_for (λ history. (actor : ℕ) (call : Call) → FitsCall call
        → let out = step (world_of stands_for history) actor call in length out.bytes ≡ bytes_written call out.reply)
