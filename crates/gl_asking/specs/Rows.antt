-- What the rows of the code stand for.
use Rattle.std.specs.Prelude.{◌≡◌, ◌<◌, ℕ, Bool, true, false, Option, None, Some}
use Rattle.gl_base.specs.Lines.{IsLineCount}
use Rattle.gl_base.specs.declared.limits.TheConstants.{PLACES}
use Rattle.gl_base.specs.declared.lines.Lines.{Lines}
use Rattle.gl_model.specs.declared.call.Call.{Call}
use Rattle.gl_model.specs.declared.call.Call.TheVariants.{Close, PollChip, PollLine, ReadEdges, ReadInfo}
use Rattle.gl_model.specs.declared.device_call.DeviceCall.{DeviceCall}
use Rattle.gl_model.specs.declared.device_call.DeviceCall.TheVariants.{Once, Removing, Commanding}
use Rattle.gl_asking.specs.declared.kinds.Asking.{Asking}
use Rattle.gl_asking.specs.declared.kinds.Asking.TheVariants.{Calls, Plans, Accepts, Refuses}
use Rattle.gl_asking.specs.declared.kinds.FileKind.{FileKind}
use Rattle.gl_asking.specs.declared.kinds.FileKind.TheVariants.{Chip, Request}
use Rattle.gl_asking.specs.declared.kinds.FileRow.{FileRow}
use Rattle.gl_asking.specs.Files.{OpenFile, no_lines}

abbrev pub is_chip : FileKind → Bool
is_chip Chip = true
is_chip (Request lines) = false

abbrev pub lines_of : FileKind → Lines
lines_of Chip = no_lines
lines_of (Request lines) = lines

-- the open file of a row
abbrev pub row_file : FileRow → OpenFile
row_file row = record { slot = row.slot; place = row.place; fd = row.fd; of_chip = is_chip row.kind; lines = lines_of row.kind }

abbrev pub file_of : Option FileRow → Option OpenFile
file_of None = None
file_of (Some row) = Some (row_file row)

-- what the file of an operation is of; where it names none, that means nothing
abbrev pub kind_of : Option FileRow → FileKind
kind_of None = Chip
kind_of (Some row) = row.kind

-- there is a row, and it is a chip's
abbrev pub is_on_chip : Option FileRow → Bool
is_on_chip None = false
is_on_chip (Some row) = is_chip row.kind

-- a request has as many lines as one may have
abbrev pub HasLines : FileKind → Type 0
HasLines Chip = Unit {0}
HasLines (Request lines) = IsLineCount lines.count

-- A row is one of a place, and a request's has its lines.
pub record IsRow (row : FileRow) : Type 0 where
  pub place : row.place < PLACES
  pub lines : HasLines row.kind

abbrev pub IsSomeRow : Option FileRow → Type 0
IsSomeRow None = Unit {0}
IsSomeRow (Some row) = IsRow row

-- there is a row, and this is true of it
abbrev pub OfRow : Option FileRow → (FileRow → Type 0) → Type 0
OfRow None P = ⊥
OfRow (Some row) P = P row

-- the row of a file at this place, of this number, and of a chip or of a request
abbrev pub IsRowOf : ℕ → ℕ → Bool → FileRow → Type 0
IsRowOf place fd of_chip row = (place ≡ row.place) × (fd ≡ row.fd) × (of_chip ≡ is_chip row.kind)

-- a read, a poll or a close is on the file of this row; no other call of the machine that is whole by itself acts on a file
abbrev pub IsCallOn : Call → Option FileRow → Type 0
IsCallOn (ReadEdges place fd len) row = OfRow row (IsRowOf place fd false)
IsCallOn (ReadInfo place fd len) row = OfRow row (IsRowOf place fd true)
IsCallOn (PollLine place fd) row = OfRow row (IsRowOf place fd false)
IsCallOn (PollChip place fd) row = OfRow row (IsRowOf place fd true)
IsCallOn (Close fd) row = OfRow row (λ r. fd ≡ r.fd)
IsCallOn _ row = Unit {0}

-- a call that acts on a file is on the file of this row
abbrev pub IsOn : DeviceCall → Option FileRow → Type 0
IsOn (Once call) row = IsCallOn call row
IsOn (Removing removal) row = Unit {0}
IsOn (Commanding command) row = OfRow row (IsRowOf command.place command.fd command.of_chip)

-- what is asked for is on the file of this row, where it acts on one
abbrev pub AsksOn : Option FileRow → Asking → Type 0
AsksOn row (Calls call) = IsOn call row
AsksOn row (Plans nth) = Unit {0}
AsksOn row (Accepts bits) = Unit {0}
AsksOn row (Refuses errno) = Unit {0}
