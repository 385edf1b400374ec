-- A call, as what an operation is, and what is handed in of the file that it acts on. This project's choice.
use Rattle.std.specs.Prelude.{◌≡◌, Bool, true, false, List, Option, None, Some}
use Rattle.gl_base.specs.declared.operation.Do.{Do}
use Rattle.gl_model.specs.declared.call.Call.{Call}
use Rattle.gl_model.specs.declared.call.Call.TheVariants.{Close}
use Rattle.gl_model.specs.declared.device_call.DeviceCall.{DeviceCall}
use Rattle.gl_model.specs.declared.device_call.DeviceCall.TheVariants.{Once, Removing, Commanding}
use Rattle.gl_model.specs.declared.reply.Reply.{Reply}
use Rattle.gl_model.specs.declared.reply.Reply.TheVariants.{Refused}
use Rattle.gl_asking.specs.Asking.{asking, file_for}
use Rattle.gl_asking.specs.Files.{OpenFile}
use Rattle.gl_asking.specs.Rows.{file_of, kind_of}
use Rattle.gl_asking.specs.declared.kinds.Asking.TheVariants.{Calls}
use Rattle.gl_asking.specs.declared.kinds.FileKind.{FileKind}
use Rattle.gl_asking.specs.declared.kinds.FileRow.{FileRow}
use Rattle.gl_chip.specs.declared.held.Handed.{Handed}
use Rattle.gl_chip.specs.declared.held.Handed.TheVariants.{Nothing, Lent, GivenUp}

-- the call is what an operation on the file of this row is, among some open files
abbrev pub IsCallOf : Do → Option FileRow → DeviceCall → Type 0
IsCallOf what row call = (files : List OpenFile) × (file_for what files ≡ file_of row) × (asking files what ≡ Calls call)

-- the row of the file that is handed in
abbrev pub row_in : Handed → Option FileRow
row_in Nothing = None
row_in (Lent file) = Some file.now
row_in (GivenUp file) = Some file

-- what it is of; where there is none, that means nothing
abbrev pub kind_in : Handed → FileKind
kind_in handed = kind_of (row_in handed)

-- it isn't lent, and whoever had it has it no more
abbrev pub is_given_up : Handed → Bool
is_given_up Nothing = false
is_given_up (Lent file) = false
is_given_up (GivenUp file) = true

-- the file that was given up, if one was
abbrev pub given_up_in : Handed → Option FileRow
given_up_in Nothing = None
given_up_in (Lent file) = None
given_up_in (GivenUp file) = Some file

-- the file that comes back after a call with this reply: one that was given up to it, where it was refused
abbrev pub given_back : Handed → Reply → Option FileRow
given_back handed (Refused errno) = given_up_in handed
given_back handed _ = None

-- the call closes a file
abbrev pub is_closing : Call → Bool
is_closing (Close fd) = true
is_closing _ = false

abbrev pub is_close : DeviceCall → Bool
is_close (Once call) = is_closing call
is_close (Removing removal) = false
is_close (Commanding command) = false
