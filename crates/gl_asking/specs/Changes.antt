-- What becomes of the open files by an operation, as the code says it.
use Rattle.std.specs.Prelude.{◌≡◌, ℕ, ◌<◌, ◌^◌, true, List, replicate, Option, None, Some}
use Rattle.gl_base.specs.Lines.{IsLineCount}
use Rattle.gl_base.specs.declared.command.TheConstants.{GET_LINE}
use Rattle.gl_base.specs.declared.limits.TheConstants.{PLACES}
use Rattle.gl_base.specs.declared.lines.Lines.{Lines}
use Rattle.gl_base.specs.declared.operation.Do.{Do}
use Rattle.gl_base.specs.declared.operation.Do.TheVariants.{OpenChip, Ioctl, ReadFile}
use Rattle.gl_model.specs.declared.reply.Reply.{Reply}
use Rattle.gl_model.specs.declared.reply.Reply.TheVariants.{Number}
use Rattle.gl_model.specs.Written.{number_answered}
use Rattle.gl_asking.specs.declared.kinds.Answered.{Answered}
use Rattle.gl_asking.specs.declared.kinds.Change.{Change}
use Rattle.gl_asking.specs.declared.kinds.Change.TheVariants.{Stays, Adds, Removes}
use Rattle.gl_asking.specs.declared.kinds.FileRow.{FileRow}
use Rattle.gl_asking.specs.Asking.{buffer_of, lines_named, written_over}
use Rattle.gl_asking.specs.Files.{OpenFile, with_file, without_file}
use Rattle.gl_asking.specs.Opened.{place_named}
use Rattle.gl_asking.specs.Rows.{IsRow, is_on_chip, row_file}

-- the files after a change
abbrev pub changed : Change FileRow → List OpenFile → List OpenFile
changed Stays files = files
changed (Adds row) files = with_file (row_file row) files
changed (Removes slot) files = without_file slot files

-- a row more is a row
abbrev pub IsChange : Change FileRow → Type 0
IsChange Stays = Unit {0}
IsChange (Adds row) = IsRow row
IsChange (Removes slot) = Unit {0}

-- A reply of the machine that opens a file tells a number of 32 bits. Only a word that names a place opens a chip, and only a structure
-- that names 1 to 64 lines makes a request.
abbrev pub OpensWithin : Do → Reply → Type 0
OpensWithin (OpenChip slot word) reply = (number_answered reply < 2 ^ 32) × ((fd : ℕ) → reply ≡ Number fd → place_named word < PLACES)
OpensWithin (Ioctl slot cmd len bytes made) reply =
    (number_answered reply < 2 ^ 32) × (cmd ≡ GET_LINE → (fd : ℕ) → reply ≡ Number fd → IsLineCount (lines_named (buffer_of len bytes)).count)
OpensWithin _ reply = Unit {0}

-- there are lines, 1 to 64
abbrev pub AreSome : Option Lines → Type 0
AreSome None = ⊥
AreSome (Some lines) = IsLineCount lines.count

-- the lines that were asked for by an operation that made a request on a chip's file are those that its structure names
abbrev pub NamesMade : Do → Option FileRow → Answered → Type 0
NamesMade (Ioctl slot cmd len bytes made) row answered =
    cmd ≡ GET_LINE → (fd : ℕ) → answered.reply ≡ Number fd → is_on_chip row ≡ true → answered.lines ≡ Some (lines_named (buffer_of len bytes))
NamesMade _ row answered = Unit {0}

-- the buffer after a call that wrote this, of the operations whose result has bytes
abbrev pub IsFilled : Do → List ℕ → List ℕ → Type 0
IsFilled (Ioctl slot cmd len bytes made) wrote buffer = buffer ≡ written_over wrote (buffer_of len bytes)
IsFilled (ReadFile slot len) wrote buffer = buffer ≡ written_over wrote (replicate len 0)
IsFilled _ wrote buffer = Unit {0}
