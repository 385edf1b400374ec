-- Open files, and the refusals with which every call on one begins: from the kernel's document on the GPIO character
-- device. Which refusal comes first is this project's choice.
use Rattle.std.specs.Prelude.{ℕ, Bool, true, false, not, ◌==◌, ◌+◌, ◌^◌, ◌&&◌, ◌||◌, length, nat_le, nat_lt, if◌then◌else◌, [], ◌∷◌, Option, Some, None}
use Rattle.gl_base.specs.Refusals.{first_of, when}
use Rattle.gl_base.specs.declared.errno.Errno.{Errno}
use Rattle.gl_base.specs.declared.errno.Errno.TheVariants.{BadF, Fault, Inval, Io, MFile}
use Rattle.gl_base.specs.declared.limits.TheConstants.{FILES_MAX}
use Rattle.gl_base.specs.declared.lines.Lines.{Lines}
use Rattle.gl_base.specs.declared.settings.Resolved.{Resolved}
use Rattle.gl_uapi.specs.Command.{size_of}
use Rattle.gl_uapi.specs.declared.commands.Command.{Command}
use Rattle.gl_uapi.specs.declared.commands.Command.TheVariants.{ChipInfo, LineInfo, Watch, Unwatch, GetLine, SetConfig, GetValues, SetValues}
use Rattle.gl_watch.specs.Answers.{place_of}
use Rattle.gl_watch.specs.Files.{file_at}
use Rattle.gl_model.specs.declared.call.Part.{Part}
use Rattle.gl_model.specs.declared.call.Part.TheVariants.{Whole, Ask, Tell}
use Rattle.gl_model.specs.declared.reply.Reply.TheVariants.{Go}
use Rattle.gl_model.specs.Outcome.{Outcome, refused, replies}
use Rattle.gl_model.specs.World.{World, Request, request_at}

-- how many files are open or claimed: chip files and requests together
abbrev pub open_count : World → ℕ
open_count w = length w.files + length w.requests

-- why there is no number for a new file: as many as can be are open or claimed, or the last number was given, which is
-- the largest that an `int` holds. Numbers are never used twice. All of this is this project's choice.
abbrev pub number_refusal : World → Option Errno
number_refusal w = when (nat_le FILES_MAX (open_count w) || nat_le (2 ^ 31) w.next) MFile

-- a file's place, where there is such a file, is this one
abbrev pub is_place : ℕ → Option ℕ → Bool
is_place place None = false
is_place place (Some other) = other == place

-- a request, where there is one, holds its lines
abbrev pub is_hold : Option Request → Bool
is_hold None = false
is_hold (Some request) = request.held

-- the place of a request's lines, where there is such a request
abbrev pub request_place : Option Request → Option ℕ
request_place None = None
request_place (Some request) = Some request.place

-- the number is that of an open chip file of this place
abbrev pub is_chip_file : ℕ → ℕ → World → Bool
is_chip_file place fd w = is_place place (place_of (file_at fd w.files))

-- the number is that of an open request of this place; a claim isn't open yet
abbrev pub is_request_file : ℕ → ℕ → World → Bool
is_request_file place fd w = is_hold (request_at w.requests fd) && is_place place (request_place (request_at w.requests fd))

-- a call that is for chip files alone: EBADF where no open file of the place has the number, EINVAL where a request has it
abbrev pub chip_file_refusal : ℕ → ℕ → World → Option Errno
chip_file_refusal place fd w = first_of
    (when (not (is_chip_file place fd w || is_request_file place fd w)) BadF
    ∷ when (not (is_chip_file place fd w)) Inval
    ∷ [])

-- a call that is for requests alone: EBADF where no open file of the place has the number, EINVAL where a chip file has it
abbrev pub request_file_refusal : ℕ → ℕ → World → Option Errno
request_file_refusal place fd w = first_of
    (when (not (is_chip_file place fd w || is_request_file place fd w)) BadF
    ∷ when (not (is_request_file place fd w)) Inval
    ∷ [])

-- the commands of chip files
abbrev pub is_for_chips : Command → Bool
is_for_chips ChipInfo = true
is_for_chips LineInfo = true
is_for_chips Watch = true
is_for_chips Unwatch = true
is_for_chips GetLine = true
is_for_chips SetConfig = false
is_for_chips GetValues = false
is_for_chips SetValues = false

-- a command's file has to be a chip's, or a request's
abbrev pub kind_refusal : ℕ → ℕ → Bool → World → Option Errno
kind_refusal place fd true w = chip_file_refusal place fd w
kind_refusal place fd false w = request_file_refusal place fd w

-- the commands that ask the driver, and so make two entries
abbrev pub asks_driver : Command → Bool
asks_driver ChipInfo = false
asks_driver LineInfo = false
asks_driver Watch = false
asks_driver Unwatch = false
asks_driver GetLine = true
asks_driver SetConfig = true
asks_driver GetValues = true
asks_driver SetValues = true

-- the part is the whole
abbrev pub is_whole : Part → Bool
is_whole Whole = true
is_whole Ask = false
is_whole (Tell answer) = false

-- a command has this part: whole where it asks no driver, else an ask and a tell
abbrev pub has_part : Command → Part → Bool
has_part command part = if asks_driver command then not (is_whole part) else is_whole part

-- Why a command on a file is refused before it is looked at, first case first: no open file of the place has the number;
-- the command isn't one of that kind of file; the buffer is shorter than the command's structure; the command hasn't this
-- part.
abbrev pub command_refusal : ℕ → ℕ → ℕ → Command → Part → World → Option Errno
command_refusal place fd len command part w = first_of
    (kind_refusal place fd (is_for_chips command) w
    ∷ when (nat_lt len (size_of command)) Fault
    ∷ when (not (has_part command part)) Inval
    ∷ [])

-- why a number that is no command's is refused: no open file, or a command of no kind of file
abbrev pub unknown_refusal : ℕ → ℕ → World → Errno
unknown_refusal place fd w = if is_chip_file place fd w || is_request_file place fd w then Inval else BadF

-- A command on the request of a number, by its lines and their settings. Without a request of that number there is none
-- to act on: the cases above come first.
abbrev pub on_request : (Lines → Resolved → World → Outcome) → Option Request → World → Outcome
on_request act None w = refused BadF w
on_request act (Some request) w = act request.lines request.settings w

-- A command in two entries: asked for, it goes to the driver; told, it fails where the driver failed, and else does what
-- it does with the driver's answer, a bit a line.
abbrev pub in_parts : Part → (ℕ → World → Outcome) → World → Outcome
in_parts Whole act w = refused Inval w
in_parts Ask act w = replies (Go 0) w
in_parts (Tell None) act w = refused Io w
in_parts (Tell (Some bits)) act w = act bits w
