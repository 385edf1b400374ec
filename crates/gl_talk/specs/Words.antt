-- The values of a statement's words. The words of a session are of their forms, and each is read as what it is
-- (`StatementsAskWhatTheySay`). A definition has to say something of other words too: there a number is the least, a place the first,
-- a name, a label and a path have no bytes, and what is done with an interrupt is that it is taken away for good. This project's choice.
use Rattle.std.specs.Prelude.{ℕ, Bool, true, false, nat_lt, if◌then◌else◌, List, [], ◌∷◌, ◌++◌, Option, Some, None, codes}
use Rattle.std.specs.Str.{bytes_eq}
use Rattle.gl_base.specs.BytesText.{bytes_or_none, piece_bytes}
use Rattle.gl_base.specs.ChipWord.{chip_number_of}
use Rattle.gl_base.specs.CommandWord.{command_number_of}
use Rattle.gl_base.specs.Name.{is_name}
use Rattle.gl_base.specs.Path.{is_path}
use Rattle.gl_base.specs.Words.{Span}
use Rattle.gl_base.specs.declared.irq.IrqDo.{IrqDo}
use Rattle.gl_base.specs.declared.irq.IrqDo.TheVariants.{Lock, Unlock, Enable, Disable, Never}
use Rattle.gl_base.specs.declared.limits.TheConstants.{PLACES}
use Rattle.gl_script.specs.declared.said.Said.{Said}
use Rattle.gl_script.specs.declared.said.Said.TheVariants.{Ioctl, Events, OldIoctl, OldEvents, Changes, Poll, Close}
use Rattle.gl_script.specs.Cost.{or_zero}
use Rattle.gl_script.specs.Forms.{label_of, number_within}
pub use Rattle.gl_script.specs.Pieces.{behind_two, behind_three, name_behind_as}

abbrev pub name_word : List ℕ → List ℕ
name_word word = if is_name word then word else []

-- the label or the value that a word says
abbrev pub label_word : List ℕ → List ℕ
label_word word = bytes_or_none (label_of word)

abbrev pub path_word : List ℕ → List ℕ
path_word word = if is_path word then word else []

abbrev pub or_else : ℕ → Option ℕ → ℕ
or_else other None = other
or_else other (Some n) = n

-- the number that a word is, from low to high; else low
abbrev pub number_word : ℕ → ℕ → List ℕ → ℕ
number_word low high word = or_else low (number_within low high word)

-- how many turns a step has; none where the word is of another form
abbrev pub turns_word : List ℕ → ℕ
turns_word word = or_zero (number_within 1 1000 word)

-- the place of a chip
abbrev pub place_of : Option ℕ → ℕ
place_of None = 0
place_of (Some n) = if nat_lt n PLACES then n else 0

abbrev pub place_word : List ℕ → ℕ
place_word word = place_of (chip_number_of word)

-- the number of a command
abbrev pub command_word : List ℕ → ℕ
command_word word = or_else 0 (command_number_of word)

-- what is done with an interrupt
abbrev pub irq_word : List ℕ → IrqDo
irq_word word =
    if bytes_eq word (codes "lock") then Lock
    else if bytes_eq word (codes "unlock") then Unlock
    else if bytes_eq word (codes "enable") then Enable
    else if bytes_eq word (codes "disable") then Disable
    else Never

-- the direction that the value of a pull names, if it names one
abbrev pub pull_word : List ℕ → Option Bool
pull_word word = if bytes_eq word (codes "pull-up") then Some true else if bytes_eq word (codes "pull-down") then Some false else None

-- whether a device comes up, by the value of its `live`, if it is one
abbrev pub live_word : List ℕ → Option Bool
live_word word = if bytes_eq word (codes "1") then Some true else if bytes_eq word (codes "0") then Some false else None

-- the bytes of the pieces before `as`
abbrev pub bytes_said : List Span → List ℕ
bytes_said [] = []
bytes_said (word ∷ words) = if bytes_eq word.text (codes "as") then [] else piece_bytes word.text ++ bytes_said words

-- a statement is a command, whose bytes are read from its pieces
abbrev pub is_command : Said → Bool
is_command (Ioctl command made) = true
is_command (OldIoctl command made) = true
is_command _ = false

-- it is on a file that is there, by its name
abbrev pub is_on_file : Said → Bool
is_on_file (Ioctl command made) = true
is_on_file (Events len) = true
is_on_file (OldIoctl command made) = true
is_on_file (OldEvents len) = true
is_on_file (Changes len) = true
is_on_file Poll = true
is_on_file Close = true
is_on_file _ = false

-- the bytes that a statement says in pieces
abbrev pub bytes_in : Said → List Span → List ℕ
bytes_in (Ioctl command made) words = bytes_said (behind_three words)
bytes_in (OldIoctl command made) words = bytes_said (behind_three words)
bytes_in _ words = []

-- the name of the file that a command makes: the one after `as`, which stands after the statement's first three words (a file may have the name `as` too)
abbrev pub made_name : List Span → List ℕ
made_name words = name_behind_as (behind_three words)
