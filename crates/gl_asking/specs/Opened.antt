-- Opening a chip: the file that it gives.
use Rattle.std.specs.Prelude.{ℕ, List, Option, Some, None, Result}
use Rattle.gl_base.specs.ChipWord.{chip_number_of}
use Rattle.gl_base.specs.declared.errno.Errno.{Errno}
use Rattle.gl_model.specs.declared.reply.Reply.{Reply}
use Rattle.gl_model.specs.declared.reply.Reply.TheVariants.{Number}
use Rattle.gl_asking.specs.Results.{value_of}

-- an open chip: its place, and the number of the file
pub record ChipFile : Type 0 where
  pub place : ℕ
  pub fd : ℕ

-- the place that a word names: 0 where it names none
abbrev pub place_or_first : Option ℕ → ℕ
place_or_first None = 0
place_or_first (Some place) = place

abbrev pub place_named : List ℕ → ℕ
place_named word = place_or_first (chip_number_of word)

-- the file of a chip that was opened: its place is the one that the word names, its number the one that was answered
abbrev pub file_in : List ℕ → Reply → ChipFile
file_in word (Number fd) = record { place = place_named word; fd = fd }
file_in word reply = record { place = 0; fd = 0 }

-- that file, or why the chip wasn't opened
abbrev pub opened_of : List ℕ → Reply → Result ChipFile Errno
opened_of word reply = value_of (file_in word) reply
