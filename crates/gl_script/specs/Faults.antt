-- The first fault of a line, by the stated order of faults. This project's choice.
use Rattle.std.specs.Prelude.{ℕ, ◌+◌, ◌-◌, Bool, false, ◌&&◌, ◌||◌, ◌==◌, nat_eq, nat_le, nat_lt, if◌then◌else◌, List, [], ◌∷◌, length, Option, None, Some, codes, Result, Ok, Err}
use Rattle.std.specs.Option.{option_or}
use Rattle.std.specs.Str.{bytes_eq}
use Rattle.gl_base.specs.BytesText.{piece_size}
use Rattle.gl_base.specs.CommandWord.{command_number_of}
use Rattle.gl_base.specs.declared.command.TheConstants.{GET_LINE}
use Rattle.gl_script.specs.declared.limits.TheConstants.{WORD_MAX, WORDS_MAX, PIECES_MAX}
use Rattle.gl_script.specs.declared.refusal.RefusalKind.{RefusalKind}
use Rattle.gl_script.specs.declared.refusal.RefusalKind.TheVariants.{Byte, Statement, Words, Word, Limit}
use Rattle.gl_script.specs.declared.refusal.Spot.{Spot}
use Rattle.gl_script.specs.declared.table.Form.{Form}
use Rattle.gl_script.specs.declared.table.Form.TheVariants.{FileName}
use Rattle.gl_script.specs.declared.table.Keyword.{Keyword}
use Rattle.gl_script.specs.declared.table.Keyword.TheVariants.{OldIoctl}
use Rattle.gl_script.specs.declared.version.Version.{Version}
use Rattle.gl_v1.specs.Words.{makes_file as makes_old_file, old_number_of}
use Rattle.gl_base.specs.Words.{Span, end_of, text_at}
use Rattle.gl_script.specs.Table.{Tail, Wanted, wanted, NoMore, Anything, FileNames, Pieces}
use Rattle.gl_script.specs.Forms.{meets}

-- a fault at a column
abbrev pub spot : ℕ → RefusalKind → Spot
spot column kind = record { column = column; kind = kind }

abbrev pub is_printable : ℕ → Bool
is_printable byte = nat_le 32 byte && nat_le byte 126

-- the fault of a result
abbrev pub err_of : Result ℕ Spot → Option Spot
err_of (Ok n) = None
err_of (Err fault) = Some fault

-- the first byte that isn't printable
abbrev pub byte_fault : ℕ → List ℕ → Option Spot
byte_fault at [] = None
byte_fault at (byte ∷ bytes) = if is_printable byte then byte_fault (at + 1) bytes else Some (spot at Byte)

-- the first word that is too long or one too many, where so many words stand before
abbrev pub size_fault : ℕ → List Span → Option Spot
size_fault count [] = None
size_fault count (word ∷ words) =
    if nat_le WORDS_MAX count || nat_lt WORD_MAX (length word.text) then Some (spot word.at Limit) else size_fault (count + 1) words

-- no word is left
abbrev pub more_fault : List Span → Option Spot
more_fault [] = None
more_fault (word ∷ words) = Some (spot word.at Words)

-- words of these forms, and no more; the words before end at a place
abbrev pub forms_fault : List Form → (ℕ → List Span → Option Spot) → ℕ → List Span → Option Spot
forms_fault [] tail end words = tail end words
forms_fault (form ∷ forms) tail end [] = Some (spot end Words)
forms_fault (form ∷ forms) tail end (word ∷ words) =
    if meets form word.text then forms_fault forms tail (end_of word) words else Some (spot word.at Word)

-- `NAME`, and no more
abbrev pub name_fault : ℕ → List Span → Option Spot
name_fault end words = forms_fault (FileName ∷ []) (λ _. more_fault) end words

-- at most so many names of files
abbrev pub names_fault : ℕ → List Span → Option Spot
names_fault most [] = None
names_fault most (word ∷ words) =
    if nat_eq most 0 then Some (spot word.at Words)
    else if meets FileName word.text then names_fault (most - 1) words else Some (spot word.at Word)

-- `as NAME`, and no more
abbrev pub as_fault : ℕ → List Span → Option Spot
as_fault end [] = Some (spot end Words)
as_fault end (word ∷ words) = if bytes_eq word.text (codes "as") then name_fault (end_of word) words else Some (spot word.at Word)

-- one more span, where so many bytes were said
abbrev pub size_of : Option ℕ → ℕ
size_of None = 0
size_of (Some n) = n

abbrev pub piece_fault : ℕ → ℕ → Option ℕ → Option Spot
piece_fault said at None = Some (spot at Word)
piece_fault said at (Some size) = if nat_lt PIECES_MAX (said + size) then Some (spot at Limit) else None

-- further pieces, and then `as NAME` exactly where a file is made
abbrev pub pieces_fault : Bool → ℕ → ℕ → List Span → Option Spot
pieces_fault makes said end [] = if makes then Some (spot end Words) else None
pieces_fault makes said end (word ∷ words) =
    if makes && bytes_eq word.text (codes "as") then name_fault (end_of word) words
    else option_or (piece_fault said word.at (piece_size word.text)) (pieces_fault makes (said + size_of (piece_size word.text)) (end_of word) words)

-- `-` alone or at least one span, and then `as NAME` exactly where a file is made
abbrev pub bytes_fault : Bool → ℕ → List Span → Option Spot
bytes_fault makes end [] = Some (spot end Words)
bytes_fault makes end (word ∷ words) =
    if bytes_eq word.text (codes "-") then (if makes then as_fault (end_of word) words else more_fault words)
    else option_or (piece_fault 0 word.at (piece_size word.text)) (pieces_fault makes (0 + size_of (piece_size word.text)) (end_of word) words)

abbrev pub tail_fault : Tail → ℕ → List Span → Option Spot
tail_fault NoMore end words = more_fault words
tail_fault Anything end words = None
tail_fault (FileNames most) end words = names_fault most words
tail_fault (Pieces makes) end words = bytes_fault makes end words

-- GET_LINE alone makes a file of v2
abbrev pub is_get_line : Option ℕ → Bool
is_get_line None = false
is_get_line (Some number) = number == GET_LINE

-- the command of a statement makes a file, by its word
abbrev pub makes : Keyword → List ℕ → Bool
makes OldIoctl command = makes_old_file (old_number_of command)
makes _ command = is_get_line (command_number_of command)

-- the third word of a statement is such a command
abbrev pub makes_file : Keyword → List Span → Bool
makes_file keyword words = makes keyword (text_at 1 words)

abbrev pub wanted_fault : Wanted → ℕ → List Span → Option Spot
wanted_fault w end words = forms_fault w.forms (tail_fault w.tail) end words

-- the first fault of a statement that begins with this word, in a session of this version
abbrev pub statement_fault : Version → Option Keyword → Span → List Span → Option Spot
statement_fault version None first words = Some (spot first.at Statement)
statement_fault version (Some keyword) first words =
    wanted_fault (wanted version keyword (text_at 0 words) (makes_file keyword words)) (end_of first) words
