-- The words of a statement that are left while they are read one after the other, and what the reader of one answers. This project's choice.
use Rattle.std.specs.Prelude.{◌≡◌, ◌+◌, ◌<◌, ◌^◌, ℕ, Bool, true, if◌then◌else◌, List, [], ◌∷◌, length, Option, None, Some, Result, Ok, Err, codes}
use Rattle.std.specs.Str.{bytes_eq}
use Rattle.gl_base.specs.Words.{Span, end_of, text_at, words_at}
use Rattle.gl_script.specs.declared.cursor.Cursor.{Cursor}
use Rattle.gl_script.specs.declared.forms.PinWord.{PinWord}
use Rattle.gl_script.specs.declared.forms.PinWord.TheVariants.{Range, Hold, Drop}
use Rattle.gl_script.specs.declared.refusal.RefusalKind.TheVariants.{Word, Words}
use Rattle.gl_script.specs.declared.refusal.Spot.{Spot}
use Rattle.gl_script.specs.declared.said.Said.{Said}
use Rattle.gl_script.specs.declared.table.Form.{Form}
use Rattle.gl_script.specs.declared.table.Keyword.{Keyword}
use Rattle.gl_script.specs.declared.version.Version.{Version}
use Rattle.gl_script.specs.declared.version.Version.TheVariants.{Three}
use Rattle.gl_script.specs.Faults.{bytes_fault, makes_file, more_fault, names_fault, spot, statement_fault, wanted_fault}
use Rattle.gl_script.specs.Forms.{meets}
use Rattle.gl_script.specs.Pieces.{made_by}
use Rattle.gl_script.specs.Said.{said_by, values}
use Rattle.gl_script.specs.Table.{Wanted, wanted}

-- the words that are left, and where the word before them ends
pub record Left : Type 0 where
  pub end : ℕ
  pub words : List Span

abbrev pub left_in : Cursor → Left
left_in cursor = record { end = cursor.end; words = words_at cursor.at cursor.rest.now }

-- its places are those of a line
abbrev pub IsShort : Cursor → Type 0
IsShort cursor = (cursor.end < 2 ^ 32) × (cursor.at + length cursor.rest.now + 1 < 2 ^ 32)

-- what is done with pins, by the word behind `pin`
abbrev pub pin_word_of : List ℕ → Option PinWord
pin_word_of word =
    if bytes_eq word (codes "range") then Some Range
    else if bytes_eq word (codes "hold") then Some Hold
    else if bytes_eq word (codes "drop") then Some Drop
    else None

-- the fault of a word that is to be of a form
abbrev pub misread : Form → ℕ → List Span → Option Spot
misread form end [] = Some (spot end Words)
misread form end (word ∷ words) = if meets form word.text then None else Some (spot word.at Word)

-- A word of a form was read: what it says, and what is left behind it; or else its fault.
abbrev pub Reads : {A : Type 0} → Form → (List ℕ → Option A) → Left → Left → Result A Spot → Type 0
Reads form read old new (Ok value) = (word : Span) × (old.words ≡ word ∷ new.words) × (new.end ≡ end_of word) × (meets form word.text ≡ true) × (read word.text ≡ Some value)
Reads form read old new (Err fault) = misread form old.end old.words ≡ Some fault

-- no word is left, or that is the fault
abbrev pub IsEnd : Left → Result (Unit {0}) Spot → Type 0
IsEnd left (Ok done) = more_fault left.words ≡ None
IsEnd left (Err fault) = more_fault left.words ≡ Some fault

-- Words were read: they have no fault, and what they say; or else their fault.
abbrev pub Finds : {A : Type 0} → Option Spot → Option A → Result A Spot → Type 0
Finds fault says (Ok value) = (fault ≡ None) × (says ≡ Some value)
Finds fault says (Err found) = fault ≡ Some found

-- at most so many names of files
abbrev pub AreNames : ℕ → Left → Result (Unit {0}) Spot → Type 0
AreNames most left result = Finds (names_fault most left.words) (Some tt) result

-- pieces of bytes, and the name of the file that is made
abbrev pub ArePieces : Bool → Left → Result (Option (List ℕ)) Spot → Type 0
ArePieces makes left result = Finds (bytes_fault makes left.end left.words) (made_by makes left.words) result

-- words of these forms
abbrev pub Says : Wanted → Option Said → Left → Result Said Spot → Type 0
Says row says left result = Finds (wanted_fault row left.end left.words) says result

-- the same of all words behind that of a statement, in a session of this version
abbrev pub IsReadIn : Version → Keyword → Left → Result Said Spot → Type 0
IsReadIn version keyword left result = Says (wanted version keyword (text_at 0 left.words) (makes_file keyword left.words)) (values keyword left.words) left result

-- the same of a statement whose forms don't go by the version
abbrev pub IsRead : Keyword → Left → Result Said Spot → Type 0
IsRead keyword left result = IsReadIn Three keyword left result

-- Words were read as a statement of a session of this version: what they say, or else their first fault.
abbrev pub IsStated : Version → Option Keyword → Span → List Span → Result Said Spot → Type 0
IsStated version keyword first words result = Finds (statement_fault version keyword first words) (said_by keyword first words) result
