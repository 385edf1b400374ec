-- The words of a statement that stand for themselves: the name of the file that it is on, the names of the requests that are joined, the
-- tool that it starts, and pieces of bytes. They are there, and of their forms. This project's choice.
use Rattle.std.specs.Prelude.{◌≡◌, ℕ, ◌+◌, ◌<◌, ◌≤◌, Bool, true, false, ◌&&◌, if◌then◌else◌, List, [], ◌∷◌, length, is_some, Some, codes}
use Rattle.std.specs.List.{list_all}
use Rattle.std.specs.Str.{bytes_eq}
use Rattle.gl_base.specs.BytesText.{piece_size}
use Rattle.gl_base.specs.Words.{Span, text_at}
use Rattle.gl_script.specs.declared.limits.TheConstants.{JOINED_MAX}
use Rattle.gl_script.specs.declared.said.Said.{Said}
use Rattle.gl_script.specs.declared.said.Said.TheVariants.{Aggregate, Ioctl, Events, OldIoctl, OldEvents, Changes, Poll, Close, Start}
use Rattle.gl_script.specs.declared.table.Form.{Form}
use Rattle.gl_script.specs.declared.table.Form.TheVariants.{FileName, HeldTool}
use Rattle.gl_script.specs.Forms.{meets}
use Rattle.gl_script.specs.Pieces.{behind_three, behind_two}
use Rattle.gl_script.specs.Said.{said_of}

-- the word of a number is there, and of a form
abbrev pub IsWord : Form → ℕ → List Span → Type 0
IsWord form i words = (i < length words) × (meets form (text_at i words) ≡ true)

abbrev pub are_file_names : List Span → Bool
are_file_names words = list_all (λ (word : Span). meets FileName word.text) words

-- pieces of bytes, up to `as`
abbrev pub are_pieces : List Span → Bool
are_pieces [] = true
are_pieces (word ∷ words) = if bytes_eq word.text (codes "as") then true else (is_some (piece_size word.text) && are_pieces words)

-- nothing, or `as`
abbrev pub are_ended : List Span → Bool
are_ended [] = true
are_ended (word ∷ words) = bytes_eq word.text (codes "as")

-- what says bytes: `-` alone or pieces, up to `as`
abbrev pub are_bytes : List Span → Bool
are_bytes [] = false
are_bytes (word ∷ words) = if bytes_eq word.text (codes "-") then are_ended words else are_pieces (word ∷ words)

-- each statement has its first word, and those that stand for themselves
abbrev pub AreFormed : Said → List Span → Type 0
AreFormed (Aggregate label) words = (2 < length words) × (length words ≤ JOINED_MAX + 2) × (are_file_names (behind_two words) ≡ true)
AreFormed (Ioctl command made) words = (3 < length words) × IsWord FileName 1 words × (are_bytes (behind_three words) ≡ true)
AreFormed (Events len) words = IsWord FileName 1 words
AreFormed (OldIoctl command made) words = (3 < length words) × IsWord FileName 1 words × (are_bytes (behind_three words) ≡ true)
AreFormed (OldEvents len) words = IsWord FileName 1 words
AreFormed (Changes len) words = IsWord FileName 1 words
AreFormed Poll words = IsWord FileName 1 words
AreFormed Close words = IsWord FileName 1 words
AreFormed (Start name) words = IsWord HeldTool 2 words
AreFormed _ words = 0 < length words

-- the words of a statement are so, whatever it says
abbrev pub StatementsAreFormed : Type 0
StatementsAreFormed = (words : List Span) (said : Said) → said_of words ≡ Some said → AreFormed said words
