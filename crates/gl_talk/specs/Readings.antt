-- What a word is read as where it is of its form: itself, so no default is taken in a session. This project's choice.
use Rattle.std.specs.Prelude.{◌≡◌, ℕ, true, List, [], length, Option, Some, codes}
use Rattle.gl_args.specs.declared.names.ToolName.{ToolName}
use Rattle.gl_args.specs.declared.names.ToolName.TheVariants.{Set, Watch, Notify}
use Rattle.gl_args.specs.Names.{tool_named}
use Rattle.gl_base.specs.BytesText.{piece_bytes, piece_of, piece_size}
use Rattle.gl_base.specs.Name.{is_name}
use Rattle.gl_script.specs.Forms.{label_in, meets}
use Rattle.gl_script.specs.declared.table.Form.TheVariants.{FileName, Label, Path, Word, HeldTool}
use Rattle.gl_script.specs.declared.version.Version.{Version}
use Rattle.gl_script.specs.declared.version.Version.TheVariants.{One, Two}
use Rattle.gl_talk.specs.Words.{label_word, name_word, path_word}

-- a tool can be started
abbrev pub CanStart : Option ToolName → Type 0
CanStart (Some Set) = Unit {0}
CanStart (Some Watch) = Unit {0}
CanStart (Some Notify) = Unit {0}
CanStart _ = ⊥

-- a label or a value is read as the name that its word says in a session of its version
abbrev pub LabelsAreRead : Type 0
LabelsAreRead = (version : Version) (word name : List ℕ) → label_in version word ≡ Some name → (label_word word ≡ name) × (is_name name ≡ true)

-- in `session 1` and `session 2` that is the word itself
abbrev pub PlainLabelsAreRead : Type 0
PlainLabelsAreRead = (word : List ℕ) → (meets (Label One) word ≡ true → label_word word ≡ word) × (meets (Label Two) word ≡ true → label_word word ≡ word)

-- the name of a file or a tool, a path and a chip's word are read as what they are
abbrev pub NamesAreRead : Type 0
NamesAreRead = (word : List ℕ) → meets FileName word ≡ true → name_word word ≡ word

abbrev pub PathsAreRead : Type 0
PathsAreRead = (word : List ℕ) → meets Path word ≡ true → path_word word ≡ word

abbrev pub WordsAreRead : Type 0
WordsAreRead = (word : List ℕ) → meets Word word ≡ true → path_word word ≡ word

-- so is the tool of `start`
abbrev pub HeldToolsAreRead : Type 0
HeldToolsAreRead = (word : List ℕ) → meets HeldTool word ≡ true → CanStart (tool_named word)

-- A piece is read as its bytes, and they are as many as its size says; the form of pieces is that they have a size. `-` has no bytes.
abbrev pub PiecesAreRead : Type 0
PiecesAreRead = (word : List ℕ) (size : ℕ) → piece_size word ≡ Some size → (piece_of word ≡ Some (piece_bytes word)) × (length (piece_bytes word) ≡ size)

abbrev pub NoBytesAreRead : Type 0
NoBytesAreRead = piece_bytes (codes "-") ≡ []
