-- What words say in a session of one version they say in `session 3`, which has all forms.
use Rattle.std.proofs.Common.{◌≡◌, ℕ, Bool, true, false, List, [], ◌∷◌, Option, None, Some, refl, ◌∙◌, ap}
use Rattle.std.specs.Prelude.{if◌then◌else◌, is_some, Result, Ok, Err}
use Rattle.std.specs.Option.{option_or}
use Rattle.gl_base.specs.Label.{is_label_byte}
use Rattle.gl_base.specs.Words.{Span, end_of, text_at}
use Rattle.gl_base.specs.declared.limits.TheConstants.{LINES_MAX}
use Rattle.gl_script.specs.declared.limits.TheConstants.{JOINED_MAX}
use Rattle.gl_script.specs.declared.refusal.RefusalKind.TheVariants.{Word}
use Rattle.gl_script.specs.declared.refusal.Spot.{Spot}
use Rattle.gl_script.specs.declared.said.Said.{Said}
use Rattle.gl_script.specs.declared.table.Form.{Form}
use Rattle.gl_script.specs.declared.table.Form.TheVariants.{FileName, Label, Number, Path}
use Rattle.gl_script.specs.declared.table.Keyword.{Keyword}
use Rattle.gl_script.specs.declared.table.Keyword.TheVariants.{Aggregate, Probe, Write}
use Rattle.gl_script.specs.declared.version.Version.{Version}
use Rattle.gl_script.specs.declared.version.Version.TheVariants.{One, Two, Three}
use Rattle.gl_script.specs.Faults.{forms_fault, makes_file, spot, statement_fault, tail_fault, wanted_fault}
use Rattle.gl_script.specs.Forms.{escaped_name, label_in, label_of, meets, text_of}
use Rattle.gl_script.specs.Left.{Finds, Left, Reads}
use Rattle.gl_script.specs.Said.{said_by, unless_fault, values}
use Rattle.gl_script.specs.Table.{FileNames, NoMore, wanted}

-- a label or a value of one version is the same in `session 3`
or_more : (plain other : Option (List ℕ)) (name : List ℕ) → option_or plain None ≡ Some name → option_or plain other ≡ Some name
or_more None other name e = cc
or_more (Some text) other name e = e

pub label_widens : (version : Version) (word name : List ℕ) → label_in version word ≡ Some name → label_of word ≡ Some name
label_widens One word name e = or_more (text_of is_label_byte 31 word) (escaped_name word) name e
label_widens Two word name e = or_more (text_of is_label_byte 31 word) (escaped_name word) name e
label_widens Three word name e = e

there_by : (o : Option (List ℕ)) (wide : Option (List ℕ)) → ((name : List ℕ) → o ≡ Some name → wide ≡ Some name) → is_some o ≡ true → is_some wide ≡ true
there_by None wide widens e = cc
there_by (Some name) wide widens e = ap (λ (found : Option (List ℕ)). is_some found) (widens name refl)

form_widens : (version : Version) (word : List ℕ) → meets (Label version) word ≡ true → meets (Label Three) word ≡ true
form_widens version word e = there_by (label_in version word) (label_of word) (label_widens version word) e

-- so words without a fault have none there
wider : (narrow wide : Bool) (next : Option Spot) (fault : Spot) → (narrow ≡ true → wide ≡ true) → (if narrow then next else Some fault) ≡ None → (if wide then next else Some fault) ≡ None
wider true wide next fault widens e = ap (λ (b : Bool). if b then next else Some fault) (widens refl) ∙ e
wider false wide next fault widens e = cc

first_widens : (version : Version) (forms : List Form) (tail : ℕ → List Span → Option Spot) (end : ℕ) (words : List Span)
    → forms_fault (Label version ∷ forms) tail end words ≡ None → forms_fault (Label Three ∷ forms) tail end words ≡ None
first_widens version forms tail end [] e = cc
first_widens version forms tail end (word ∷ words) e =
    wider (meets (Label version) word.text) (meets (Label Three) word.text) (forms_fault forms tail (end_of word) words) (spot word.at Word) (form_widens version word.text) e

behind : (b : Bool) (narrow wide : Option Spot) (fault : Spot) → (narrow ≡ None → wide ≡ None) → (if b then narrow else Some fault) ≡ None → (if b then wide else Some fault) ≡ None
behind true narrow wide fault widens e = widens e
behind false narrow wide fault widens e = cc

second_widens : (version : Version) (form : Form) (forms : List Form) (tail : ℕ → List Span → Option Spot) (end : ℕ) (words : List Span)
    → forms_fault (form ∷ Label version ∷ forms) tail end words ≡ None → forms_fault (form ∷ Label Three ∷ forms) tail end words ≡ None
second_widens version form forms tail end [] e = cc
second_widens version form forms tail end (word ∷ words) e =
    behind (meets form word.text) (forms_fault (Label version ∷ forms) tail (end_of word) words) (forms_fault (Label Three ∷ forms) tail (end_of word) words) (spot word.at Word)
    (first_widens version forms tail (end_of word) words) e

pub fault_widens : (version : Version) (keyword : Keyword) (first : Span) (words : List Span) → statement_fault version (Some keyword) first words ≡ None → statement_fault Three (Some keyword) first words ≡ None
fault_widens version Probe first words e = first_widens version (Number 1 LINES_MAX ∷ []) (tail_fault NoMore) (end_of first) words e
fault_widens version Write first words e = second_widens version Path [] (tail_fault NoMore) (end_of first) words e
fault_widens version Aggregate first words e = first_widens version (FileName ∷ []) (tail_fault (FileNames 3)) (end_of first) words e
fault_widens version keyword first words e = e

-- a word that was read as a label of one version
pub read_widens : (version : Version) (old new : Left) (result : Result (List ℕ) Spot) → Reads (Label version) (λ word. label_in version word) old new result → Reads (Label version) label_of old new result
read_widens version old new (Ok name) (word, is, place, met, says) = (word, is, place, met, label_widens version word.text name says)
read_widens version old new (Err fault) e = e

-- what was read of words is what they say
pub stated_as : (version : Version) (keyword : Keyword) (first : Span) (words : List Span) (result : Result Said Spot)
    → Finds (wanted_fault (wanted version keyword (text_at 0 words) (makes_file keyword words)) (end_of first) words) (values keyword words) result
    → Finds (statement_fault version (Some keyword) first words) (said_by (Some keyword) first words) result
stated_as version keyword first words (Ok said) (none, says) =
    (none, ap (λ (o : Option Spot). unless_fault o (values keyword words)) (fault_widens version keyword first words none) ∙ says)
stated_as version keyword first words (Err fault) e = e
