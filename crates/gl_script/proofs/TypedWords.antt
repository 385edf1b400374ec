-- Words of their forms are names and paths, and a command's pieces have the name of the file that it makes behind them.
use Rattle.std.proofs.Common.{◌≡◌, ℕ, zero, suc, ◌+◌, Bool, true, false, ◌&&◌, List, [], ◌∷◌, length, Option, None, Some, refl, sym, ◌∙◌, ap, subst, arith}
use Rattle.std.specs.Prelude.{IsTrue, ◌==◌, if◌then◌else◌, is_some, nat_le, codes, Result, Ok, Err}
use Rattle.std.specs.List.{list_all}
use Rattle.std.specs.Option.{option_or}
use Rattle.std.specs.Str.{bytes_eq}
use Rattle.std.proofs.lemmas.Bool.Decides.{nat_tests}
use Rattle.std.proofs.lemmas.Slice.Eq.{bytes_eq-Decides}
use Rattle.gl_base.specs.BytesText.{is_pairs, pairs_bytes, piece_size}
use Rattle.gl_base.specs.Label.{is_label_byte}
use Rattle.gl_base.specs.Name.{is_name, is_nonzero, name_of}
use Rattle.gl_base.specs.Path.{is_path, path_of}
use Rattle.gl_base.specs.Words.{Span, end_of, is_nonempty, text_at}
use Rattle.gl_script.specs.declared.refusal.RefusalKind.TheVariants.{Word}
use Rattle.gl_script.specs.declared.refusal.Spot.{Spot}
use Rattle.gl_script.specs.declared.table.Form.TheVariants.{FileName, Path as PathForm, Word as WordForm}
use Rattle.gl_script.specs.Faults.{as_fault, bytes_fault, name_fault, more_fault, piece_fault, pieces_fault, size_of, spot}
use Rattle.gl_script.specs.declared.version.Version.{Version}
use Rattle.gl_script.specs.Forms.{escaped_name, file_name_of, has_any_names, is_of, is_path_byte, label_in, meets, paired_name, text_of}
use Rattle.gl_script.specs.Left.{Finds}
use Rattle.gl_script.specs.Pieces.{behind_three, behind_two, made_by, name_behind_as, named}

pub both : (a b : Bool) → (a && b) ≡ true → (a ≡ true) × (b ≡ true)
both true b e = (refl, e)
both false b e = cc

pub and_true : (a b : Bool) → a ≡ true → b ≡ true → (a && b) ≡ true
and_true true b p q = q
and_true false b p q = cc

label_byte : (byte : ℕ) → is_label_byte byte ≡ true → is_nonzero byte ≡ true
label_byte zero e = cc
label_byte (suc byte) e = grind (arith, nat_tests)

pub label_bytes : (word : List ℕ) → list_all is_label_byte word ≡ true → list_all is_nonzero word ≡ true
label_bytes [] e = refl
label_bytes (byte ∷ word) e =
    let parts = both (is_label_byte byte) (list_all is_label_byte word) e in
    and_true (is_nonzero byte) (list_all is_nonzero word) (label_byte byte parts.0) (label_bytes word parts.1)

-- the words of names and paths fit into them
pub label_fits : (word : List ℕ) → is_of is_label_byte 31 word ≡ true → IsTrue (is_name word)
label_fits word e =
    let parts = both (is_nonempty word) (nat_le (length word) 31 && list_all is_label_byte word) e in
    let more = both (nat_le (length word) 31) (list_all is_label_byte word) parts.1 in
    and_true (nat_le (length word) 31) (list_all is_nonzero word) more.0 (label_bytes word more.1)

fewer_than : (n : ℕ) → nat_le n 15 ≡ true → nat_le n 31 ≡ true
fewer_than n e = grind (arith, nat_tests)

pub file_name_fits : (word : List ℕ) → meets FileName word ≡ true → IsTrue (is_name word)
file_name_fits word e =
    let parts = both (is_nonempty word) (nat_le (length word) 15 && list_all is_label_byte word) e in
    let more = both (nat_le (length word) 15) (list_all is_label_byte word) parts.1 in
    and_true (nat_le (length word) 31) (list_all is_nonzero word) (fewer_than (length word) more.0) (label_bytes word more.1)

-- what a word says as a label is a name
named_if : (b : Bool) (text name : List ℕ) → (b ≡ true → is_name text ≡ true) → (if b then Some text else None) ≡ Some name → is_name name ≡ true
named_if true text name fits e = let same : text ≡ name = cc in subst (λ (t : List ℕ). is_name t ≡ true) same (fits refl)
named_if false text name fits e = cc

paired_by : (b : Bool) (bytes name : List ℕ) → (if b then name_of bytes else None) ≡ Some name → is_name name ≡ true
paired_by true bytes name e = named_if (is_name bytes) bytes name (λ is. is) e
paired_by false bytes name e = cc

paired_fits : (digits name : List ℕ) → paired_name digits ≡ Some name → is_name name ≡ true
paired_fits digits name e = paired_by (is_pairs digits) (pairs_bytes digits) name e

escaped_by : (b : Bool) (digits name : List ℕ) → (if b then paired_name digits else None) ≡ Some name → is_name name ≡ true
escaped_by true digits name e = paired_fits digits name e
escaped_by false digits name e = cc

any_fits : (b : Bool) (word name : List ℕ) → (if b then escaped_name word else None) ≡ Some name → is_name name ≡ true
any_fits true [] name e = cc
any_fits true (first ∷ digits) name e = escaped_by (first == 92) digits name e
any_fits false word name e = cc

or_fits : (plain other : Option (List ℕ)) (name : List ℕ) → (plain ≡ Some name → is_name name ≡ true) → (other ≡ Some name → is_name name ≡ true) → option_or plain other ≡ Some name → is_name name ≡ true
or_fits None other name p q e = q e
or_fits (Some text) other name p q e = p e

pub label_is_name : (version : Version) (word name : List ℕ) → label_in version word ≡ Some name → is_name name ≡ true
label_is_name version word name e =
    or_fits (text_of is_label_byte 31 word) (if has_any_names version then escaped_name word else None) name
    (named_if (is_of is_label_byte 31 word) word name (label_fits word)) (any_fits (has_any_names version) word name) e

itself : (b : Bool) (word : List ℕ) → b ≡ true → (if b then Some word else None) ≡ Some word
itself true word e = refl
itself false word e = cc

pub word_fits : (word : List ℕ) → meets WordForm word ≡ true → path_of word ≡ Some word
word_fits word e = itself (is_path word) word e

pub path_fits : (word : List ℕ) → meets PathForm word ≡ true → path_of word ≡ Some word
path_fits word e =
    let parts = both (is_nonempty word) (nat_le (length word) 127 && list_all is_path_byte word) e in
    itself (is_path word) word (both (nat_le (length word) 127) (list_all is_path_byte word) parts.1).0

-- a word of its form is there
there_by : (b : Bool) (word : List ℕ) → b ≡ true → is_some (if b then Some word else None) ≡ true
there_by true word e = refl
there_by false word e = cc

pub text_there : (kind : ℕ → Bool) (most : ℕ) (word : List ℕ) → is_of kind most word ≡ true → is_some (text_of kind most word) ≡ true
text_there kind most word e = there_by (is_of kind most word) word e

pub path_there : (word : List ℕ) → meets WordForm word ≡ true → is_some (path_of word) ≡ true
path_there word e = there_by (is_path word) word e

-- no piece is `as`
same : (word text : List ℕ) → bytes_eq word text ≡ true → text ≡ word
same word text e = sym ((bytes_eq-Decides word text).0 e)

as_is_none : piece_size (codes "as") ≡ None
as_is_none = refl

never : (said at : ℕ) (o : Option ℕ) → o ≡ None → piece_fault said at o ≡ None → ⊥
never said at None is e = cc
never said at (Some n) is e = cc

piece_by : (said at : ℕ) (word : List ℕ) (b : Bool) → (b ≡ true → codes "as" ≡ word) → piece_fault said at (piece_size word) ≡ None → b ≡ false
piece_by said at word true is e = absurd (never said at (piece_size word) (ap piece_size (sym (is refl)) ∙ as_is_none) e)
piece_by said at word false is e = refl

pub no_as : (said at : ℕ) (word : List ℕ) → piece_fault said at (piece_size word) ≡ None → bytes_eq word (codes "as") ≡ false
no_as said at word e = piece_by said at word (bytes_eq word (codes "as")) (same word (codes "as")) e

bar_by : (word : List ℕ) → codes "-" ≡ word → bytes_eq word (codes "as") ≡ false
bar_by word is = subst (λ (w : List ℕ). bytes_eq w (codes "as") ≡ false) is refl

pub no_bar : (word : List ℕ) → bytes_eq word (codes "-") ≡ true → bytes_eq word (codes "as") ≡ false
no_bar word e = bar_by word (same word (codes "-") e)

-- the name of what is made stands behind a word that isn't `as`
passed_by : (b : Bool) (here behind : List ℕ) → b ≡ false → (if b then here else behind) ≡ behind
passed_by true here behind e = cc
passed_by false here behind e = refl

pub made_behind : (makes : Bool) (word : Span) (words : List Span) → bytes_eq word.text (codes "as") ≡ false → made_by makes (word ∷ words) ≡ made_by makes words
made_behind true word words e = ap (λ (name : List ℕ). named (file_name_of name)) (passed_by (bytes_eq word.text (codes "as")) (text_at 0 words) (name_behind_as words) e)
made_behind false word words e = refl

-- and it is there behind pieces without a fault
taken : (b : Bool) (x : Option Spot) (y : Spot) → (if b then x else Some y) ≡ None → (b ≡ true) × (x ≡ None)
taken true x y n = (refl, n)
taken false x y n = cc

named_there : (o : Option (List ℕ)) → is_some o ≡ true → is_some (named o) ≡ true
named_there None e = cc
named_there (Some name) e = refl

name_there : (end : ℕ) (words : List Span) → name_fault end words ≡ None → is_some (named (file_name_of (text_at 0 words))) ≡ true
name_there end [] e = cc
name_there end (word ∷ words) e =
    named_there (file_name_of word.text) (text_there is_label_byte 15 word.text (taken (meets FileName word.text) (more_fault words) (spot word.at Word) e).0)

as_by : (b : Bool) (end : ℕ) (words : List Span) (fault : Spot) → (if b then name_fault end words else Some fault) ≡ None → is_some (named (file_name_of (if b then text_at 0 words else name_behind_as words))) ≡ true
as_by true end words fault e = name_there end words e
as_by false end words fault e = cc

as_there : (end : ℕ) (words : List Span) → as_fault end words ≡ None → is_some (made_by true words) ≡ true
as_there end [] e = cc
as_there end (word ∷ words) e = as_by (bytes_eq word.text (codes "as")) (end_of word) words (spot word.at Word) e

or_none : (a b : Option Spot) → option_or a b ≡ None → (a ≡ None) × (b ≡ None)
or_none None b e = (refl, e)
or_none (Some fault) b e = cc

step_by : (b : Bool) (end : ℕ) (words : List Span) (a more : Option Spot) → (more ≡ None → is_some (made_by true words) ≡ true)
    → (if b then name_fault end words else option_or a more) ≡ None → is_some (named (file_name_of (if b then text_at 0 words else name_behind_as words))) ≡ true
step_by true end words a more behind e = name_there end words e
step_by false end words a more behind e = behind (or_none a more e).1

pieces_there : (said end : ℕ) (words : List Span) → pieces_fault true said end words ≡ None → is_some (made_by true words) ≡ true
pieces_there said end [] e = cc
pieces_there said end (word ∷ words) e =
    step_by (bytes_eq word.text (codes "as")) (end_of word) words (piece_fault said word.at (piece_size word.text)) (pieces_fault true (said + size_of (piece_size word.text)) (end_of word) words)
    (pieces_there (said + size_of (piece_size word.text)) (end_of word) words) e

first_by : (word : Span) (words : List Span) (b : Bool) → bytes_eq word.text (codes "-") ≡ b
    → (if b then as_fault (end_of word) words else option_or (piece_fault 0 word.at (piece_size word.text)) (pieces_fault true (0 + size_of (piece_size word.text)) (end_of word) words)) ≡ None
    → is_some (made_by true (word ∷ words)) ≡ true
first_by word words true is e =
    ap (λ (o : Option (Option (List ℕ))). is_some o) (made_behind true word words (no_bar word.text is)) ∙ as_there (end_of word) words e
first_by word words false is e =
    let parts = or_none (piece_fault 0 word.at (piece_size word.text)) (pieces_fault true (0 + size_of (piece_size word.text)) (end_of word) words) e in
    ap (λ (o : Option (Option (List ℕ))). is_some o) (made_behind true word words (no_as 0 word.at word.text parts.0))
    ∙ pieces_there (0 + size_of (piece_size word.text)) (end_of word) words parts.1

pub made_there : (makes : Bool) (end : ℕ) (words : List Span) → bytes_fault makes end words ≡ None → is_some (made_by makes words) ≡ true
made_there false end words e = refl
made_there true end [] e = cc
made_there true end (word ∷ words) e = first_by word words (bytes_eq word.text (codes "-")) refl e

-- the words behind a statement's command
pub behind_first : (first : Span) (words : List Span) → behind_three (first ∷ words) ≡ behind_two words
behind_first first [] = refl
behind_first first (a ∷ []) = refl
behind_first first (a ∷ b ∷ words) = refl

-- how the readers of pieces go on
made_as : (makes : Bool) (word : Span) (words : List Span) (name : List ℕ) → (makes && bytes_eq word.text (codes "as")) ≡ true → file_name_of (text_at 0 words) ≡ Some name → made_by makes (word ∷ words) ≡ Some (Some name)
made_as true word words name test e =
    ap (λ (b : Bool). named (file_name_of (if b then text_at 0 words else name_behind_as words))) test ∙ ap (λ (o : Option (List ℕ)). named o) e
made_as false word words name test e = cc

pub made_here : (makes : Bool) (said end : ℕ) (word : Span) (words all : List Span) (name : List ℕ) → all ≡ word ∷ words → (makes && bytes_eq word.text (codes "as")) ≡ true
    → Finds (name_fault (end_of word) words) (file_name_of (text_at 0 words)) (Ok name) → Finds (pieces_fault makes said end all) (made_by makes all) (Ok (Some name))
made_here makes said end word words all name is test found =
    let more = option_or (piece_fault said word.at (piece_size word.text)) (pieces_fault makes (said + size_of (piece_size word.text)) (end_of word) words) in (
      ap (λ (ws : List Span). pieces_fault makes said end ws) is ∙ ap (λ (b : Bool). if b then name_fault (end_of word) words else more) test ∙ found.0,
      ap (λ (ws : List Span). made_by makes ws) is ∙ made_as makes word words name test found.1,
    )

finds_same : {A : Type 0} (a b : Option Spot) (x y : Option A) (result : Result A Spot) → a ≡ b → x ≡ y → Finds b y result → Finds a x result
finds_same a b x y (Ok value) p q found = (p ∙ found.0, q ∙ found.1)
finds_same a b x y (Err fault) p q found = p ∙ found

pub pieces_behind : (makes : Bool) (end said : ℕ) (word : Span) (words all : List Span) (result : Result (Option (List ℕ)) Spot) → all ≡ word ∷ words → bytes_eq word.text (codes "-") ≡ false
    → None ≡ piece_fault 0 word.at (piece_size word.text) → said ≡ 0 + size_of (piece_size word.text)
    → Finds (pieces_fault makes said (end_of word) words) (made_by makes words) result → Finds (bytes_fault makes end all) (made_by makes all) result
pieces_behind makes end said word words all result is other none size found =
    let none_is = if makes then as_fault (end_of word) words else more_fault words in
    let more = pieces_fault makes (0 + size_of (piece_size word.text)) (end_of word) words in
    finds_same (bytes_fault makes end all) (pieces_fault makes said (end_of word) words) (made_by makes all) (made_by makes words) result
    (ap (λ (ws : List Span). bytes_fault makes end ws) is
    ∙ ap (λ (b : Bool). if b then none_is else option_or (piece_fault 0 word.at (piece_size word.text)) more) other
    ∙ ap (λ (o : Option Spot). option_or o more) (sym none)
    ∙ ap (λ (n : ℕ). pieces_fault makes n (end_of word) words) (sym size))
    (ap (λ (ws : List Span). made_by makes ws) is ∙ made_behind makes word words (no_as 0 word.at word.text (sym none)))
    found
