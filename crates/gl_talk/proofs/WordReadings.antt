-- Words that are of their forms are read as what they are.
use Rattle.std.proofs.Common.{◌≡◌, ℕ, Bool, true, false, not, cond, ◌&&◌, ◌||◌, List, [], ◌∷◌, length, Option, None, Some, refl, sym, ◌∙◌, ap, subst, arith}
use Rattle.std.specs.Prelude.{IsTrue, if◌then◌else◌, is_some, nat_eq, nat_le, codes, option_map}
use Rattle.std.specs.List.{list_all, starts_with}
use Rattle.std.specs.Option.{option_or}
use Rattle.std.specs.Str.{bytes_eq}
use Rattle.std.proofs.lemmas.Bool.Decides.{nat_tests}
use Rattle.std.proofs.lemmas.Slice.Eq.{bytes_eq-Decides}
use Rattle.gl_args.specs.Names.{tool_named}
use Rattle.gl_base.specs.BytesText.{bytes_or_none, piece_of}
use Rattle.gl_base.specs.Label.{is_label_byte}
use Rattle.gl_base.specs.Name.{is_name, is_nonzero}
use Rattle.gl_base.specs.Path.{is_path, path_of}
use Rattle.gl_base.specs.Words.{is_nonempty, pieces}
use Rattle.gl_script.proofs.TypedWords.{and_true, both, file_name_fits, label_bytes, label_is_name}
use Rattle.gl_script.proofs.Widening.{label_widens}
use Rattle.gl_script.specs.Forms.{escaped_name, file_name_of, is_of, is_path_byte, label_in, label_of, tree_path_of}
use Rattle.gl_talk.specs.Paths.{is_device, live_device, live_of}
use Rattle.gl_talk.specs.Readings.{CanStart, HeldToolsAreRead, LabelsAreRead, NamesAreRead, NoBytesAreRead, PathsAreRead, PiecesAreRead, PlainLabelsAreRead, WordsAreRead}
use Rattle.gl_talk.specs.Words.{label_word, name_word, path_word}

some_text : (a b : List ℕ) → Some a ≡ Some b → a ≡ b
some_text a b e = cc

itself : (b : Bool) (word : List ℕ) → b ≡ true → cond b word [] ≡ word
itself true word e = refl
itself false word e = cc

pub paths_are_read : PathsAreRead
paths_are_read word e =
    let parts = both (is_nonempty word) (nat_le (length word) 127 && list_all is_path_byte word) e in
    itself (is_path word) word (both (nat_le (length word) 127) (list_all is_path_byte word) parts.1).0

-- a word that says a name or a path is that name or path
text_by : (b : Bool) (word value : List ℕ) → (if b then Some word else None) ≡ Some value → (b ≡ true) × (word ≡ value)
text_by true word value e = (refl, some_text word value e)
text_by false word value e = cc

pub file_name_is : (word name : List ℕ) → file_name_of word ≡ Some name → word ≡ name
file_name_is word name e = (text_by (is_of is_label_byte 15 word) word name e).1

pub file_name_word : (word name : List ℕ) → file_name_of word ≡ Some name → name_word word ≡ name
file_name_word word name e =
    let is = text_by (is_of is_label_byte 15 word) word name e in
    itself (is_name word) word (file_name_fits word is.0) ∙ is.1

pub label_says : (word name : List ℕ) → label_of word ≡ Some name → label_word word ≡ name
label_says word name e = ap (λ (o : Option (List ℕ)). bytes_or_none o) e

pub tree_path_is : (word path : List ℕ) → tree_path_of word ≡ Some path → word ≡ path
tree_path_is word path e = (text_by (is_of is_path_byte 127 word) word path e).1

pub tree_path_word : (word path : List ℕ) → tree_path_of word ≡ Some path → path_word word ≡ path
tree_path_word word path e =
    let is = text_by (is_of is_path_byte 127 word) word path e in
    paths_are_read word is.0 ∙ is.1

pub chip_word : (word path : List ℕ) → path_of word ≡ Some path → path_word word ≡ path
chip_word word path e =
    let is = text_by (is_path word) word path e in
    itself (is_path word) word is.0 ∙ is.1

pub labels_are_read : LabelsAreRead
labels_are_read version word name e = (label_says word name (label_widens version word name e), label_is_name version word name e)

-- a word that is plain says itself
plain_by : (b : Bool) (word : List ℕ) (more : Option (List ℕ)) → is_some (option_or (if b then Some word else None) None) ≡ true → bytes_or_none (option_or (if b then Some word else None) more) ≡ word
plain_by true word more e = refl
plain_by false word more e = cc

pub plain_labels_are_read : PlainLabelsAreRead
plain_labels_are_read word =
    (λ e. plain_by (is_of is_label_byte 31 word) word (escaped_name word) e, λ e. plain_by (is_of is_label_byte 31 word) word (escaped_name word) e)

pub names_are_read : NamesAreRead
names_are_read word e = itself (is_name word) word (file_name_fits word e)

pub words_are_read : WordsAreRead
words_are_read word e = itself (is_path word) word e

same : (word text : List ℕ) → bytes_eq word text ≡ true → text ≡ word
same word text e = sym ((bytes_eq-Decides word text).0 e)

starts_by : (word : List ℕ) (a b c : Bool) → (a ≡ true → codes "gpioset" ≡ word) → (b ≡ true → codes "gpiomon" ≡ word) → (c ≡ true → codes "gpionotify" ≡ word)
    → (a || (b || (c || false))) ≡ true → CanStart (tool_named word)
starts_by word true b c p q r any = subst (λ w. CanStart (tool_named w)) (p refl) tt
starts_by word false true c p q r any = subst (λ w. CanStart (tool_named w)) (q refl) tt
starts_by word false false true p q r any = subst (λ w. CanStart (tool_named w)) (r refl) tt
starts_by word false false false p q r any = cc

pub held_tools_are_read : HeldToolsAreRead
held_tools_are_read word any =
    starts_by word (bytes_eq word (codes "gpioset")) (bytes_eq word (codes "gpiomon")) (bytes_eq word (codes "gpionotify")) (same word (codes "gpioset")) (same word (codes "gpiomon"))
    (same word (codes "gpionotify")) any

-- a piece is read as its bytes
pieces_by : (o : Option (List ℕ)) (size : ℕ) → option_map length o ≡ Some size → (o ≡ Some (bytes_or_none o)) × (length (bytes_or_none o) ≡ size)
pieces_by None size e = cc
pieces_by (Some bytes) size e = (refl, same_size (length bytes) size e)
  where
    same_size : (n m : ℕ) → Some n ≡ Some m → n ≡ m
    same_size n m e = cc

pub pieces_are_read : PiecesAreRead
pieces_are_read word size e = pieces_by (piece_of word) size e

pub no_bytes_are_read : NoBytesAreRead
no_bytes_are_read = refl

-- a device's name is one
no_more : (n : ℕ) → nat_le n 15 ≡ true → nat_le n 31 ≡ true
no_more n e = grind (arith, nat_tests)

pub device_fits : (part : List ℕ) → is_device part ≡ true → IsTrue (is_name part)
device_fits part e =
    let named = both (nat_le 1 (length part) && nat_le (length part) 15 && list_all is_label_byte part) (not (starts_with nat_eq part (codes "gpiochip"))) e in
    let label = both (nat_le 1 (length part) && nat_le (length part) 15) (list_all is_label_byte part) named.0 in
    let short = both (nat_le 1 (length part)) (nat_le (length part) 15) label.0 in
    and_true (nat_le (length part) 31) (list_all is_nonzero part) (no_more (length part) short.1) (label_bytes part label.1)

live_if : (a b : Bool) (part device : List ℕ) → (a ≡ true → IsTrue (is_name part)) → (if a && b then Some part else None) ≡ Some device → IsTrue (is_name device)
live_if true true part device fits e = subst (λ (d : List ℕ). IsTrue (is_name d)) (some_text part device e) (fits refl)
live_if true false part device fits e = cc
live_if false b part device fits e = cc

live_of_fits : (parts : List (List ℕ)) (device : List ℕ) → live_of parts ≡ Some device → IsTrue (is_name device)
live_of_fits [] device e = cc
live_of_fits (part ∷ []) device e = cc
live_of_fits (part ∷ name ∷ []) device e = live_if (is_device part) (bytes_eq name (codes "live")) part device (device_fits part) e
live_of_fits (part ∷ name ∷ more ∷ parts) device e = cc

pub live_device_is_read : (path device : List ℕ) → live_device path ≡ Some device → name_word device ≡ device
live_device_is_read path device e = itself (is_name device) device (live_of_fits (pieces 47 path) device e)
