-- Hexadecimal pairs and the words of texts are read as what they were written for, and as nothing else.
use Rattle.std.proofs.Common.{◌≡◌, ◌≢◌, ℕ, ◌+◌, ◌-◌, ◌*◌, ◌/◌, ◌%◌, ◌<◌, ◌≤◌, Bool, true, false, cond, not, eqb, ◌&&◌, nat_le, nat_lt, List, [], ◌∷◌, length, Option, Some, None, refl, sym, ◌∙◌, ap, arith}
use Rattle.std.specs.Prelude.{◌==◌, codes, IsTrue}
use Rattle.std.specs.List.{list_all}
use Rattle.std.specs.Str.{bytes_eq}
use Rattle.std.proofs.lemmas.Bool.Decides.{nat_tests}
use Rattle.gl_base.specs.BytesText.{hex_digit}
use Rattle.gl_base.specs.Name.{is_name}
use Rattle.gl_base.specs.Path.{is_path}
use Rattle.gl_trace.specs.TextWord.{is_plain, is_plain_byte, pairs_text, text_word}
use Rattle.gl_trace.specs.Typed.{AreBytes, IsNameText, IsPathText}
use Rattle.gl_trace.specs.WordRead.{as_name, as_path, hex_value, if_plain, name_word, onto_bytes, pair_byte, pairs_of, path_word, short, stripped, text_in, text_of, unless_plain}
use Rattle.gl_trace.proofs.Fields.{Field, IsWord, both_true, longer}
use Rattle.gl_trace.proofs.Stripping.{stripped_back, stripped_same}

-- digits

pub hex_value_digit : (n : ℕ) → n < 16 → hex_value (hex_digit n) ≡ Some n
hex_value_digit n small = by_test (nat_lt n 10) refl
  where
    by_test : (b : Bool) → nat_lt n 10 ≡ b → hex_value (cond b (n + 48) (n + 87)) ≡ Some n
    by_test true e =
        let low : nat_le 48 (n + 48) ≡ true = grind (arith, nat_tests) in
        let high : nat_le (n + 48) 57 ≡ true = grind (arith, nat_tests) in
        let is : n + 48 - 48 ≡ n = omega arith in
        rw (low, high) (ap Some is)
    by_test false e =
        let high : nat_le (n + 87) 57 ≡ false = grind (arith, nat_tests) in
        let low : nat_le 48 (n + 87) ≡ true = grind (arith, nat_tests) in
        let from : nat_le 97 (n + 87) ≡ true = grind (arith, nat_tests) in
        let to : nat_le (n + 87) 102 ≡ true = grind (arith, nat_tests) in
        let is : n + 87 - 87 ≡ n = omega arith in
        rw (low, high, from, to) (ap Some is)

-- a digit was read
pub record IsDigit (byte value : ℕ) : Type 0 where
  pub is : byte ≡ hex_digit value
  pub small : value < 16

digit_of_value : (byte value : ℕ) → hex_value byte ≡ Some value → IsDigit byte value
digit_of_value byte value e = by_tests (nat_le 48 byte) (nat_le byte 57) (nat_le 97 byte) (nat_le byte 102) refl refl refl refl e
  where
    decimal_digit : 48 ≤ byte → byte ≤ 57 → Some (byte - 48) ≡ Some value → IsDigit byte value
    decimal_digit p q e =
        let same : byte - 48 ≡ value = cc in
        let low : nat_lt value 10 ≡ true = grind (arith, nat_tests) in
        record { is = let is : byte ≡ value + 48 = omega arith in is ∙ sym (rw low refl); small = omega arith }

    letter : 97 ≤ byte → byte ≤ 102 → Some (byte - 87) ≡ Some value → IsDigit byte value
    letter p q e =
        let same : byte - 87 ≡ value = cc in
        let high : nat_lt value 10 ≡ false = grind (arith, nat_tests) in
        record { is = let is : byte ≡ value + 87 = omega arith in is ∙ sym (rw high refl); small = omega arith }

    by_tests : (a b c d : Bool) → nat_le 48 byte ≡ a → nat_le byte 57 ≡ b → nat_le 97 byte ≡ c → nat_le byte 102 ≡ d → cond (a && b) (Some (byte - 48)) (cond (c && d) (Some (byte - 87)) None) ≡ Some value → IsDigit byte value
    by_tests true true c d p q r s e = decimal_digit (grind (arith, nat_tests)) (grind (arith, nat_tests)) e
    by_tests true false true true p q r s e = letter (grind (arith, nat_tests)) (grind (arith, nat_tests)) e
    by_tests false b true true p q r s e = letter (grind (arith, nat_tests)) (grind (arith, nat_tests)) e
    by_tests true false true false p q r s e = cc
    by_tests true false false d p q r s e = cc
    by_tests false b true false p q r s e = cc
    by_tests false b false d p q r s e = cc

pub digit_no_blank : (n : ℕ) → hex_digit n ≢ 32
digit_no_blank n = by_test (nat_lt n 10)
  where
    by_test : (b : Bool) → cond b (n + 48) (n + 87) ≢ 32
    by_test true = λ e. absurd (omega arith)
    by_test false = λ e. absurd (omega arith)

-- pairs

pub pair_back : (byte : ℕ) → byte < 256 → pair_byte (hex_value (hex_digit (byte / 16))) (hex_value (hex_digit (byte % 16))) ≡ Some byte
pair_back byte small =
    let high : byte / 16 < 16 = omega arith in
    let low : byte % 16 < 16 = omega arith in
    let is : 16 * (byte / 16) + byte % 16 ≡ byte = omega arith in
    rw (hex_value_digit (byte / 16) high, hex_value_digit (byte % 16) low) (ap Some is)

pub pairs_back : (bytes : List ℕ) → AreBytes bytes → pairs_of (pairs_text bytes) ≡ Some bytes
pairs_back [] h = refl
pairs_back (byte ∷ bytes) h =
    let p = both_true (nat_lt byte 256) (list_all (λ b. nat_lt b 256) bytes) h in
    let small : byte < 256 = let q = p.0 in grind (arith, nat_tests) in
    rw (pair_back byte small, pairs_back bytes p.1) refl

-- the pair of a byte was read
pub record IsPair (high low byte : ℕ) : Type 0 where
  pub first : high ≡ hex_digit (byte / 16)
  pub second : low ≡ hex_digit (byte % 16)
  pub small : byte < 256

pub pair_same : (high low byte : ℕ) (h l : Option ℕ) → hex_value high ≡ h → hex_value low ≡ l → pair_byte h l ≡ Some byte → IsPair high low byte
pair_same high low byte None l p q e = cc
pair_same high low byte (Some a) None p q e = cc
pair_same high low byte (Some a) (Some b) p q e =
    let one = digit_of_value high a p in
    let two = digit_of_value low b q in
    let same : 16 * a + b ≡ byte = cc in
    let above : a ≡ byte / 16 = omega (arith, one.small, two.small) in
    let below : b ≡ byte % 16 = omega (arith, one.small, two.small) in
    record { first = one.is ∙ ap hex_digit above; second = two.is ∙ ap hex_digit below; small = omega (arith, one.small, two.small) }

onto_same : (high low : ℕ) (digits bytes : List ℕ) (o : Option ℕ) (m : Option (List ℕ)) → pair_byte (hex_value high) (hex_value low) ≡ o → onto_bytes o m ≡ Some bytes → ((more : List ℕ) → m ≡ Some more → digits ≡ pairs_text more) → (high ∷ low ∷ digits) ≡ pairs_text bytes
onto_same high low digits bytes None m p e rest = cc
onto_same high low digits bytes (Some byte) None p e rest = cc
onto_same high low digits bytes (Some byte) (Some more) p e rest =
    let one = pair_same high low byte (hex_value high) (hex_value low) refl refl p in
    let same : byte ∷ more ≡ bytes = cc in
    ap (λ x. x ∷ low ∷ digits) one.first ∙ ap (λ x. hex_digit (byte / 16) ∷ x ∷ digits) one.second ∙ ap (λ x. hex_digit (byte / 16) ∷ hex_digit (byte % 16) ∷ x) (rest more refl) ∙ ap pairs_text same

pub pairs_same : (digits bytes : List ℕ) → pairs_of digits ≡ Some bytes → digits ≡ pairs_text bytes
pairs_same [] bytes e = let same : [] ≡ bytes = cc in ap pairs_text same
pairs_same (digit ∷ []) bytes e = cc
pairs_same (high ∷ low ∷ digits) bytes e = onto_same high low digits bytes (pair_byte (hex_value high) (hex_value low)) (pairs_of digits) refl e (λ more q. pairs_same digits more q)

pub pairs_word : (bytes : List ℕ) → IsWord (pairs_text bytes)
pairs_word [] = λ text. refl
pairs_word (byte ∷ bytes) = longer (hex_digit (byte / 16)) (hex_digit (byte % 16) ∷ pairs_text bytes) (digit_no_blank (byte / 16)) (longer (hex_digit (byte % 16)) (pairs_text bytes) (digit_no_blank (byte % 16)) (pairs_word bytes))

short_back : (bytes : List ℕ) → length bytes ≤ 127 → short (Some bytes) ≡ Some bytes
short_back bytes few = let fits : nat_le (length bytes) 127 ≡ true = grind (arith, nat_tests) in rw fits refl

pub short_same : (o : Option (List ℕ)) (bytes : List ℕ) → short o ≡ Some bytes → o ≡ Some bytes
short_same None bytes e = cc
short_same (Some more) bytes e = by_test (nat_le (length more) 127) e
  where
    by_test : (b : Bool) → cond b (Some more) None ≡ Some bytes → Some more ≡ Some bytes
    by_test true p = p
    by_test false p = cc

-- texts

plain_other : (byte : ℕ) (text : List ℕ) → is_plain (byte ∷ text) ≡ true → stripped (92 ∷ []) (byte ∷ text) ≡ None
plain_other byte text e = by_test (nat_le 33 byte) (nat_le byte 126) (byte == 92) refl (both_true (not (bytes_eq (byte ∷ text) (codes "-"))) (list_all is_plain_byte (byte ∷ text)) e).1
  where
    by_test : (a b c : Bool) → (byte == 92) ≡ c → ((a && (b && not c)) && list_all is_plain_byte text) ≡ true → stripped (92 ∷ []) (byte ∷ text) ≡ None
    by_test true true false p q = let other : eqb 92 byte ≡ false = grind (arith, nat_tests) in rw other refl
    by_test true true true p q = cc
    by_test true false c p q = cc
    by_test false b c p q = cc

text_from : (text : List ℕ) (b : Bool) → is_plain text ≡ b → length text ≤ 127 → AreBytes text → text_of (cond b text (92 ∷ pairs_text text)) ≡ Some text
text_from [] true e few h = cc
text_from (byte ∷ text) true e few h = ap (text_in (byte ∷ text)) (plain_other byte text e) ∙ rw e refl
text_from text false e few h =
    ap (text_in (92 ∷ pairs_text text)) (stripped_back (92 ∷ []) (pairs_text text))
    ∙ ap (λ o. unless_plain (short o)) (pairs_back text h) ∙ ap unless_plain (short_back text few) ∙ rw e refl

pub text_back : (text : List ℕ) → length text ≤ 127 → AreBytes text → text_of (text_word text) ≡ Some text
text_back text few h = text_from text (is_plain text) refl few h

if_plain_same : (word text : List ℕ) → if_plain word ≡ Some text → word ≡ text_word text
if_plain_same word text e = by_test (is_plain word) refl e
  where
    by_test : (b : Bool) → is_plain word ≡ b → cond b (Some word) None ≡ Some text → word ≡ text_word text
    by_test true p q = let same : word ≡ text = cc in let plain : is_plain text ≡ true = sym (ap is_plain same) ∙ p in same ∙ sym (rw plain refl)
    by_test false p q = cc

unless_plain_same : (pairs text : List ℕ) (o : Option (List ℕ)) → short (pairs_of pairs) ≡ o → unless_plain o ≡ Some text → 92 ∷ pairs ≡ text_word text
unless_plain_same pairs text None p e = cc
unless_plain_same pairs text (Some more) p e = by_test (is_plain more) refl e
  where
    by_test : (b : Bool) → is_plain more ≡ b → cond b None (Some more) ≡ Some text → 92 ∷ pairs ≡ text_word text
    by_test true q r = cc
    by_test false q r =
        let same : more ≡ text = cc in
        let odd : is_plain text ≡ false = sym (ap is_plain same) ∙ q in
        ap (λ w. 92 ∷ w) (pairs_same pairs more (short_same (pairs_of pairs) more p) ∙ ap pairs_text same) ∙ sym (rw odd refl)

text_in_same : (word text : List ℕ) (o : Option (List ℕ)) → stripped (92 ∷ []) word ≡ o → text_in word o ≡ Some text → word ≡ text_word text
text_in_same word text None p e = if_plain_same word text e
text_in_same word text (Some pairs) p e = stripped_same (92 ∷ []) word pairs p ∙ unless_plain_same pairs text (short (pairs_of pairs)) refl e

pub text_same : (word text : List ℕ) → text_of word ≡ Some text → word ≡ text_word text
text_same word text e = text_in_same word text (stripped (92 ∷ []) word) refl e

plain_word : (text : List ℕ) → list_all is_plain_byte text ≡ true → IsWord text
plain_word [] e = λ rest. refl
plain_word (byte ∷ text) e =
    let p = both_true (is_plain_byte byte) (list_all is_plain_byte text) e in
    let low : nat_le 33 byte ≡ true = (both_true (nat_le 33 byte) (nat_le byte 126 && not (byte == 92)) p.0).0 in
    longer byte text (λ same. absurd (let from : 33 ≤ byte = grind (arith, nat_tests) in omega arith)) (plain_word text p.1)

text_whole_by : (text : List ℕ) (b : Bool) → is_plain text ≡ b → IsWord (cond b text (92 ∷ pairs_text text))
text_whole_by [] true e = cc
text_whole_by (byte ∷ text) true e = plain_word (byte ∷ text) (both_true (not (bytes_eq (byte ∷ text) (codes "-"))) (list_all is_plain_byte (byte ∷ text)) e).1
text_whole_by text false e = longer 92 (pairs_text text) (λ same. absurd (omega arith)) (pairs_word text)

pub text_whole : (text : List ℕ) → IsWord (text_word text)
text_whole text = text_whole_by text (is_plain text) refl

name_short : (text : List ℕ) → IsTrue (is_name text) → length text ≤ 31
name_short text h = grind (arith, nat_tests)

as_name_same : (text : List ℕ) (o : Option (List ℕ)) → as_name o ≡ Some text → o ≡ Some text
as_name_same text None e = cc
as_name_same text (Some more) e = by_test (is_name more) e
  where
    by_test : (b : Bool) → cond b (Some more) None ≡ Some text → Some more ≡ Some text
    by_test true p = p
    by_test false p = cc

as_path_same : (text : List ℕ) (o : Option (List ℕ)) → as_path o ≡ Some text → o ≡ Some text
as_path_same text None e = cc
as_path_same text (Some more) e = by_test (is_path more) e
  where
    by_test : (b : Bool) → cond b (Some more) None ≡ Some text → Some more ≡ Some text
    by_test true p = p
    by_test false p = cc

pub name_field : Field name_word text_word IsNameText
name_field = record {
  back = λ text h. ap as_name (text_back text h.short h.bytes) ∙ h.named;
  same = λ word text e. text_same word text (as_name_same text (text_of word) e);
  whole = λ text h. text_whole text;
}

pub path_field : Field path_word text_word IsPathText
path_field = record {
  back = λ text h. ap as_path (text_back text h.short h.bytes) ∙ h.named;
  same = λ word text e. text_same word text (as_path_same text (text_of word) e);
  whole = λ text h. text_whole text;
}
