-- Hexadecimal numbers are read as what they were written for, and as nothing else.
use Rattle.std.proofs.Common.{◌≡◌, ℕ, ◌+◌, ◌*◌, ◌/◌, ◌%◌, ◌<◌, Bool, true, false, cond, ◌&&◌, nat_lt, List, [], ◌∷◌, ◌++◌, Option, Some, None, refl, sym, ◌∙◌, ap, subst, arith}
use Rattle.std.specs.Prelude.{codes}
use Rattle.std.specs.List.{list_all}
use Rattle.std.specs.Str.{bytes_eq}
use Rattle.std.proofs.lemmas.Bool.Decides.{nat_tests}
use Rattle.std.proofs.lemmas.Slice.Eq.{bytes_eq-Decides}
use Rattle.gl_trace.specs.CallText.{answer_word}
use Rattle.gl_trace.specs.TextWord.{pairs_text}
use Rattle.gl_trace.specs.Typed.{AreBytes, Is32, Is64, IsTypedAnswer}
use Rattle.gl_trace.specs.WordRead.{answer_of, eight_behind, eight_bytes, eight_in, four_behind, four_bytes, four_in, hex_of, hex_value, long_hex_of, number4, one_answer, onto_bytes, pair_byte, pairs_of, short, stripped}
use Rattle.gl_trace.specs.Words.{hex8, hex16, hex_word, long_hex_word}
use Rattle.gl_trace.proofs.Fields.{Field, IsWord, longer}
use Rattle.gl_trace.proofs.Stripping.{stripped_back, stripped_same}
use Rattle.gl_trace.proofs.Texts.{pair_same, pairs_back, pairs_same, pairs_word, short_same}

-- bytes that were read are bytes
onto_small : (byte : Option ℕ) (more : Option (List ℕ)) (bytes : List ℕ) → onto_bytes byte more ≡ Some bytes → ((b : ℕ) → byte ≡ Some b → b < 256) → ((m : List ℕ) → more ≡ Some m → AreBytes m) → AreBytes bytes
onto_small None more bytes e p q = cc
onto_small (Some b) None bytes e p q = cc
onto_small (Some b) (Some m) bytes e p q =
    let same : b ∷ m ≡ bytes = cc in
    let small : nat_lt b 256 ≡ true = let s = p b refl in grind (arith, nat_tests) in
    subst AreBytes same (rw small (q m refl))

pairs_small : (digits bytes : List ℕ) → pairs_of digits ≡ Some bytes → AreBytes bytes
pairs_small [] bytes e = let same : [] ≡ bytes = cc in subst AreBytes same refl
pairs_small (digit ∷ []) bytes e = cc
pairs_small (high ∷ low ∷ digits) bytes e = onto_small (pair_byte (hex_value high) (hex_value low)) (pairs_of digits) bytes e (λ b p. (pair_same high low b (hex_value high) (hex_value low) refl refl p).small) (λ m p. pairs_small digits m p)

-- numbers of four bytes

abbrev four : ℕ → List ℕ
four n = n / 65536 / 256 ∷ n / 65536 % 256 ∷ n % 65536 / 256 ∷ n % 65536 % 256 ∷ []

number4_back : (n : ℕ) → n < 4294967296 → number4 (n / 65536 / 256) (n / 65536 % 256) (n % 65536 / 256) (n % 65536 % 256) ≡ n
number4_back n small = omega arith

first_of_four : (a b c d : ℕ) → a < 256 → b < 256 → c < 256 → d < 256 → number4 a b c d / 65536 / 256 ≡ a
first_of_four a b c d p q r s = omega arith

second_of_four : (a b c d : ℕ) → a < 256 → b < 256 → c < 256 → d < 256 → number4 a b c d / 65536 % 256 ≡ b
second_of_four a b c d p q r s = omega arith

third_of_four : (a b c d : ℕ) → a < 256 → b < 256 → c < 256 → d < 256 → number4 a b c d % 65536 / 256 ≡ c
third_of_four a b c d p q r s = omega arith

last_of_four : (a b c d : ℕ) → a < 256 → b < 256 → c < 256 → d < 256 → number4 a b c d % 65536 % 256 ≡ d
last_of_four a b c d p q r s = omega arith

small_four : (a b c d : ℕ) → a < 256 → b < 256 → c < 256 → d < 256 → number4 a b c d < 4294967296
small_four a b c d p q r s = omega arith

four_of_number : (a b c d : ℕ) → a < 256 → b < 256 → c < 256 → d < 256 → four (number4 a b c d) ≡ a ∷ b ∷ c ∷ d ∷ []
four_of_number a b c d p q r s =
    let n = number4 a b c d in
    ap (λ x. x ∷ n / 65536 % 256 ∷ n % 65536 / 256 ∷ n % 65536 % 256 ∷ []) (first_of_four a b c d p q r s)
    ∙ ap (λ x. a ∷ x ∷ n % 65536 / 256 ∷ n % 65536 % 256 ∷ []) (second_of_four a b c d p q r s)
    ∙ ap (λ x. a ∷ b ∷ x ∷ n % 65536 % 256 ∷ []) (third_of_four a b c d p q r s)
    ∙ ap (λ x. a ∷ b ∷ c ∷ x ∷ []) (last_of_four a b c d p q r s)

are_four : (a b c d : ℕ) → a < 256 → b < 256 → c < 256 → d < 256 → (rest : List ℕ) → AreBytes rest → AreBytes (a ∷ b ∷ c ∷ d ∷ rest)
are_four a b c d p q r s rest h =
    let w : nat_lt a 256 ≡ true = grind (arith, nat_tests) in
    let x : nat_lt b 256 ≡ true = grind (arith, nat_tests) in
    let y : nat_lt c 256 ≡ true = grind (arith, nat_tests) in
    let z : nat_lt d 256 ≡ true = grind (arith, nat_tests) in
    rw (w, x, y, z) h

pub record Small4 (a b c d : ℕ) : Type 0 where
  pub first : a < 256
  pub second : b < 256
  pub third : c < 256
  pub last : d < 256

low : (a : ℕ) (rest : Bool) → (nat_lt a 256 && rest) ≡ true → (a < 256) × (rest ≡ true)
low a rest e = by_tests (nat_lt a 256) rest refl e
  where
    by_tests : (b r : Bool) → nat_lt a 256 ≡ b → (b && r) ≡ true → (a < 256) × (r ≡ true)
    by_tests true true p q = (grind (arith, nat_tests), refl)
    by_tests true false p q = cc
    by_tests false r p q = cc

small4 : (a b c d : ℕ) (rest : List ℕ) → AreBytes (a ∷ b ∷ c ∷ d ∷ rest) → Small4 a b c d × AreBytes rest
small4 a b c d rest h =
    let one = low a (list_all (λ x. nat_lt x 256) (b ∷ c ∷ d ∷ rest)) h in
    let two = low b (list_all (λ x. nat_lt x 256) (c ∷ d ∷ rest)) one.1 in
    let three = low c (list_all (λ x. nat_lt x 256) (d ∷ rest)) two.1 in
    let last = low d (list_all (λ x. nat_lt x 256) rest) three.1 in
    (record { first = one.0; second = two.0; third = three.0; last = last.0 }, last.1)

four_small : (n : ℕ) → n < 4294967296 → (rest : List ℕ) → AreBytes rest → AreBytes (four n ++ rest)
four_small n small rest h = are_four (n / 65536 / 256) (n / 65536 % 256) (n % 65536 / 256) (n % 65536 % 256) (omega arith) (omega arith) (omega arith) (omega arith) rest h

hex_back : (n : ℕ) → Is32 n → hex_of (hex_word n) ≡ Some n
hex_back n small =
    ap four_behind (stripped_back (codes "0x") (hex8 n)) ∙ ap (λ o. four_in (short o)) (pairs_back (four n) (four_small n small [] refl)) ∙ ap Some (number4_back n small)

four_same : (bytes : List ℕ) (n : ℕ) → AreBytes bytes → four_bytes bytes ≡ Some n → bytes ≡ four n
four_same (a ∷ b ∷ c ∷ d ∷ []) n h e =
    let s = (small4 a b c d [] h).0 in
    let same : number4 a b c d ≡ n = cc in
    sym (four_of_number a b c d s.first s.second s.third s.last) ∙ ap four same
four_same [] n h e = cc
four_same (a ∷ []) n h e = cc
four_same (a ∷ b ∷ []) n h e = cc
four_same (a ∷ b ∷ c ∷ []) n h e = cc
four_same (a ∷ b ∷ c ∷ d ∷ x ∷ rest) n h e = cc

four_read : (digits : List ℕ) (n : ℕ) (o : Option (List ℕ)) → short (pairs_of digits) ≡ o → four_in o ≡ Some n → digits ≡ hex8 n
four_read digits n None p e = cc
four_read digits n (Some bytes) p e =
    let read = short_same (pairs_of digits) bytes p in
    pairs_same digits bytes read ∙ ap pairs_text (four_same bytes n (pairs_small digits bytes read) e)

hex_from : (word : List ℕ) (n : ℕ) (o : Option (List ℕ)) → stripped (codes "0x") word ≡ o → four_behind o ≡ Some n → word ≡ hex_word n
hex_from word n None p e = cc
hex_from word n (Some digits) p e = stripped_same (codes "0x") word digits p ∙ ap (λ t. codes "0x" ++ t) (four_read digits n (short (pairs_of digits)) refl e)

marked : (bytes : List ℕ) → IsWord (codes "0x" ++ pairs_text bytes)
marked bytes = longer 48 (120 ∷ pairs_text bytes) (λ e. absurd (omega arith)) (longer 120 (pairs_text bytes) (λ e. absurd (omega arith)) (pairs_word bytes))

pub hex_field : Field hex_of hex_word Is32
hex_field = record { back = hex_back; same = λ word n e. hex_from word n (stripped (codes "0x") word) refl e; whole = λ n h. marked (four n) }

-- numbers of eight bytes

abbrev eight : ℕ → List ℕ
eight n = four (n / 4294967296) ++ four (n % 4294967296)

high_fits : (n : ℕ) → n < 18446744073709551616 → n / 4294967296 < 4294967296
high_fits n small = omega arith

low_fits : (n : ℕ) → n % 4294967296 < 4294967296
low_fits n = omega arith

both_halves : (n : ℕ) → n / 4294967296 * 4294967296 + n % 4294967296 ≡ n
both_halves n = omega arith

long_back : (n : ℕ) → Is64 n → long_hex_of (long_hex_word n) ≡ Some n
long_back n small =
    let high = n / 4294967296 in
    let lower = n % 4294967296 in
    ap eight_behind (stripped_back (codes "0x") (hex16 n))
    ∙ ap (λ o. eight_in (short o)) (pairs_back (eight n) (four_small high (high_fits n small) (four lower) (four_small lower (low_fits n) [] refl)))
    ∙ ap (λ x. Some (x * 4294967296 + number4 (lower / 65536 / 256) (lower / 65536 % 256) (lower % 65536 / 256) (lower % 65536 % 256))) (number4_back high (high_fits n small))
    ∙ ap (λ x. Some (high * 4294967296 + x)) (number4_back lower (low_fits n))
    ∙ ap Some (both_halves n)

high_half : (x y : ℕ) → y < 4294967296 → (x * 4294967296 + y) / 4294967296 ≡ x
high_half x y small = omega arith

low_half : (x y : ℕ) → y < 4294967296 → (x * 4294967296 + y) % 4294967296 ≡ y
low_half x y small = omega arith

eight_same : (bytes : List ℕ) (n : ℕ) → AreBytes bytes → eight_bytes bytes ≡ Some n → bytes ≡ eight n
eight_same (a ∷ b ∷ c ∷ d ∷ e ∷ f ∷ g ∷ h ∷ []) n are is =
    let one = small4 a b c d (e ∷ f ∷ g ∷ h ∷ []) are in
    let two = small4 e f g h [] one.1 in
    let x = number4 a b c d in
    let y = number4 e f g h in
    let small : y < 4294967296 = small_four e f g h two.0.first two.0.second two.0.third two.0.last in
    let same : x * 4294967296 + y ≡ n = cc in
    sym (ap (λ t. four t ++ four ((x * 4294967296 + y) % 4294967296)) (high_half x y small) ∙ ap (λ t. four x ++ four t) (low_half x y small)
    ∙ ap (λ t. t ++ four y) (four_of_number a b c d one.0.first one.0.second one.0.third one.0.last) ∙ ap (λ t. a ∷ b ∷ c ∷ d ∷ t) (four_of_number e f g h two.0.first two.0.second two.0.third two.0.last))
    ∙ ap eight same
eight_same [] n are is = cc
eight_same (a ∷ []) n are is = cc
eight_same (a ∷ b ∷ []) n are is = cc
eight_same (a ∷ b ∷ c ∷ []) n are is = cc
eight_same (a ∷ b ∷ c ∷ d ∷ []) n are is = cc
eight_same (a ∷ b ∷ c ∷ d ∷ e ∷ []) n are is = cc
eight_same (a ∷ b ∷ c ∷ d ∷ e ∷ f ∷ []) n are is = cc
eight_same (a ∷ b ∷ c ∷ d ∷ e ∷ f ∷ g ∷ []) n are is = cc
eight_same (a ∷ b ∷ c ∷ d ∷ e ∷ f ∷ g ∷ h ∷ x ∷ rest) n are is = cc

eight_read : (digits : List ℕ) (n : ℕ) (o : Option (List ℕ)) → short (pairs_of digits) ≡ o → eight_in o ≡ Some n → digits ≡ hex16 n
eight_read digits n None p e = cc
eight_read digits n (Some bytes) p e =
    let read = short_same (pairs_of digits) bytes p in
    pairs_same digits bytes read ∙ ap pairs_text (eight_same bytes n (pairs_small digits bytes read) e)

long_from : (word : List ℕ) (n : ℕ) (o : Option (List ℕ)) → stripped (codes "0x") word ≡ o → eight_behind o ≡ Some n → word ≡ long_hex_word n
long_from word n None p e = cc
long_from word n (Some digits) p e = stripped_same (codes "0x") word digits p ∙ ap (λ t. codes "0x" ++ t) (eight_read digits n (short (pairs_of digits)) refl e)

long_field : Field long_hex_of long_hex_word Is64
long_field = record { back = long_back; same = λ word n e. long_from word n (stripped (codes "0x") word) refl e; whole = λ n h. marked (eight n) }

-- what a driver answered

answer_back : (answer : Option ℕ) → IsTypedAnswer answer → answer_of (answer_word answer) ≡ Some answer
answer_back None h = refl
answer_back (Some bits) h = ap one_answer (long_field.back bits h)

answer_whole : (answer : Option ℕ) → IsTypedAnswer answer → IsWord (answer_word answer)
answer_whole None h = λ text. refl
answer_whole (Some bits) h = long_field.whole bits h

answer_from : (word : List ℕ) (answer : Option ℕ) (o : Option ℕ) → long_hex_of word ≡ o → one_answer o ≡ Some answer → word ≡ answer_word answer
answer_from word answer None p e = cc
answer_from word answer (Some bits) p e = let same : Some bits ≡ answer = cc in long_field.same word bits p ∙ ap answer_word same

answer_same : (word : List ℕ) (answer : Option ℕ) → answer_of word ≡ Some answer → word ≡ answer_word answer
answer_same word answer e = by_test (bytes_eq word (codes "fault")) refl e
  where
    by_test : (b : Bool) → bytes_eq word (codes "fault") ≡ b → cond b (Some None) (one_answer (long_hex_of word)) ≡ Some answer → word ≡ answer_word answer
    by_test true p q = let same : None ≡ answer = cc in (bytes_eq-Decides word (codes "fault")).0 p ∙ ap answer_word same
    by_test false p q = answer_from word answer (long_hex_of word) refl q

pub answer_field : Field answer_of answer_word IsTypedAnswer
answer_field = record { back = answer_back; same = answer_same; whole = answer_whole }
