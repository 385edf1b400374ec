-- Words are read as what they were written for, and as nothing else.
use Rattle.std.proofs.Common.{◌≡◌, ◌≢◌, ℕ, zero, suc, ◌^◌, ◌<◌, ◌≤◌, ◌⊎◌, inl, inr, Bool, true, false, cond, eqb, ◌&&◌, nat_lt, List, [], ◌∷◌, ◌++◌, Option, Some, None, refl, sym, ◌∙◌, ap, arith}
use Rattle.std.specs.Prelude.{◌==◌, codes, find}
use Rattle.std.specs.Char.{is_ascii_digit}
use Rattle.std.specs.Str.{all_ascii_digits, bytes_eq}
use Rattle.std.proofs.lemmas.Bool.{ne_eqb}
use Rattle.std.proofs.lemmas.Bool.Decides.{nat_tests}
use Rattle.std.proofs.lemmas.Slice.Eq.{bytes_eq-Decides}
use Rattle.gl_base.specs.Decimal.{decimal, plain_number_of_text}
use Rattle.gl_base.specs.declared.kind.Kind.{Kind}
use Rattle.gl_base.specs.declared.kind.Kind.TheVariants.{Simulated, Remote}
use Rattle.gl_base.proofs.Decimals.{decimal-plain_number, plain_number_of_text-decimal, digits-decimal}
use Rattle.gl_trace.specs.CallRead.{n8, n32, n64}
use Rattle.gl_trace.specs.CallText.{bit, kind_word, place_word, refused_word, stage_word}
use Rattle.gl_trace.specs.Fronts.{front, front_of, onto_front}
use Rattle.gl_trace.specs.Typed.{Is8, Is32, Is64}
use Rattle.gl_trace.specs.WordRead.{below, choice, kind_of, last_of, number_below, one_place, place_of, poll_of, up_by, up_of}

-- a word has no blank
abbrev pub IsWord : List ℕ → Type 0
IsWord word = (text : List ℕ) → front_of (word ++ (32 ∷ text)) ≡ Some (front word text)

-- a word is read as just what it was written for
pub record Field {A : Type 0} (read : List ℕ → Option A) (write : A → List ℕ) (Has : A → Type 0) : Type 0 where
  pub back : (x : A) → Has x → read (write x) ≡ Some x
  pub same : (word : List ℕ) (x : A) → read word ≡ Some x → word ≡ write x
  pub whole : (x : A) → Has x → IsWord (write x)

pub longer : (byte : ℕ) (word : List ℕ) → byte ≢ 32 → IsWord word → IsWord (byte ∷ word)
longer byte word other h = λ text.
    let test : eqb byte 32 ≡ false = ne_eqb byte 32 other in
    let step : cond (eqb byte 32) (Some (front [] (word ++ (32 ∷ text)))) (onto_front byte (front_of (word ++ (32 ∷ text)))) ≡ onto_front byte (front_of (word ++ (32 ∷ text))) = rw test refl in
    step ∙ ap (onto_front byte) (h text)

pub both_true : (a b : Bool) → (a && b) ≡ true → (a ≡ true) × (b ≡ true)
both_true true true e = (refl, refl)
both_true true false e = cc
both_true false b e = cc

digit_other : (byte : ℕ) → is_ascii_digit byte ≡ true → byte ≢ 32
digit_other byte e = λ same. let r : is_ascii_digit byte ≡ false = ap is_ascii_digit same in absurd (let no : true ≡ false = sym e ∙ r in cc)

digits_word : (word : List ℕ) → all_ascii_digits word ≡ true → IsWord word
digits_word [] e = λ text. refl
digits_word (byte ∷ word) e =
    let p = both_true (is_ascii_digit byte) (all_ascii_digits word) e in
    longer byte word (digit_other byte p.0) (digits_word word p.1)

pub decimal_word : (n : ℕ) → n < 2 ^ 64 → IsWord (decimal n)
decimal_word n small = digits_word (decimal n) (digits-decimal n small)

pub below_same : (n k : ℕ) (o : Option ℕ) → below n o ≡ Some k → (o ≡ Some k) × (k < n)
below_same n k None e = cc
below_same n k (Some m) e = by_test (nat_lt m n) refl e
  where
    by_test : (b : Bool) → nat_lt m n ≡ b → cond b (Some m) None ≡ Some k → (Some m ≡ Some k) × (k < n)
    by_test true p q = let same : m ≡ k = cc in (q, grind (arith, nat_tests))
    by_test false p q = cc

pub number_field : (n : ℕ) → n ≤ 2 ^ 64 → Field (number_below n) decimal (λ k. k < n)
number_field n most = record {
  back = λ k h. let fits : nat_lt k n ≡ true = grind (arith, nat_tests) in ap (below n) (plain_number_of_text-decimal k (omega arith)) ∙ rw fits refl;
  same = λ word k e. decimal-plain_number word k (below_same n k (plain_number_of_text word) e).0;
  whole = λ k h. decimal_word k (omega arith);
}

pub f8 : Field n8 decimal Is8
f8 = number_field 256 (omega arith)

pub f32 : Field n32 decimal Is32
f32 = number_field 4294967296 (omega arith)

pub f64 : Field n64 decimal Is64
f64 = number_field 18446744073709551616 (omega arith)

f1 : Field (number_below 2) decimal (λ k. k < 2)
f1 = number_field 2 (omega arith)

-- any
abbrev pub Any : {A : Type 0} → A → Type 0
Any x = Unit {0}

bit_of : (n : ℕ) → n < 2 → bit (n == 1) ≡ n
bit_of zero h = refl
bit_of (suc zero) h = refl
bit_of (suc (suc n)) h = absurd (omega arith)

up_from : (word : List ℕ) (up : Bool) (o : Option ℕ) → number_below 2 word ≡ o → up_by o ≡ Some up → word ≡ decimal (bit up)
up_from word up None p e = cc
up_from word up (Some n) p e =
    let small : n < 2 = (below_same 2 n (plain_number_of_text word) p).1 in
    let same : (n == 1) ≡ up = cc in
    f1.same word n p ∙ ap decimal (sym (bit_of n small) ∙ ap bit same)

up_back : (up : Bool) → up_of (decimal (bit up)) ≡ Some up
up_back true = ap up_by (f1.back 1 (omega arith))
up_back false = ap up_by (f1.back 0 (omega arith))

up_whole : (up : Bool) → IsWord (decimal (bit up))
up_whole true = decimal_word 1 (omega arith)
up_whole false = decimal_word 0 (omega arith)

pub up_field : Field up_of (λ up. decimal (bit up)) Any
up_field = record {
  back = λ up h. up_back up;
  same = λ word up e. up_from word up (number_below 2 word) refl e;
  whole = λ up h. up_whole up;
}

choice_same : {A : Type 0} (one : List ℕ) (a : A) (two : List ℕ) (b : A) (word : List ℕ) (x : A) → choice one a two b word ≡ Some x → ((word ≡ one) × (x ≡ a)) ⊎ ((word ≡ two) × (x ≡ b))
choice_same {A} one a two b word x e = by_tests (bytes_eq word one) (bytes_eq word two) refl refl e
  where
    by_tests : (p q : Bool) → bytes_eq word one ≡ p → bytes_eq word two ≡ q → cond p (Some a) (cond q (Some b) None) ≡ Some x → ((word ≡ one) × (x ≡ a)) ⊎ ((word ≡ two) × (x ≡ b))
    by_tests true q f g h = inl ((bytes_eq-Decides word one).0 f, cc)
    by_tests false true f g h = inr ((bytes_eq-Decides word two).0 g, cc)
    by_tests false false f g h = cc

written : {A : Type 0} (write : A → List ℕ) (one : List ℕ) (a : A) (two : List ℕ) (b : A) (word : List ℕ) (x : A) → write a ≡ one → write b ≡ two → ((word ≡ one) × (x ≡ a)) ⊎ ((word ≡ two) × (x ≡ b)) → word ≡ write x
written write one a two b word x p q (inl h) = h.0 ∙ sym (ap write h.1 ∙ p)
written write one a two b word x p q (inr h) = h.0 ∙ sym (ap write h.1 ∙ q)

kind_back : (kind : Kind) → kind_of (kind_word kind) ≡ Some kind
kind_back Simulated = refl
kind_back Remote = refl

kind_whole : (kind : Kind) → IsWord (kind_word kind)
kind_whole Simulated = λ text. refl
kind_whole Remote = λ text. refl

pub kind_field : Field kind_of kind_word Any
kind_field = record {
  back = λ kind h. kind_back kind;
  same = λ word kind e. written kind_word (codes "sim") Simulated (codes "remote") Remote word kind refl refl (choice_same (codes "sim") Simulated (codes "remote") Remote word kind e);
  whole = λ kind h. kind_whole kind;
}

last_back : (last : Bool) → last_of (stage_word last) ≡ Some last
last_back true = refl
last_back false = refl

last_whole : (last : Bool) → IsWord (stage_word last)
last_whole true = λ text. refl
last_whole false = λ text. refl

pub last_field : Field last_of stage_word Any
last_field = record {
  back = λ last h. last_back last;
  same = λ word last e. written stage_word (codes "begin") false (codes "finish") true word last refl refl (choice_same (codes "begin") false (codes "finish") true word last e);
  whole = λ last h. last_whole last;
}

poll_back : (poll : Bool) → poll_of (refused_word poll) ≡ Some poll
poll_back true = refl
poll_back false = refl

poll_whole : (poll : Bool) → IsWord (refused_word poll)
poll_whole true = λ text. refl
poll_whole false = λ text. refl

pub poll_field : Field poll_of refused_word Any
poll_field = record {
  back = λ poll h. poll_back poll;
  same = λ word poll e. written refused_word (codes "call") false (codes "poll") true word poll refl refl (choice_same (codes "call") false (codes "poll") true word poll e);
  whole = λ poll h. poll_whole poll;
}

-- places

abbrev pub IsPlace8 : Option ℕ → Type 0
IsPlace8 None = Unit {0}
IsPlace8 (Some place) = Is8 place

no_dash : (n : ℕ) → n < 2 ^ 64 → bytes_eq (decimal n) (codes "-") ≡ false
no_dash n small = by_test (bytes_eq (decimal n) (codes "-")) refl
  where
    by_test : (b : Bool) → bytes_eq (decimal n) (codes "-") ≡ b → b ≡ false
    by_test false e = refl
    by_test true e =
        let same : decimal n ≡ codes "-" = (bytes_eq-Decides (decimal n) (codes "-")).0 e in
        let digits : all_ascii_digits (codes "-") ≡ true = sym (ap all_ascii_digits same) ∙ digits-decimal n small in
        cc

place_back : (place : Option ℕ) → IsPlace8 place → place_of (place_word place) ≡ Some place
place_back None h = refl
place_back (Some place) h = rw (no_dash place (omega arith)) (ap one_place (f8.back place h))

place_whole : (place : Option ℕ) → IsPlace8 place → IsWord (place_word place)
place_whole None h = λ text. refl
place_whole (Some place) h = f8.whole place h

one_place_same : (word : List ℕ) (place : Option ℕ) (o : Option ℕ) → n8 word ≡ o → one_place o ≡ Some place → word ≡ place_word place
one_place_same word place None p e = cc
one_place_same word place (Some n) p e = let same : Some n ≡ place = cc in f8.same word n p ∙ ap place_word same

place_same : (word : List ℕ) (place : Option ℕ) → place_of word ≡ Some place → word ≡ place_word place
place_same word place e = by_test (bytes_eq word (codes "-")) refl e
  where
    by_test : (b : Bool) → bytes_eq word (codes "-") ≡ b → cond b (Some None) (one_place (n8 word)) ≡ Some place → word ≡ place_word place
    by_test true p q = let same : None ≡ place = cc in (bytes_eq-Decides word (codes "-")).0 p ∙ ap place_word same
    by_test false p q = one_place_same word place (n8 word) refl q

pub place_field : Field place_of place_word IsPlace8
place_field = record { back = place_back; same = place_same; whole = place_whole }

-- the first of a list that passes a test passes it
pub found_passes : {X : Type 0} (test : X → Bool) (xs : List X) (x : X) → find test xs ≡ Some x → test x ≡ true
found_passes test [] x e = cc
found_passes {X} test (y ∷ xs) x e = by_test (test y) refl e (found_passes test xs x)
  where
    by_test : (b : Bool) → test y ≡ b → cond b (Some y) (find test xs) ≡ Some x → (find test xs ≡ Some x → test x ≡ true) → test x ≡ true
    by_test true p q h = let same : y ≡ x = cc in sym (ap test same) ∙ p
    by_test false p q h = h q
