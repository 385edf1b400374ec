-- The bytes of a command are guessed right from their one spelling.
use Rattle.std.proofs.Common.{◌≡◌, ◌≢◌, ℕ, zero, suc, ◌+◌, ◌-◌, ◌/◌, ◌%◌, ◌^◌, ◌<◌, ◌≤◌, Bool, true, false, cond, eqb, nat_lt, List, [], ◌∷◌, ◌++◌, length, take, drop, refl, sym, ◌∙◌, ap, append_assoc, arith, length-drop, length-take}
use Rattle.std.specs.Prelude.{◌==◌, IsTrue, min, replicate}
use Rattle.std.specs.List.{list_all}
use Rattle.std.proofs.lemmas.Bool.{ne_eqb}
use Rattle.std.proofs.lemmas.Bool.Decides.{nat_tests}
use Rattle.gl_base.specs.BytesText.{blank_before, blank_if, byte_words, bytes_text, has_long_run, hex_digit, pair, run_word, zero_run}
use Rattle.gl_base.specs.Decimal.{decimal}
use Rattle.gl_base.proofs.Decimals.{plain_number_of_text-decimal}
use Rattle.gl_base.proofs.Runs.{run_front}
use Rattle.gl_trace.specs.BufferRead.{Next, guess, next, next_after, next_of, or_zero, run_next, unblank, whole_guess}
use Rattle.gl_trace.specs.Fronts.{front}
use Rattle.gl_trace.specs.Typed.{AreBytes}
use Rattle.gl_trace.proofs.Fields.{both_true, decimal_word}
use Rattle.gl_trace.proofs.Texts.{digit_no_blank, pair_back}

-- zeros of a run
one_zero : (j : ℕ) (text : List ℕ) → next_after (suc j) text ≡ next 0 j text
one_zero j text =
    let test : eqb (suc j) 0 ≡ false = ne_eqb (suc j) 0 (λ e. absurd (omega arith)) in
    let less : suc j - 1 ≡ j = omega arith in
    rw test (ap (λ z. next 0 z text) less)

guess_zeros : (j m : ℕ) (text : List ℕ) → guess (j + m) j text ≡ replicate j 0 ++ guess m 0 text
guess_zeros zero m text = let none : zero + m ≡ m = omega arith in ap (λ n. guess n 0 text) none
guess_zeros (suc j) m text =
    let one : suc j + m ≡ suc (j + m) = omega arith in
    ap (λ n. guess n (suc j) text) one ∙ ap (λ (x : Next). x.byte ∷ guess (j + m) x.zeros x.rest) (one_zero j text) ∙ ap (λ t. 0 ∷ t) (guess_zeros j m text)

-- zeros at the front, and what is after
run_splits : (bytes : List ℕ) → bytes ≡ replicate (zero_run bytes) 0 ++ drop (zero_run bytes) bytes
run_splits [] = refl
run_splits (byte ∷ bytes) = by_test (byte == 0) refl (run_splits bytes)
  where
    by_test : (b : Bool) → (byte == 0) ≡ b → bytes ≡ replicate (zero_run bytes) 0 ++ drop (zero_run bytes) bytes → byte ∷ bytes ≡ replicate (cond b (zero_run bytes + 1) 0) 0 ++ drop (cond b (zero_run bytes + 1) 0) (byte ∷ bytes)
    by_test true p h =
        let is : byte ≡ 0 = grind (arith, nat_tests) in
        let more : suc (zero_run bytes) ≡ zero_run bytes + 1 = omega arith in
        ap (λ b. b ∷ bytes) is ∙ ap (λ t. 0 ∷ t) h ∙ ap (λ n. replicate n 0 ++ drop n (0 ∷ bytes)) more ∙ ap (λ b. replicate (zero_run bytes + 1) 0 ++ drop (zero_run bytes + 1) (b ∷ bytes)) (sym is)
    by_test false p h = refl

-- the first byte of a run's text
run_byte : (k : ℕ) (text : List ℕ) → k < 2 ^ 64 → next_of (48 ∷ 48 ∷ 42 ∷ (decimal k ++ (32 ∷ text))) ≡ next 0 (k - 1) text
run_byte k text small =
    let long : nat_lt (length (48 ∷ 48 ∷ 42 ∷ (decimal k ++ (32 ∷ text)))) 3 ≡ false = grind (arith, nat_tests) in
    rw long (ap run_next (decimal_word k small text) ∙ ap (λ o. next 0 (or_zero o - 1) text) (plain_number_of_text-decimal k small))

-- the byte of a pair
pair_first : (byte mark : ℕ) (text : List ℕ) → byte < 256 → mark ≢ 42 → next_of (pair byte ++ (mark ∷ text)) ≡ next byte 0 (unblank (mark ∷ text))
pair_first byte mark text small other =
    let long : nat_lt (length (pair byte ++ (mark ∷ text))) 3 ≡ false = grind (arith, nat_tests) in
    let test : eqb mark 42 ≡ false = ne_eqb mark 42 other in
    rw (long, test) (ap (λ o. next (or_zero o) 0 (unblank (mark ∷ text))) (pair_back byte small))

digit_no_star : (n : ℕ) → hex_digit n ≢ 42
digit_no_star n = by_test (nat_lt n 10)
  where
    by_test : (b : Bool) → cond b (n + 48) (n + 87) ≢ 42
    by_test true = λ e. absurd (omega arith)
    by_test false = λ e. absurd (omega arith)

abbrev RightFor : List ℕ → Type 0
RightFor bytes = (text : List ℕ) → guess (length bytes) 0 (byte_words false bytes ++ (32 ∷ text)) ≡ bytes

-- no more zeros at the front than bytes
zero_run_fits : (bytes : List ℕ) → zero_run bytes ≤ length bytes
zero_run_fits [] = omega arith
zero_run_fits (byte ∷ bytes) = by_test (byte == 0) (zero_run_fits bytes)
  where
    by_test : (b : Bool) → zero_run bytes ≤ length bytes → cond b (zero_run bytes + 1) 0 ≤ suc (length bytes)
    by_test true h = omega (arith, h)
    by_test false h = omega arith

-- after a run
run_rest : (rest text : List ℕ) → RightFor rest → (left : List ℕ) × ((blank_before rest ++ byte_words false rest) ++ (32 ∷ text) ≡ 32 ∷ left) × (guess (length rest) 0 left ≡ rest)
run_rest [] text h = (text, refl, refl)
run_rest (byte ∷ rest) text h = (byte_words false (byte ∷ rest) ++ (32 ∷ text), refl, h text)

run_right : (bytes : List ℕ) → 8 ≤ zero_run bytes → zero_run bytes < 2 ^ 64 → RightFor (drop (zero_run bytes) bytes) → (k : ℕ) → zero_run bytes ≡ suc k → RightFor bytes
run_right bytes long small h k e = λ text.
    let rest = drop (zero_run bytes) bytes in
    let behind = run_rest rest text h in
    let words : byte_words false bytes ++ (32 ∷ text) ≡ 48 ∷ 48 ∷ 42 ∷ (decimal (zero_run bytes) ++ (32 ∷ behind.0)) =
    ap (λ w. w ++ (32 ∷ text)) (run_front bytes long)
    ∙ append_assoc (run_word (zero_run bytes)) (blank_before rest ++ byte_words false rest) (32 ∷ text)
    ∙ ap (λ t. run_word (zero_run bytes) ++ t) behind.1 in
    let split = run_splits bytes in
    let less : zero_run bytes - 1 ≡ k = omega (arith, e) in
    let sizes : length bytes ≡ suc (k + length rest) = let d : length rest ≡ length bytes - zero_run bytes = length-drop (zero_run bytes) bytes in let z = zero_run_fits bytes in omega (arith, e) in
    ap (guess (length bytes) 0) words
    ∙ ap (λ n. guess n 0 (48 ∷ 48 ∷ 42 ∷ (decimal (zero_run bytes) ++ (32 ∷ behind.0)))) sizes
    ∙ ap (λ (x : Next). x.byte ∷ guess (k + length rest) x.zeros x.rest) (run_byte (zero_run bytes) behind.0 small)
    ∙ ap (λ z. 0 ∷ guess (k + length rest) z behind.0) less
    ∙ ap (λ t. 0 ∷ t) (guess_zeros k (length rest) behind.0 ∙ ap (λ t. replicate k 0 ++ t) behind.2)
    ∙ ap (λ n. replicate n 0 ++ rest) (sym e) ∙ sym split

-- after a byte that is in no long run
after_byte : (more text : List ℕ) → RightFor more → (mark : ℕ) × (left : List ℕ) × ((blank_if (has_long_run more) ++ byte_words false more) ++ (32 ∷ text) ≡ mark ∷ left) × (mark ≢ 42) × (guess (length more) 0 (unblank (mark ∷ left)) ≡ more)
after_byte [] text h = (32, text, refl, (λ e. absurd (omega arith)), refl)
after_byte (byte ∷ more) text h = by_test (has_long_run (byte ∷ more)) refl
  where
    words : List ℕ
    words = byte_words false (byte ∷ more)

    by_test : (b : Bool) → has_long_run (byte ∷ more) ≡ b → (mark : ℕ) × (left : List ℕ) × ((blank_if b ++ words) ++ (32 ∷ text) ≡ mark ∷ left) × (mark ≢ 42) × (guess (length (byte ∷ more)) 0 (unblank (mark ∷ left)) ≡ byte ∷ more)
    by_test true p = (32, words ++ (32 ∷ text), refl, (λ e. absurd (omega arith)), h text)
    by_test false p =
        let left = hex_digit (byte % 16) ∷ ((blank_if (has_long_run more) ++ byte_words false more) ++ (32 ∷ text)) in
        let is : words ++ (32 ∷ text) ≡ hex_digit (byte / 16) ∷ left = rw p refl in
        let test : eqb (hex_digit (byte / 16)) 32 ≡ false = ne_eqb (hex_digit (byte / 16)) 32 (digit_no_blank (byte / 16)) in
        let kept : unblank (hex_digit (byte / 16) ∷ left) ≡ hex_digit (byte / 16) ∷ left = rw test refl in
        (hex_digit (byte / 16), left, is, digit_no_star (byte / 16), ap (guess (length (byte ∷ more)) 0) (kept ∙ sym is) ∙ h text)

byte_right : (byte : ℕ) (more : List ℕ) → byte < 256 → has_long_run (byte ∷ more) ≡ false → RightFor more → RightFor (byte ∷ more)
byte_right byte more small e h = λ text.
    let behind = after_byte more text h in
    let words : byte_words false (byte ∷ more) ++ (32 ∷ text) ≡ pair byte ++ (behind.0 ∷ behind.1) =
    let short : byte_words false (byte ∷ more) ≡ pair byte ++ (blank_if (has_long_run more) ++ byte_words false more) = rw e refl in
    ap (λ w. w ++ (32 ∷ text)) short ∙ ap (λ t. pair byte ++ t) behind.2 in
    ap (guess (length (byte ∷ more)) 0) words
    ∙ ap (λ (x : Next). x.byte ∷ guess (length more) x.zeros x.rest) (pair_first byte behind.0 behind.1 small behind.3)
    ∙ ap (λ t. byte ∷ t) behind.4

are_behind : (n : ℕ) (bytes : List ℕ) → AreBytes bytes → AreBytes (drop n bytes)
are_behind zero bytes h = h
are_behind (suc n) [] h = h
are_behind (suc n) (byte ∷ bytes) h = are_behind n bytes (both_true (nat_lt byte 256) (list_all (λ b. nat_lt b 256) bytes) h).1

right : (n : ℕ) (bytes : List ℕ) → length bytes ≤ n → n < 2 ^ 64 → AreBytes bytes → RightFor bytes
right n [] few small are = λ text. refl
right zero (byte ∷ bytes) few small are = absurd (omega (arith, few))
right (suc n) (byte ∷ bytes) few small are = by_test (has_long_run (byte ∷ bytes)) refl (λ bs f a. right n bs f (omega (arith, small)) a)
  where
    all : List ℕ
    all = byte ∷ bytes

    by_test : (b : Bool) → has_long_run (byte ∷ bytes) ≡ b → ((bs : List ℕ) → length bs ≤ n → AreBytes bs → RightFor bs) → RightFor (byte ∷ bytes)
    by_test true p ih =
        let long : 8 ≤ zero_run (byte ∷ bytes) = grind (arith, nat_tests) in
        let fits = zero_run_fits (byte ∷ bytes) in
        let size : length (drop (zero_run (byte ∷ bytes)) (byte ∷ bytes)) ≡ length (byte ∷ bytes) - zero_run (byte ∷ bytes) = length-drop (zero_run (byte ∷ bytes)) (byte ∷ bytes) in
        let k = zero_run (byte ∷ bytes) - 1 in
        let one : zero_run (byte ∷ bytes) ≡ suc k = omega (arith, long) in
        run_right (byte ∷ bytes) long (omega (arith, fits, few, small)) (ih (drop (zero_run (byte ∷ bytes)) (byte ∷ bytes)) (omega (arith, size, few, long)) (are_behind (zero_run (byte ∷ bytes)) (byte ∷ bytes) are)) k one
    by_test false p ih =
        let parts = both_true (nat_lt byte 256) (list_all (λ b. nat_lt b 256) bytes) are in
        let low : byte < 256 = let q = parts.0 in grind (arith, nat_tests) in
        byte_right byte bytes low p (ih bytes (omega (arith, few)) parts.1)

spelled_right : (bytes text : List ℕ) → RightFor bytes → guess (length bytes) 0 (bytes_text bytes ++ (32 ∷ text)) ≡ bytes
spelled_right [] text h = refl
spelled_right (byte ∷ bytes) text h = h text

-- zeros

zeros_only : (bytes : List ℕ) → list_all (λ byte. byte == 0) bytes ≡ true → bytes ≡ replicate (length bytes) 0
zeros_only [] e = refl
zeros_only (byte ∷ bytes) e =
    let parts = both_true (byte == 0) (list_all (λ b. b == 0) bytes) e in
    let is : byte ≡ 0 = let q = parts.0 in grind (arith, nat_tests) in
    ap (λ b. b ∷ bytes) is ∙ ap (λ t. 0 ∷ t) (zeros_only bytes parts.1)

zeros_behind : (m n : ℕ) → drop m (replicate {A = ℕ} n 0) ≡ replicate (n - m) 0
zeros_behind zero n = let same : n ≡ n - zero = omega arith in ap (λ k. replicate k 0) same
zeros_behind (suc m) zero = let none : 0 ≡ zero - suc m = omega arith in ap (λ k. replicate k 0) none
zeros_behind (suc m) (suc n) = let same : n - m ≡ suc n - suc m = omega arith in zeros_behind m n ∙ ap (λ k. replicate k 0) same

splits : (n : ℕ) (bytes : List ℕ) → take n bytes ++ drop n bytes ≡ bytes
splits zero bytes = refl
splits (suc n) [] = refl
splits (suc n) (byte ∷ bytes) = ap (λ t. byte ∷ t) (splits n bytes)

are_before : (n : ℕ) (bytes : List ℕ) → AreBytes bytes → AreBytes (take n bytes)
are_before zero bytes h = refl
are_before (suc n) [] h = refl
are_before (suc n) (byte ∷ bytes) h =
    let parts = both_true (nat_lt byte 256) (list_all (λ b. nat_lt b 256) bytes) h in
    rw parts.0 (are_before n bytes parts.1)

-- the bytes of a command are guessed from their text
pub guess_back : (len : ℕ) (bytes text : List ℕ) → length bytes ≡ 592 → AreBytes bytes → IsTrue (list_all (λ byte. byte == 0) (drop len bytes)) → whole_guess (min len 592) (bytes_text (take len bytes) ++ (32 ∷ text)) ≡ bytes
guess_back len bytes text size are zeros =
    let told = take len bytes in
    let count : length told ≡ min len 592 = grind (arith, length-take) in
    let few : length told ≤ 592 = omega (arith, count) in
    let front : guess (min len 592) 0 (bytes_text told ++ (32 ∷ text)) ≡ told = ap (λ n. guess n 0 (bytes_text told ++ (32 ∷ text))) (sym count) ∙ spelled_right told text (right 592 told few (omega arith) (are_before len bytes are)) in
    let left : length (drop len bytes) ≡ 592 - min len 592 = grind (arith, length-drop) in
    let behind : drop (min len 592) (replicate 592 0) ≡ drop len bytes = zeros_behind (min len 592) 592 ∙ sym (zeros_only (drop len bytes) zeros ∙ ap (λ k. replicate k 0) left) in
    ap (λ t. t ++ drop (min len 592) (replicate 592 0)) front ∙ ap (λ t. told ++ t) behind ∙ splits len bytes

guess_length : (n leading : ℕ) (text : List ℕ) → length (guess n leading text) ≡ n
guess_length zero leading text = refl
guess_length (suc n) leading text = ap suc (guess_length n (next_after leading text).zeros (next_after leading text).rest)

all_zeros : (n : ℕ) → list_all (λ byte. byte == 0) (replicate n 0) ≡ true
all_zeros zero = refl
all_zeros (suc n) = all_zeros n

zeros_past : (len : ℕ) (front : List ℕ) (n : ℕ) → length front ≤ len → list_all (λ byte. byte == 0) (drop len (front ++ replicate n 0)) ≡ true
zeros_past len [] n few = ap (list_all (λ byte. byte == 0)) (zeros_behind len n) ∙ all_zeros (n - len)
zeros_past zero (byte ∷ front) n few = absurd (omega (arith, few))
zeros_past (suc len) (byte ∷ front) n few = zeros_past len front n (omega (arith, few))

-- what is guessed is zero past the length
pub guess_zeros_past : (len : ℕ) (text : List ℕ) → IsTrue (list_all (λ byte. byte == 0) (drop len (whole_guess (min len 592) text)))
guess_zeros_past len text =
    let count : length (guess (min len 592) 0 text) ≤ len = let size = guess_length (min len 592) 0 text in omega (arith, size) in
    ap (λ z. list_all (λ byte. byte == 0) (drop len (guess (min len 592) 0 text ++ z))) (zeros_behind (min len 592) 592) ∙ zeros_past len (guess (min len 592) 0 text) (592 - min len 592) count
