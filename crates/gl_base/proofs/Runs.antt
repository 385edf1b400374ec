-- A run of zeros at the front, and a byte that is in none.
use Rattle.std.proofs.Common.{◌≡◌, ◌≤◌, ◌+◌, ◌==◌, ℕ, suc, Bool, true, false, cond, List, [], ◌∷◌, ◌++◌, drop, nat_le, refl, sym, ◌∙◌, ap, append_assoc, arith}
use Rattle.gl_base.specs.BytesText.{zero_run, run_word, blank_before, byte_words}

-- the zeros behind the first of a run that was told
told_if : (b : Bool) (byte : ℕ) (bytes : List ℕ) → b ≡ (byte == 0) → byte_words true bytes ≡ byte_words false (drop (zero_run bytes) bytes)
    → cond b (byte_words true bytes) (byte_words false (byte ∷ bytes)) ≡ byte_words false (drop (cond b (zero_run bytes + 1) 0) (byte ∷ bytes))
told_if true byte bytes e h =
    let more : suc (zero_run bytes) ≡ zero_run bytes + 1 = omega arith in
    h ∙ ap (λ n. byte_words false (drop n (byte ∷ bytes))) more
told_if false byte bytes e h = refl

told : (bytes : List ℕ) → byte_words true bytes ≡ byte_words false (drop (zero_run bytes) bytes)
told [] = refl
told (byte ∷ bytes) = told_if (byte == 0) byte bytes refl (told bytes)

run_if : (b : Bool) (byte : ℕ) (bytes : List ℕ) → b ≡ (byte == 0) → 8 ≤ cond b (zero_run bytes + 1) 0
    → byte_words true bytes ≡ byte_words false (drop (cond b (zero_run bytes + 1) 0) (byte ∷ bytes))
run_if true byte bytes e h =
    let more : suc (zero_run bytes) ≡ zero_run bytes + 1 = omega arith in
    told bytes ∙ ap (λ n. byte_words false (drop n (byte ∷ bytes))) more
run_if false byte bytes e h = absurd (omega arith)

long_if : (b : Bool) (long short : List ℕ) → b ≡ true → cond b long short ≡ long
long_if true long short e = refl
long_if false long short e = cc

short_if : (b : Bool) (long short : List ℕ) → b ≡ false → cond b long short ≡ short
short_if true long short e = cc
short_if false long short e = refl

-- a run at the front
pub run_front : (bytes : List ℕ) → 8 ≤ zero_run bytes
    → byte_words false bytes ≡ run_word (zero_run bytes) ++ (blank_before (drop (zero_run bytes) bytes) ++ byte_words false (drop (zero_run bytes) bytes))
run_front [] h = absurd (omega arith)
run_front (byte ∷ bytes) h =
    long_if (nat_le 8 (zero_run (byte ∷ bytes))) _ _ (grind arith)
    ∙ ap (λ ws. run_word (zero_run (byte ∷ bytes)) ++ (blank_before (drop (zero_run (byte ∷ bytes)) (byte ∷ bytes)) ++ ws)) (run_if (byte == 0) byte bytes refl h)

-- a run was put
pub run_put : (old new bytes rest : List ℕ) (count : ℕ) → new ≡ old ++ (run_word count ++ blank_before rest) → rest ≡ drop count bytes → count ≡ zero_run bytes → 8 ≤ count
    → new ++ byte_words false rest ≡ old ++ byte_words false bytes
run_put old new bytes rest count e r k h =
    let long : 8 ≤ zero_run bytes = omega (arith, k, h) in
    let same : run_word count ++ (blank_before rest ++ byte_words false rest) ≡ byte_words false bytes = rw (r, k) (sym (run_front bytes long)) in
    ap (λ t. t ++ byte_words false rest) e ∙ append_assoc old (run_word count ++ blank_before rest) (byte_words false rest)
    ∙ ap (λ t. old ++ t) (append_assoc (run_word count) (blank_before rest) (byte_words false rest) ∙ same)
