-- The bytes of commands on open files.
use Rattle.std.proofs.Common.{◌≡◌, ℕ, zero, suc, ◌-◌, ◌≤◌, List, ◌++◌, length, take, drop, min, replicate, true, refl, sym, ap, ◌∙◌, subst, inl, inr, arith, length-append}
use Rattle.std.specs.Prelude.{◌==◌}
use Rattle.std.specs.List.{list_all}
use Rattle.std.proofs.lemmas.Bool.{cases_lt}
use Rattle.std.proofs.lemmas.List.{append-nil, drop_all, drop-replicate, drop_at, length-replicate, length-take, take_all, take_at}
use Rattle.std.proofs.Math.Nat.{min-eq_left, min-eq_right}
use Rattle.gl_base.specs.Padded.{padded}
use Rattle.gl_uapi.specs.declared.layout.TheConstants.{LINE_REQUEST_SIZE}
use Rattle.gl_model.specs.Fits.{FitsBytes}
use Rattle.gl_asking.specs.Asking.{buffer_of}
use Rattle.gl_asking.specs.Handed.{handed_in}

all_zero : (n : ℕ) → list_all (λ byte. byte == 0) (replicate n 0) ≡ true
all_zero zero = refl
all_zero (suc n) = all_zero n

-- the start of a buffer, copied over zeros
copied_over : (size count : ℕ) (buffer copied : List ℕ) → count ≡ min (length buffer) size → copied ≡ take count buffer → copied ++ drop count (replicate size 0) ≡ padded size (take size buffer)
copied_over size count buffer copied is was = elim (cases_lt size (length buffer)) as (λ _. copied ++ drop count (replicate size 0) ≡ padded size (take size buffer)) [
  | inl longer ↦
      let all : count ≡ size = is ∙ min-eq_right (omega (arith, longer)) in
      let long : length (take size buffer) ≡ size = length-take size buffer ∙ min-eq_left (omega (arith, longer)) in
      both (was ∙ ap (λ (n : ℕ). take n buffer) all) (omega (arith, all, long))
  | inr within ↦
      let all : count ≡ length buffer = is ∙ min-eq_left within in
      let whole : take size buffer ≡ buffer = take_all size buffer within in
      both (was ∙ (ap (λ (n : ℕ). take n buffer) all ∙ (take_all (length buffer) buffer (omega arith) ∙ sym whole))) (ap (λ n. size - n) (all ∙ sym (ap (λ (l : List ℕ). length l) whole)))
]
  where
    both : copied ≡ take size buffer → size - count ≡ size - length (take size buffer) → copied ++ drop count (replicate size 0) ≡ padded size (take size buffer)
    both same left = ap (λ zs. copied ++ zs) (drop-replicate count size 0 ∙ ap (λ n. replicate n 0) left) ∙ ap (λ (xs : List ℕ). xs ++ replicate (size - length (take size buffer)) 0) same

padded_length : (size : ℕ) (buffer : List ℕ) → length (padded size (take size buffer)) ≡ size
padded_length size buffer = length-append (take size buffer) (replicate (size - length (take size buffer)) 0)
    ∙ omega (arith, length-replicate {A = ℕ} (size - length (take size buffer)) 0, length-take size buffer, at_most)
  where
    at_most : length (take size buffer) ≤ size
    at_most = elim (cases_lt size (length buffer)) as (λ _. length (take size buffer) ≤ size) [
      | inl longer ↦ omega (arith, length-take size buffer, let few : min size (length buffer) ≡ size = min-eq_left (omega (arith, longer)) in few)
      | inr within ↦ omega (arith, length-take size buffer, let few : min size (length buffer) ≡ length buffer = min-eq_right within in few)
    ]

padded_zeros : (size : ℕ) (buffer : List ℕ) → list_all (λ byte. byte == 0) (drop (length buffer) (padded size (take size buffer))) ≡ true
padded_zeros size buffer = elim (cases_lt size (length buffer)) as (λ _. list_all (λ byte. byte == 0) (drop (length buffer) (padded size (take size buffer))) ≡ true) [
  | inl longer ↦ ap (λ (l : List ℕ). list_all (λ byte. byte == 0) l) (drop_all (length buffer) (padded size (take size buffer)) (omega (arith, longer, padded_length size buffer)))
  | inr within ↦
      let whole : take size buffer ≡ buffer = take_all size buffer within in
      ap (λ (xs : List ℕ). list_all (λ byte. byte == 0) (drop (length buffer) (padded size xs))) whole
      ∙ (ap (λ (l : List ℕ). list_all (λ byte. byte == 0) l) (drop_at buffer (replicate (size - length buffer) 0) (length buffer) refl) ∙ all_zero (size - length buffer))
]

padded_start : (size : ℕ) (buffer : List ℕ) → take size buffer ≡ take (length buffer) (padded size (take size buffer))
padded_start size buffer = elim (cases_lt size (length buffer)) as (λ _. take size buffer ≡ take (length buffer) (padded size (take size buffer))) [
  | inl longer ↦
      let long : length (take size buffer) ≡ size = length-take size buffer ∙ min-eq_left (omega (arith, longer)) in
      sym (take_all (length buffer) (padded size (take size buffer)) (omega (arith, longer, padded_length size buffer))
      ∙ (ap (λ n. take size buffer ++ replicate n 0) (let none : size - length (take size buffer) ≡ 0 = omega (arith, long) in none) ∙ append-nil (take size buffer)))
  | inr within ↦
      let whole : take size buffer ≡ buffer = take_all size buffer within in
      sym (ap (λ (xs : List ℕ). take (length buffer) (padded size xs)) whole ∙ (take_at buffer (replicate (size - length buffer) 0) (length buffer) refl ∙ sym whole))
]

pub copied_is : (count : ℕ) (buffer copied : List ℕ) → count ≡ min (length buffer) LINE_REQUEST_SIZE → copied ≡ take count buffer → copied ++ drop count (replicate LINE_REQUEST_SIZE 0) ≡ handed_in buffer
unfolding handed_in
copied_is count buffer copied is was = copied_over LINE_REQUEST_SIZE count buffer copied is was

-- a buffer with room for the longest structure is handed in as it begins
pub chunk_is_handed : (buffer chunk : List ℕ) → LINE_REQUEST_SIZE ≤ length buffer → chunk ≡ take LINE_REQUEST_SIZE buffer → chunk ≡ handed_in buffer
unfolding handed_in
chunk_is_handed buffer chunk enough is =
    let long : length chunk ≡ LINE_REQUEST_SIZE = ap (λ (xs : List ℕ). length xs) is ∙ (length-take LINE_REQUEST_SIZE buffer ∙ min-eq_left enough) in
    let none : LINE_REQUEST_SIZE - length chunk ≡ 0 = omega (arith, long) in
    sym (ap (λ (xs : List ℕ). padded LINE_REQUEST_SIZE xs) (sym is) ∙ (ap (λ n. chunk ++ replicate n 0) none ∙ append-nil chunk))

pub handed_fits : (buffer : List ℕ) → FitsBytes (length buffer) (handed_in buffer)
unfolding handed_in
handed_fits buffer = record { whole = padded_length LINE_REQUEST_SIZE buffer; zeros = padded_zeros LINE_REQUEST_SIZE buffer }

-- the buffer of a command begins with its bytes
pub handed_start : (buffer : List ℕ) → take LINE_REQUEST_SIZE buffer ≡ take (length buffer) (handed_in buffer)
unfolding handed_in
handed_start buffer = padded_start LINE_REQUEST_SIZE buffer

-- A buffer that begins with an array's bytes

cut_length : (len : ℕ) (bytes : List ℕ) → length (take len bytes) ≤ len
cut_length len bytes = elim (cases_lt len (length bytes)) as (λ _. length (take len bytes) ≤ len) [
  | inl longer ↦ omega (arith, length-take len bytes, let few : min len (length bytes) ≡ len = min-eq_left (omega (arith, longer)) in few)
  | inr within ↦ omega (arith, length-take len bytes, let few : min len (length bytes) ≡ length bytes = min-eq_right within in few)
]

-- it has the length that it is asked for with
pub buffer_length : (len : ℕ) (bytes : List ℕ) → length (buffer_of len bytes) ≡ len
buffer_length len bytes = length-append (take len bytes) (replicate (len - length (take len bytes)) 0)
    ∙ omega (arith, length-replicate {A = ℕ} (len - length (take len bytes)) 0, cut_length len bytes)

-- of its first bytes, as many as the array has are those of the array up to that length
cut_same : (size count len : ℕ) (bytes : List ℕ) → length bytes ≡ size → count ≡ min size len → take size (take count bytes) ≡ take size (padded len (take len bytes))
cut_same size count len bytes long is = elim (cases_lt size len) as (λ _. take size (take count bytes) ≡ take size (padded len (take len bytes))) [
  | inl longer ↦
      let all : count ≡ size = is ∙ min-eq_left (omega (arith, longer)) in
      let whole : take len bytes ≡ bytes = take_all len bytes (omega (arith, longer, long)) in
      let front : take size (take count bytes) ≡ bytes =
      ap (λ (n : ℕ). take size (take n bytes)) all ∙ (ap (λ (xs : List ℕ). take size xs) (take_all size bytes (omega (arith, long))) ∙ take_all size bytes (omega (arith, long))) in
      front ∙ sym (ap (λ (xs : List ℕ). take size (padded len xs)) whole ∙ take_at bytes (replicate (len - length bytes) 0) size long)
  | inr within ↦
      let all : count ≡ len = is ∙ min-eq_right within in
      let short : length (take len bytes) ≡ len = length-take len bytes ∙ min-eq_left (omega (arith, within, long)) in
      let none : padded len (take len bytes) ≡ take len bytes = ap (λ n. take len bytes ++ replicate n 0) (let no : len - length (take len bytes) ≡ 0 = omega (arith, short) in no) ∙ append-nil (take len bytes) in
      ap (λ (n : ℕ). take size (take n bytes)) all ∙ sym (ap (λ (xs : List ℕ). take size xs) none)
]

pub cut_is_handed : (count len : ℕ) (bytes cut : List ℕ) → length bytes ≡ LINE_REQUEST_SIZE → count ≡ min LINE_REQUEST_SIZE len → cut ≡ take count bytes → handed_in cut ≡ handed_in (buffer_of len bytes)
unfolding handed_in
cut_is_handed count len bytes cut long is was =
    ap (λ (front : List ℕ). padded LINE_REQUEST_SIZE front) (ap (λ (xs : List ℕ). take LINE_REQUEST_SIZE xs) was ∙ cut_same LINE_REQUEST_SIZE count len bytes long is)

-- what is handed in of it is zeros past its length
pub cut_fits : (len : ℕ) (bytes handed : List ℕ) → handed ≡ handed_in (buffer_of len bytes) → FitsBytes len handed
cut_fits len bytes handed is = subst (λ (b : List ℕ). FitsBytes len b) (sym is) (subst (λ n. FitsBytes n (handed_in (buffer_of len bytes))) (buffer_length len bytes) (handed_fits (buffer_of len bytes)))
