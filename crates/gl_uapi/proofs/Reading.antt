-- What is read where fields stand one after the other.
use Rattle.std.proofs.Common.{ℕ, zero, suc, true, ◌≡◌, ◌==◌, ◌+◌, ◌-◌, ◌^◌, ◌<◌, ◌≤◌, List, ◌++◌, [], length, take, drop, replicate, refl, sym, ap, ◌∙◌, arith, append-nil}
use Rattle.std.specs.List.{list_all}
use Rattle.std.proofs.lemmas.List.{drop-drop, drop_at, take_at, length-replicate}
use Rattle.byteorder.specs.Numbers.{length-bytes_low_first, little_from-take, little_number-reads_back}
use Rattle.gl_uapi.specs.Fields.{is_zero_at, number_at, number_bytes, stretch, zeros}

-- a number of so many bytes has so many
pub length-number_bytes : (width number : ℕ) → length (number_bytes width number) ≡ width
unfolding number_bytes
length-number_bytes width number = length-bytes_low_first 0 width number

pub length-zeros : (count : ℕ) → length (zeros count) ≡ count
unfolding zeros
length-zeros count = length-replicate count 0

-- what stands behind the first bytes
pub drop-behind : (front rest : List ℕ) (o k : ℕ) → length front ≡ k → k ≤ o → drop o (front ++ rest) ≡ drop (o - k) rest
drop-behind front rest o k long below =
    let split : o ≡ k + (o - k) = omega arith in
    ap (λ n. drop n (front ++ rest)) split ∙ sym (drop-drop (o - k) k (front ++ rest)) ∙ ap (drop (o - k)) (drop_at front rest k long)

-- the first field is read back
pub number_at-here : (width number : ℕ) (rest : List ℕ) → number < 256 ^ width → number_at width 0 (number_bytes width number ++ rest) ≡ number
unfolding number_at number_bytes
number_at-here width number rest fits = little_number-reads_back width number rest fits

-- a field is read past those before it
pub number_at-behind : (width o k : ℕ) (front rest : List ℕ) → length front ≡ k → k ≤ o → number_at width o (front ++ rest) ≡ number_at width (o - k) rest
unfolding number_at
number_at-behind width o k front rest long below = ap (λ bytes. number_at width 0 bytes) (drop-behind front rest o k long below)

pub stretch-here : (front rest : List ℕ) (count : ℕ) → length front ≡ count → stretch 0 count (front ++ rest) ≡ front
unfolding stretch
stretch-here front rest count long = take_at front rest count long

pub stretch-behind : (o k count : ℕ) (front rest : List ℕ) → length front ≡ k → k ≤ o → stretch o count (front ++ rest) ≡ stretch (o - k) count rest
unfolding stretch
stretch-behind o k count front rest long below = ap (take count) (drop-behind front rest o k long below)

-- zeros are zero
all_zero : (n : ℕ) → list_all (λ byte. byte == 0) (replicate n 0) ≡ true
all_zero zero = refl
all_zero (suc n) = all_zero n

pub is_zero_at-here : (count : ℕ) (rest : List ℕ) → is_zero_at 0 count (zeros count ++ rest) ≡ true
unfolding zeros
is_zero_at-here count rest =
    ap (list_all (λ byte. byte == 0)) (stretch-here (replicate count 0) rest count (length-replicate count 0)) ∙ all_zero count

pub is_zero_at-behind : (o k count : ℕ) (front rest : List ℕ) → length front ≡ k → k ≤ o → is_zero_at o count (front ++ rest) ≡ is_zero_at (o - k) count rest
is_zero_at-behind o k count front rest long below = ap (list_all (λ byte. byte == 0)) (stretch-behind o k count front rest long below)

-- zeros at the end of the bytes
pub is_zero_at-last : (count : ℕ) → is_zero_at 0 count (zeros count) ≡ true
is_zero_at-last count = ap (is_zero_at 0 count) (sym (append-nil (zeros count))) ∙ is_zero_at-here count []

-- the number in a stretch of its length
pub number_at-stretch : (width offset : ℕ) (bytes : List ℕ) → number_at width 0 (stretch offset width bytes) ≡ number_at width offset bytes
unfolding number_at stretch
number_at-stretch width offset bytes = little_from-take 0 width width (drop offset bytes) (omega arith)
