-- The lines of words of bits, when a bit changes.
use Rattle.std.proofs.Common.{ℕ, zero, suc, Bool, false, not, eqb, ◌≡◌, ◌≢◌, ◌+◌, ◌/◌, ◌%◌, ◌^◌, ◌<◌, List, length, get_or, set, replicate, ap, refl, sym, ◌∙◌, inl, inr, arith, get_or-set_same, get_or-set_other}
use Rattle.std.specs.Int.{bit_at}
use Rattle.std.specs.Int.Bits.{bit_xor}
use Rattle.std.proofs.lemmas.Bool.{cases_eq}
use Rattle.std.proofs.lemmas.List.{get_or-replicate, length-replicate, set-get_or}
use Rattle.std.proofs.lemmas.Nat.Bits.{bit_at-lt, bit_at-pow_other, bit_at-pow_same, bit_at-zero, bit_at_xor}
use Rattle.gl_base.proofs.AtPositions.{get_or-table_from, set-table_from, table_from-filled}
use Rattle.gl_base.specs.Bits.{has_bit}
use Rattle.gl_base.specs.Positions.{table_from}
use Rattle.gl_base.specs.declared.limits.TheConstants.{LINES_MAX}
use Rattle.gl_watch.specs.Files.{no_lines}
use Rattle.gl_watch.specs.Watched.{is_marked, with_mark_changed}

-- of words that are 0 no bit is set
zero_read : (n i : ℕ) → get_or (replicate {A = ℕ} n 0) i 0 ≡ 0
zero_read zero i = refl
zero_read (suc n) zero = refl
zero_read (suc n) (suc i) = zero_read n i

none_marked : (words : List ℕ) (n offset : ℕ) → words ≡ replicate n 0 → is_marked words offset ≡ false
none_marked words n offset is =
    let word : get_or words (offset / 64) 0 ≡ 0 = ap (λ ws. get_or ws (offset / 64) 0) is ∙ zero_read n (offset / 64) in
    ap (λ w. has_bit w (offset % 64)) word ∙ ap (λ b. eqb b 1) (bit_at-zero (offset % 64))

pub no_marks : (words : List ℕ) (n : ℕ) → words ≡ replicate n 0 → table_from (is_marked words) 0 LINES_MAX ≡ no_lines
unfolding no_lines
no_marks words n is =
    sym (table_from-filled (replicate LINES_MAX false) (is_marked words) LINES_MAX (length-replicate LINES_MAX false)
    (λ k d lt. get_or-replicate LINES_MAX k false d lt ∙ sym (none_marked words n k is)))

pub mark_read : (words : List ℕ) (offset : ℕ) (d : Bool) → offset < LINES_MAX → get_or (table_from (is_marked words) 0 LINES_MAX) offset d ≡ is_marked words offset
mark_read words offset d lt = let e : 0 + offset ≡ offset = omega arith in get_or-table_from (is_marked words) 0 LINES_MAX offset d lt ∙ ap (is_marked words) e

-- the bit that changes
flipped : (x : ℕ) → x < 2 → eqb ((x + 1) % 2) 1 ≡ not (eqb x 1)
flipped zero lt = refl
flipped (suc zero) lt = refl
flipped (suc (suc x)) lt = absurd (omega arith)

kept : (x : ℕ) → x < 2 → eqb ((x + 0) % 2) 1 ≡ eqb x 1
kept zero lt = refl
kept (suc zero) lt = refl
kept (suc (suc x)) lt = absurd (omega arith)

same_mark : (words : List ℕ) (offset : ℕ) → offset / 64 < length words → is_marked (with_mark_changed offset words) offset ≡ not (is_marked words offset)
same_mark words offset lt =
    let word : ℕ = get_or words (offset / 64) 0 in
    let b : ℕ = offset % 64 in
    ap (λ w. has_bit w b) (get_or-set_same words (offset / 64) (bit_xor word (2 ^ b)) 0 lt)
    ∙ ap (λ x. eqb x 1) (bit_at_xor word (2 ^ b) b)
    ∙ ap (λ x. eqb ((bit_at word b + x) % 2) 1) (bit_at-pow_same b)
    ∙ flipped (bit_at word b) (bit_at-lt word b)

-- the others stay
other_mark : (words : List ℕ) (offset j : ℕ) → offset / 64 < length words → j ≢ offset → is_marked words j ≡ is_marked (with_mark_changed offset words) j
other_mark words offset j lt ne = elim (cases_eq (j / 64) (offset / 64)) [
  | inl same ↦
      (let word : ℕ = get_or words (offset / 64) 0 in
      let b : ℕ = offset % 64 in
      let bits : j % 64 ≢ b = (λ e. ne (omega (arith, same, e))) in
      ap (λ i. has_bit (get_or words i 0) (j % 64)) same
      ∙ sym (ap (λ i. has_bit (get_or (with_mark_changed offset words) i 0) (j % 64)) same
      ∙ ap (λ w. has_bit w (j % 64)) (get_or-set_same words (offset / 64) (bit_xor word (2 ^ b)) 0 lt)
      ∙ ap (λ x. eqb x 1) (bit_at_xor word (2 ^ b) (j % 64))
      ∙ ap (λ x. eqb ((bit_at word (j % 64) + x) % 2) 1) (bit_at-pow_other b (j % 64) bits)
      ∙ kept (bit_at word (j % 64)) (bit_at-lt word (j % 64))))
  | inr other ↦
      (let word : ℕ = get_or words (offset / 64) 0 in
      ap (λ w. has_bit w (j % 64)) (sym (get_or-set_other words (offset / 64) (j / 64) (bit_xor word (2 ^ (offset % 64))) 0 other)))
]

pub mark_changed : (words : List ℕ) (offset : ℕ) (watch : Bool) → offset < LINES_MAX → offset / 64 < length words → watch ≡ not (is_marked words offset)
    → table_from (is_marked (with_mark_changed offset words)) 0 LINES_MAX ≡ set (table_from (is_marked words) 0 LINES_MAX) offset watch
mark_changed words offset watch lt within is =
    let e : offset ≡ 0 + offset = omega arith in
    sym (set-table_from (is_marked words) (is_marked (with_mark_changed offset words)) 0 LINES_MAX offset watch lt
    (is ∙ sym (same_mark words offset within) ∙ ap (is_marked (with_mark_changed offset words)) e)
    (λ j low high ne. other_mark words offset j within (λ s. ne (s ∙ e))))

pub mark_stays : (words : List ℕ) (offset : ℕ) (watch : Bool) → offset < LINES_MAX → watch ≡ is_marked words offset
    → table_from (is_marked words) 0 LINES_MAX ≡ set (table_from (is_marked words) 0 LINES_MAX) offset watch
mark_stays words offset watch lt is =
    sym (ap (set (table_from (is_marked words) 0 LINES_MAX) offset) (is ∙ sym (mark_read words offset false lt)) ∙ set-get_or (table_from (is_marked words) 0 LINES_MAX) offset false)
