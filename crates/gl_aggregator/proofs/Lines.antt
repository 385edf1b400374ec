-- The bits of the lines of an operation that are a target's, one after the other.
use Rattle.std.proofs.Common.{◌≡◌, ℕ, ◌+◌, ◌^◌, ◌<◌, Bool, List, [], ◌∷◌, ◌++◌, length, drop, bit_or, refl, ap, ◌∙◌, sym}
use Rattle.std.specs.Prelude.{if◌then◌else◌, get_or}
use Rattle.std.proofs.lemmas.List.{drop_more}
use Rattle.gl_base.specs.declared.op.Op.{Op}
use Rattle.gl_aggregator.specs.Routes.{LineAt, line_at, lines_from, position_at, with_bits_where}

bits_append : (test : LineAt → Bool) (bit : LineAt → ℕ) (word : ℕ) (xs ys : List LineAt) → with_bits_where test bit word (xs ++ ys) ≡ with_bits_where test bit (with_bits_where test bit word xs) ys
bits_append test bit word [] ys = refl
bits_append test bit word (x ∷ xs) ys = bits_append test bit (bit_or word (if test x then 2 ^ bit x else 0)) xs ys

-- one line more of a word
pub bits_more : (test : LineAt → Bool) (bit : LineAt → ℕ) (word next : ℕ) (op : Op) (base count : ℕ) (offsets : List ℕ) (i d : ℕ) → i < length offsets
    → next ≡ with_bits_where test bit word (line_at i (position_at op base count i (get_or offsets i d)))
    → with_bits_where test bit next (lines_from op base count (i + 1) (drop (i + 1) offsets)) ≡ with_bits_where test bit word (lines_from op base count i (drop i offsets))
bits_more test bit word next op base count offsets i d less is =
    ap (λ w. with_bits_where test bit w (lines_from op base count (i + 1) (drop (i + 1) offsets))) is
    ∙ sym (ap (λ l. with_bits_where test bit word (lines_from op base count i l)) (drop_more offsets i d less)
    ∙ bits_append test bit word (line_at i (position_at op base count i (get_or offsets i d))) (lines_from op base count (i + 1) (drop (i + 1) offsets)))
