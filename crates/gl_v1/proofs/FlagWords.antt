-- Words of flags and of values have room in their fields.
use Rattle.std.proofs.Common.{ℕ, zero, suc, Bool, true, false, ◌≡◌, ◌-◌, ◌^◌, ◌<◌, ◌≤◌, nat_lt, List, [], ◌∷◌, length, bit_or, refl, arith, rules}
use Rattle.std.specs.Prelude.{if◌then◌else◌}
use Rattle.std.proofs.lemmas.Bool.Decides.{nat_tests}
use Rattle.std.proofs.lemmas.Nat.{or_lt}
use Rattle.std.proofs.Math.Pow.{pow_mono}
use Rattle.gl_base.specs.Bits.{has_bit}
use Rattle.gl_base.specs.Rows.{Each}
use Rattle.gl_v1.specs.declared.flags.FlagPair.{FlagPair}
use Rattle.gl_v1.specs.declared.flags.TheConstants.{EVENT_TABLE, HANDLE_TABLE, INFO_TABLE}
use Rattle.gl_v1.specs.Flags.{event_word, joined, newer, newer_word, older, older_word}
use Rattle.gl_v1.specs.Values.{bits_below}

positive : (n : ℕ) → 1 ≤ 2 ^ n
positive zero = omega arith
positive (suc n) = let more = positive n in omega arith

pub pow_below : (n k : ℕ) → n < k → 2 ^ n < 2 ^ k
pow_below n k below =
    let twice : 2 ^ suc n ≤ 2 ^ k = pow_mono {i = suc n} {j = k} below in
    let some = positive n in
    omega arith

either : (b : Bool) (x y m : ℕ) → x < m → y < m → (if b then x else y) < m
either true x y m one other = one
either false x y m one other = other

joined_fits : (k word here there flags : ℕ) → there < k → flags < 2 ^ k → joined word here there flags < 2 ^ k
joined_fits k word here there flags below fits =
    either (has_bit word here) (bit_or flags (2 ^ there)) flags (2 ^ k) (or_lt k flags (2 ^ there) fits (pow_below there k below)) fits

newer_fits : (table : List FlagPair) (word flags : ℕ) → Each (λ pair. pair.new < 64) table → flags < 2 ^ 64 → newer table word flags < 2 ^ 64
newer_fits [] word flags rows fits = fits
newer_fits (pair ∷ table) word flags rows fits = newer_fits table word (joined word pair.old pair.new flags) rows.1 (joined_fits 64 word pair.old pair.new flags rows.0 fits)

older_fits : (table : List FlagPair) (word flags : ℕ) → Each (λ pair. pair.old < 32) table → flags < 2 ^ 32 → older table word flags < 2 ^ 32
older_fits [] word flags rows fits = fits
older_fits (pair ∷ table) word flags rows fits = older_fits table word (joined word pair.new pair.old flags) rows.1 (joined_fits 32 word pair.new pair.old flags rows.0 fits)

newer_word_fits : (table : List FlagPair) (word : ℕ) → Each (λ pair. pair.new < 64) table → newer_word table word < 2 ^ 64
newer_word_fits table word rows =
    let known : newer table word 0 < 2 ^ 64 = newer_fits table word 0 rows (omega arith) in
    either (nat_lt word (2 ^ length table)) (newer table word 0) (bit_or (newer table word 0) (2 ^ 63)) (2 ^ 64) known
    (or_lt 64 (newer table word 0) (2 ^ 63) known (omega arith))

pub handle_word_fits : (word : ℕ) → newer_word HANDLE_TABLE word < 2 ^ 64
handle_word_fits word = newer_word_fits HANDLE_TABLE word (search rules)

pub event_word_fits : (handle_flags event_flags : ℕ) → event_word HANDLE_TABLE EVENT_TABLE handle_flags event_flags < 2 ^ 64
event_word_fits h e =
    or_lt 64 (bit_or (newer_word HANDLE_TABLE h) (newer_word EVENT_TABLE e)) 4
    (or_lt 64 (newer_word HANDLE_TABLE h) (newer_word EVENT_TABLE e) (handle_word_fits h) (newer_word_fits EVENT_TABLE e (search rules))) (omega arith)

pub info_word_fits : (word : ℕ) → older_word INFO_TABLE word < 2 ^ 32
info_word_fits word = older_fits INFO_TABLE word 0 (search rules) (omega arith)

below_fits : (b : Bool) (n : ℕ) → nat_lt n 64 ≡ b → (if b then 2 ^ n - 1 else 2 ^ 64 - 1) < 2 ^ 64
below_fits true n is = let below : n < 64 = grind (arith, nat_tests, is) in let less = pow_below n 64 below in omega arith
below_fits false n is = omega arith

pub bits_below_fits : (n : ℕ) → bits_below n < 2 ^ 64
bits_below_fits n = below_fits (nat_lt n 64) n refl
