-- What a call leaves in its buffer.
use Rattle.std.proofs.Common.{◌≡◌, ℕ, ◌+◌, ◌*◌, ◌<◌, ◌≤◌, ◌/◌, ◌%◌, List, [], ◌∷◌, ◌++◌, length, take, drop, ap, ◌∙◌, arith, length-append, length-drop}
use Rattle.std.specs.Prelude.{slice_index}
use Rattle.gl_uapi.specs.Fields.{number_at, number_bytes}
use Rattle.gl_model.specs.Outcome.{Outcome}
use Rattle.gl_model.specs.declared.reply.Reply.{Reply}
use Rattle.gl_core.specs.Kept.{Kept, StandsFor}

-- a call with a buffer has come to an outcome
abbrev pub Comes : Outcome → Kept → Reply → List ℕ → List ℕ → Type 0
Comes out new reply before after = StandsFor new out.world × (reply ≡ out.reply) × (after ≡ out.bytes ++ drop (length out.bytes) before)

-- what was written over the first n bytes of a buffer, which keeps its length, has n bytes
pub written : (bytes before after : List ℕ) (n : ℕ) → n ≤ length before → length after ≡ length before → after ≡ bytes ++ drop n before → after ≡ bytes ++ drop (length bytes) before
written bytes before after n fits long is =
    let size : length after ≡ length bytes + length (drop n before) = ap (λ (xs : List ℕ). length xs) is ∙ length-append bytes (drop n before) in
    let rest = length-drop n before in
    let same : n ≡ length bytes = omega (arith, size, rest) in
    is ∙ ap (λ m. bytes ++ drop m before) same

-- four bytes are those of the number that they hold
pub four_bytes : (xs : List ℕ) → 4 ≤ length xs → ((k : ℕ) → slice_index xs k < 256) → number_bytes 4 (number_at 4 0 (take 4 xs)) ≡ take 4 xs
unfolding number_at number_bytes
four_bytes [] long bytes = absurd (omega arith)
four_bytes (a ∷ []) long bytes = absurd (omega arith)
four_bytes (a ∷ b ∷ []) long bytes = absurd (omega arith)
four_bytes (a ∷ b ∷ c ∷ []) long bytes = absurd (omega arith)
four_bytes (a ∷ b ∷ c ∷ d ∷ xs) long bytes =
    let at0 : a < 256 = bytes 0 in
    let at1 : b < 256 = bytes 1 in
    let at2 : c < 256 = bytes 2 in
    let at3 : d < 256 = bytes 3 in
    let first : (a + 256 * (b + 256 * (c + 256 * (d + 0)))) % 256 ≡ a = omega arith in
    let second : (a + 256 * (b + 256 * (c + 256 * (d + 0)))) / 256 % 256 ≡ b = omega arith in
    let third : (a + 256 * (b + 256 * (c + 256 * (d + 0)))) / 65536 % 256 ≡ c = omega arith in
    let fourth : (a + 256 * (b + 256 * (c + 256 * (d + 0)))) / 16777216 % 256 ≡ d = omega arith in
    cc
