-- The bytes of values spell them.
use Rattle.std.proofs.Common.{ℕ, ◌≡◌, ◌^◌, ◌<◌, [], length, sym, ap, ◌∙◌, arith, append-nil, length-append}
use Rattle.gl_uapi.specs.Fields.{number_at, number_bytes}
use Rattle.gl_uapi.specs.LineValues.{SpellsValues, values_bytes}
use Rattle.gl_uapi.proofs.Reading.{length-number_bytes, number_at-behind, number_at-here}

pub length-values_bytes : (bits mask : ℕ) → length (values_bytes bits mask) ≡ 16
length-values_bytes bits mask = simp (length-append, length-number_bytes)

pub values_spelled : (bits mask : ℕ) → bits < 2 ^ 64 → mask < 2 ^ 64 → SpellsValues (values_bytes bits mask) bits mask
values_spelled bits mask f g = record {
  size = length-values_bytes bits mask;
  bits_stand = number_at-here 8 bits (number_bytes 8 mask) f;
  mask_stands =
      number_at-behind 8 8 8 (number_bytes 8 bits) (number_bytes 8 mask) (length-number_bytes 8 bits) (omega arith)
      ∙ ap (number_at 8 0) (sym (append-nil (number_bytes 8 mask))) ∙ number_at-here 8 mask [] g;
}
