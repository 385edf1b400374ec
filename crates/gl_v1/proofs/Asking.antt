-- What the requests and the configurations ask for.
use Rattle.std.proofs.Common.{ℕ, ◌≡◌, ◌^◌, ◌<◌, ◌≤◌, List, [], ◌∷◌, length, refl, sym, ap, ◌∙◌, subst, arith, append-nil}
use Rattle.gl_base.specs.Rows.{Each}
use Rattle.gl_uapi.specs.declared.new_requests.NewAttribute.{NewAttribute}
use Rattle.gl_uapi.specs.Fields.{number_at, number_bytes, overwritten, stretch, zeros}
use Rattle.gl_uapi.specs.LineConfig.{SpellsConfig}
use Rattle.gl_uapi.specs.NewRequest.{AttributeFits, ConfigFits, new_config, new_config_bytes}
use Rattle.gl_uapi.proofs.NewRequests.{config_spelled, length-new_config_bytes}
use Rattle.gl_uapi.proofs.Reading.{length-number_bytes, length-zeros, number_at-here}
use Rattle.gl_v1.specs.Asked.{Asks}
use Rattle.gl_v1.specs.To.{blank, output_values, request_bytes}
use Rattle.gl_v1.proofs.Bits.{bits_word}
use Rattle.gl_v1.proofs.Places.{length-overwritten, number-at, stretch-at, stretch-before, stretch-past}
use Rattle.gl_v1.proofs.FlagWords.{bits_below_fits}

pub length-blank : length blank ≡ 592
length-blank = length-zeros 592

-- zeros within zeros
zeros_within : stretch 564 28 (zeros 592) ≡ zeros 28
unfolding stretch zeros
zeros_within = refl

-- a number alone is read back
pub number_alone : (w n : ℕ) → n < 256 ^ w → number_at w 0 (number_bytes w n) ≡ n
number_alone w n fits = ap (number_at w 0) (sym (append-nil (number_bytes w n))) ∙ number_at-here w n [] fits

pub outputs_fit : (lines : ℕ) (values : List ℕ) → length values ≤ 64 → Each AttributeFits (output_values lines values ∷ [])
outputs_fit lines values few = (record { value = bits_word values few; mask = bits_below_fits lines }, tt)

module _ (offsets consumer : List ℕ) (flags : ℕ) (attributes : List NewAttribute) (lines : ℕ) (all : List ℕ)
    (fits : length offsets ≤ 256) (named : length consumer ≡ 32) (few : length attributes ≤ 10) (config_fits : ConfigFits flags attributes) (small : lines < 2 ^ 32)
    (front : stretch 0 256 (overwritten 0 offsets blank) ≡ all) where
  abbrev one : List ℕ
  one = overwritten 0 offsets blank

  abbrev two : List ℕ
  two = overwritten 256 consumer one

  abbrev config : List ℕ
  config = new_config_bytes flags attributes

  abbrev three : List ℕ
  three = overwritten 288 config two

  long_one : length one ≡ 592
  long_one = length-overwritten 0 offsets blank (omega (arith, length-blank)) ∙ length-blank

  long_two : length two ≡ 592
  long_two = length-overwritten 256 consumer one (omega (arith, long_one)) ∙ long_one

  configured : length config ≡ 272
  configured = length-new_config_bytes flags attributes few

  long_three : length three ≡ 592
  long_three = length-overwritten 288 config two (omega (arith, long_two, configured)) ∙ long_two

  counted : length (number_bytes 4 lines) ≡ 4
  counted = length-number_bytes 4 lines

  pub asks : Asks (request_bytes offsets consumer config lines) all consumer (new_config flags attributes) lines
  asks = record {
    size = length-overwritten 560 (number_bytes 4 lines) three (omega (arith, long_three, counted)) ∙ long_three;
    offsets_stand =
        stretch-before 0 256 560 (number_bytes 4 lines) three (omega (arith, long_three)) (omega arith)
        ∙ stretch-before 0 256 288 config two (omega (arith, long_two)) (omega arith)
        ∙ stretch-before 0 256 256 consumer one (omega (arith, long_one)) (omega arith) ∙ front;
    consumer_stands =
        stretch-before 256 32 560 (number_bytes 4 lines) three (omega (arith, long_three)) (omega arith)
        ∙ stretch-before 256 32 288 config two (omega (arith, long_two)) (omega arith)
        ∙ stretch-at 256 32 consumer one (omega (arith, long_one)) named;
    config_stands =
        let S : List ℕ → Type 0 = λ bytes. SpellsConfig bytes (new_config flags attributes) in
        subst S (sym (stretch-before 288 272 560 (number_bytes 4 lines) three (omega (arith, long_three)) (omega arith)
        ∙ stretch-at 288 272 config two (omega (arith, long_two)) configured))
        (config_spelled flags attributes few config_fits);
    lines_stand = number-at 4 560 (number_bytes 4 lines) three (omega (arith, long_three)) counted ∙ number_alone 4 lines (omega (arith, small));
    others =
        stretch-past 564 28 560 (number_bytes 4 lines) three (omega (arith, long_three)) (omega (arith, counted))
        ∙ stretch-past 564 28 288 config two (omega (arith, long_two)) (omega (arith, configured))
        ∙ stretch-past 564 28 256 consumer one (omega (arith, long_one)) (omega (arith, named))
        ∙ stretch-past 564 28 0 offsets blank (omega arith) (omega (arith, fits)) ∙ zeros_within;
  }
