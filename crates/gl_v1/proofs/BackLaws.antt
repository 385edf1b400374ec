-- What goes back, by the fields.
use Rattle.std.proofs.Common.{ℕ, zero, suc, ◌≡◌, ◌+◌, ◌*◌, ◌<◌, ◌≤◌, List, length, take, get_or, refl, sym, ap, ◌∙◌, arith}
use Rattle.gl_uapi.specs.Fields.{number_at, number_bytes, overwritten, stretch}
use Rattle.gl_uapi.proofs.Reading.{length-number_bytes, number_at-stretch}
use Rattle.gl_v1.specs.declared.commands.CommandV1.TheVariants.{LineInfo as LineInfoCommand, LineHandle, LineEvent}
use Rattle.gl_v1.specs.declared.flags.TheConstants.{INFO_TABLE}
use Rattle.gl_v1.specs.Back.{back_of, event_back, events_back, events_from, events_in, info_back}
use Rattle.gl_v1.specs.Flags.{older_word}
use Rattle.gl_v1.specs.Structures.{LineInfo}
use Rattle.gl_v1.specs.To.{blank, structure_of}
use Rattle.gl_v1.specs.Values.{value_byte, value_bytes}
use Rattle.gl_v1.proofs.Asking.{length-blank, number_alone}
use Rattle.gl_v1.proofs.Places.{length-overwritten, length-stretch, number-at, number-before, stretch-at, stretch-before, take-before}
use Rattle.gl_v1.proofs.FlagWords.{info_word_fits}

pub information_asked : (bytes : List ℕ) (offset flags : ℕ) (name consumer : List ℕ) (lines : ℕ) → LineInfo bytes offset flags name consumer
    → number_at 4 64 (structure_of LineInfoCommand lines bytes) ≡ offset
information_asked bytes offset flags name consumer lines s =
    number-at 4 64 (stretch 0 4 bytes) blank (omega (arith, length-blank)) (length-stretch 0 4 bytes (omega (arith, s.size)))
    ∙ number_at-stretch 4 0 bytes ∙ s.offset_stands

module _ (got bytes : List ℕ) (whole : length got ≡ 592) (size : length bytes ≡ 72) where
  abbrev flags : List ℕ
  flags = number_bytes 4 (older_word INFO_TABLE (number_at 8 72 got))

  abbrev one : List ℕ
  one = overwritten 4 flags bytes

  abbrev two : List ℕ
  two = overwritten 8 (stretch 0 32 got) one

  long_flags : length flags ≡ 4
  long_flags = length-number_bytes 4 (older_word INFO_TABLE (number_at 8 72 got))

  long_one : length one ≡ 72
  long_one = length-overwritten 4 flags bytes (omega (arith, size, long_flags)) ∙ size

  long_name : length (stretch 0 32 got) ≡ 32
  long_name = length-stretch 0 32 got (omega (arith, whole))

  long_two : length two ≡ 72
  long_two = length-overwritten 8 (stretch 0 32 got) one (omega (arith, long_one, long_name)) ∙ long_one

  long_consumer : length (stretch 32 32 got) ≡ 32
  long_consumer = length-stretch 32 32 got (omega (arith, whole))

  pub information_is_back : LineInfo (info_back got bytes) (number_at 4 0 bytes) (older_word INFO_TABLE (number_at 8 72 got)) (stretch 0 32 got) (stretch 32 32 got)
  information_is_back = record {
    size = length-overwritten 40 (stretch 32 32 got) two (omega (arith, long_two, long_consumer)) ∙ long_two;
    offset_stands =
        number-before 4 0 40 (stretch 32 32 got) two (omega (arith, long_two)) (omega arith)
        ∙ number-before 4 0 8 (stretch 0 32 got) one (omega (arith, long_one)) (omega arith)
        ∙ number-before 4 0 4 flags bytes (omega (arith, size)) (omega arith);
    flags_stand =
        number-before 4 4 40 (stretch 32 32 got) two (omega (arith, long_two)) (omega arith)
        ∙ number-before 4 4 8 (stretch 0 32 got) one (omega (arith, long_one)) (omega arith)
        ∙ number-at 4 4 flags bytes (omega (arith, size)) long_flags
        ∙ number_alone 4 (older_word INFO_TABLE (number_at 8 72 got)) (info_word_fits (number_at 8 72 got));
    name_stands =
        stretch-before 8 32 40 (stretch 32 32 got) two (omega (arith, long_two)) (omega arith)
        ∙ stretch-at 8 32 (stretch 0 32 got) one (omega (arith, long_one)) long_name;
    consumer_stands = stretch-at 40 32 (stretch 32 32 got) two (omega (arith, long_two)) long_consumer;
  }

pub information_back : (got bytes : List ℕ) → length got ≡ 592 → length bytes ≡ 72
    → LineInfo (info_back got bytes) (number_at 4 0 bytes) (older_word INFO_TABLE (number_at 8 72 got)) (stretch 0 32 got) (stretch 32 32 got)
information_back = information_is_back

pub handle_number_back : (got bytes : List ℕ) (lines : ℕ) → length got ≡ 592 → length bytes ≡ 364
    → (take 360 (back_of LineHandle lines got bytes) ≡ take 360 bytes) × (stretch 360 4 (back_of LineHandle lines got bytes) ≡ stretch 588 4 got)
handle_number_back got bytes lines whole size = (
  take-before 360 (stretch 588 4 got) bytes (omega (arith, size)),
  stretch-at 360 4 (stretch 588 4 got) bytes (omega (arith, size)) (length-stretch 588 4 got (omega (arith, whole))),
)

pub event_number_back : (got bytes : List ℕ) (lines : ℕ) → length got ≡ 592 → length bytes ≡ 48
    → (take 44 (back_of LineEvent lines got bytes) ≡ take 44 bytes) × (stretch 44 4 (back_of LineEvent lines got bytes) ≡ stretch 588 4 got)
event_number_back got bytes lines whole size = (
  take-before 44 (stretch 588 4 got) bytes (omega (arith, size)),
  stretch-at 44 4 (stretch 588 4 got) bytes (omega (arith, size)) (length-stretch 588 4 got (omega (arith, whole))),
)

byte_of : (bits lines from count i : ℕ) → i < count → get_or (value_bytes bits lines from count) i 0 ≡ value_byte bits lines (from + i)
byte_of bits lines from zero i below = omega (arith, below)
byte_of bits lines from (suc count) zero below = ap (value_byte bits lines) (let e : from ≡ from + 0 = omega arith in e)
byte_of bits lines from (suc count) (suc i) below =
    byte_of bits lines (from + 1) count i (omega arith) ∙ ap (value_byte bits lines) (let e : from + 1 + i ≡ from + suc i = omega arith in e)

pub values_back : (bits lines i : ℕ) → i < 64 → get_or (value_bytes bits lines 0 64) i 0 ≡ value_byte bits lines i
values_back bits lines i below = byte_of bits lines 0 64 i below ∙ ap (value_byte bits lines) (let e : 0 + i ≡ i = omega arith in e)

-- one event, over bytes that have room for it
module _ (got bytes : List ℕ) (j : ℕ) (there : 48 * j + 48 ≤ length got) (room : 16 * j + 16 ≤ length bytes) where
  abbrev first : List ℕ
  first = overwritten (16 * j + 0) (stretch (48 * j + 0) 8 got) bytes

  long_time : length (stretch (48 * j + 0) 8 got) ≡ 8
  long_time = length-stretch (48 * j + 0) 8 got (omega (arith, there))

  long_id : length (stretch (48 * j + 8) 4 got) ≡ 4
  long_id = length-stretch (48 * j + 8) 4 got (omega (arith, there))

  long_first : length first ≡ length bytes
  long_first = length-overwritten (16 * j + 0) (stretch (48 * j + 0) 8 got) bytes (omega (arith, long_time, room))

  pub length-event_back : length (event_back j got bytes) ≡ length bytes
  length-event_back = length-overwritten (16 * j + 8) (stretch (48 * j + 8) 4 got) first (omega (arith, long_first, long_id, room)) ∙ long_first

  pub time_back : number_at 8 (16 * j + 0) (event_back j got bytes) ≡ number_at 8 (48 * j + 0) got
  time_back =
      number-before 8 (16 * j + 0) (16 * j + 8) (stretch (48 * j + 8) 4 got) first (omega (arith, long_first, room)) (omega arith)
      ∙ number-at 8 (16 * j + 0) (stretch (48 * j + 0) 8 got) bytes (omega (arith, room)) long_time ∙ number_at-stretch 8 (48 * j + 0) got

  pub id_back : number_at 4 (16 * j + 8) (event_back j got bytes) ≡ number_at 4 (48 * j + 8) got
  id_back =
      number-at 4 (16 * j + 8) (stretch (48 * j + 8) 4 got) first (omega (arith, long_first, room)) long_id ∙ number_at-stretch 4 (48 * j + 8) got

  -- numbers before it stay
  pub stays_before : (w o : ℕ) → o + w ≤ 16 * j → number_at w o (event_back j got bytes) ≡ number_at w o bytes
  stays_before w o before =
      number-before w o (16 * j + 8) (stretch (48 * j + 8) 4 got) first (omega (arith, long_first, room)) (omega arith)
      ∙ number-before w o (16 * j + 0) (stretch (48 * j + 0) 8 got) bytes (omega (arith, room)) (omega arith)

-- events from j on leave the numbers before
before_stay : (j count : ℕ) (got bytes : List ℕ) (w o : ℕ) → 48 * (j + count) ≤ length got → 16 * (j + count) ≤ length bytes → o + w ≤ 16 * j
    → number_at w o (events_from j count got bytes) ≡ number_at w o bytes
before_stay j zero got bytes w o there room before = refl
before_stay j (suc count) got bytes w o there room before =
    let here : 48 * j + 48 ≤ length got = omega (arith, there) in
    let fits : 16 * j + 16 ≤ length bytes = omega (arith, room) in
    let long = length-event_back got bytes j here fits in
    before_stay (j + 1) count got (event_back j got bytes) w o (omega (arith, there)) (omega (arith, room, long)) (omega (arith, before))
    ∙ stays_before got bytes j here fits w o before

each_of : (j count : ℕ) (got bytes : List ℕ) (i : ℕ) → 48 * (j + count) ≤ length got → 16 * (j + count) ≤ length bytes → i < count
    → (number_at 8 (16 * (j + i) + 0) (events_from j count got bytes) ≡ number_at 8 (48 * (j + i) + 0) got)
    × (number_at 4 (16 * (j + i) + 8) (events_from j count got bytes) ≡ number_at 4 (48 * (j + i) + 8) got)
each_of j zero got bytes i there room below = omega (arith, below)
each_of j (suc count) got bytes zero there room below =
    let here : 48 * j + 48 ≤ length got = omega (arith, there) in
    let fits : 16 * j + 16 ≤ length bytes = omega (arith, room) in
    let long = length-event_back got bytes j here fits in
    let e : j + 0 ≡ j = omega arith in (
      ap (λ n. number_at 8 (16 * n + 0) (events_from j (suc count) got bytes)) e
          ∙ before_stay (j + 1) count got (event_back j got bytes) 8 (16 * j + 0) (omega (arith, there)) (omega (arith, room, long)) (omega arith)
          ∙ time_back got bytes j here fits ∙ ap (λ n. number_at 8 (48 * n + 0) got) (sym e),
      ap (λ n. number_at 4 (16 * n + 8) (events_from j (suc count) got bytes)) e
          ∙ before_stay (j + 1) count got (event_back j got bytes) 4 (16 * j + 8) (omega (arith, there)) (omega (arith, room, long)) (omega arith)
          ∙ id_back got bytes j here fits ∙ ap (λ n. number_at 4 (48 * n + 8) got) (sym e),
    )
each_of j (suc count) got bytes (suc i) there room below =
    let here : 48 * j + 48 ≤ length got = omega (arith, there) in
    let fits : 16 * j + 16 ≤ length bytes = omega (arith, room) in
    let long = length-event_back got bytes j here fits in
    let e : j + suc i ≡ j + 1 + i = omega arith in
    let later = each_of (j + 1) count got (event_back j got bytes) i (omega (arith, there)) (omega (arith, room, long)) (omega (arith, below)) in (
      ap (λ n. number_at 8 (16 * n + 0) (events_from j (suc count) got bytes)) e ∙ later.0 ∙ ap (λ n. number_at 8 (48 * n + 0) got) (sym e),
      ap (λ n. number_at 4 (16 * n + 8) (events_from j (suc count) got bytes)) e ∙ later.1 ∙ ap (λ n. number_at 4 (48 * n + 8) got) (sym e),
    )

pub each_event_back : (got bytes : List ℕ) (i : ℕ) → 16 * events_in got ≤ length bytes → i < events_in got
    → (number_at 8 (16 * i + 0) (events_back got bytes) ≡ number_at 8 (48 * i + 0) got) × (number_at 4 (16 * i + 8) (events_back got bytes) ≡ number_at 4 (48 * i + 8) got)
each_event_back got bytes i room below =
    let all = each_of 0 (events_in got) got bytes i (omega arith) (omega (arith, room)) below in
    let e : 0 + i ≡ i = omega arith in (
      ap (λ n. number_at 8 (16 * n + 0) (events_back got bytes)) (sym e) ∙ all.0 ∙ ap (λ n. number_at 8 (48 * n + 0) got) e,
      ap (λ n. number_at 4 (16 * n + 8) (events_back got bytes)) (sym e) ∙ all.1 ∙ ap (λ n. number_at 4 (48 * n + 8) got) e,
    )
