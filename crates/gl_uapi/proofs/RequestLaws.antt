-- What the bytes of a configuration and of a request spell.
use Rattle.std.proofs.Common.{ℕ, zero, suc, ◌≡◌, ◌+◌, ◌*◌, ◌<◌, ◌≤◌, List, [], length, drop, map, get_or, refl, sym, ap, ◌∙◌, subst, arith, length-drop}
use Rattle.std.proofs.lemmas.List.{ext_get_or, get_or-map, length-map, length-take-le, same_lists}
use Rattle.gl_uapi.specs.Fields.{number_at, stretch, stretches}
use Rattle.gl_uapi.proofs.Reading.{number_at-stretch}
use Rattle.gl_uapi.specs.LineConfig.{Attribute, Config, SpellsAttribute, SpellsConfig, attribute_bytes, attribute_in, config_in, first_attributes}
use Rattle.gl_uapi.specs.LineRequest.{Request, SpellsRequest, request_in}

pub length-stretches : (size offset count : ℕ) (bytes : List ℕ) → length (stretches size offset count bytes) ≡ count
unfolding stretches
length-stretches size offset zero bytes = refl
length-stretches size offset (suc count) bytes = ap suc (length-stretches size (offset + size) count bytes)

-- stretch i
pub get_or-stretches : (size offset count : ℕ) (bytes : List ℕ) (i : ℕ) (d : List ℕ) → i < count
    → get_or (stretches size offset count bytes) i d ≡ stretch (offset + size * i) size bytes
unfolding stretches
get_or-stretches size offset zero bytes i d below = absurd (omega arith)
get_or-stretches size offset (suc count) bytes zero d below =
    let here : offset ≡ offset + size * 0 = omega arith in
    ap (λ n. stretch n size bytes) here
get_or-stretches size offset (suc count) bytes (suc i) d below =
    let there : offset + size + size * i ≡ offset + size * suc i = grind arith in
    get_or-stretches size (offset + size) count bytes i d (omega arith) ∙ ap (λ n. stretch n size bytes) there

pub length-stretch : (offset count : ℕ) (bytes : List ℕ) → offset + count ≤ length bytes → length (stretch offset count bytes) ≡ count
unfolding stretch
length-stretch offset count bytes within = length-take-le count (drop offset bytes) (omega (arith, length-drop offset bytes))

no_attribute : Attribute
no_attribute = record { id = 0; value = 0; period = 0; mask = 0 }

-- attribute i as it is read
pub get_or-first_attributes : (n : ℕ) (bytes : List ℕ) (i : ℕ) (d : Attribute) → i < n → get_or (first_attributes n bytes) i d ≡ attribute_in (attribute_bytes i bytes)
get_or-first_attributes n bytes i d below =
    get_or-map attribute_in (stretches 24 32 n bytes) i [] d (omega (arith, length-stretches 24 32 n bytes)) ∙ ap attribute_in (get_or-stretches 24 32 n bytes i [] below)

attribute_spelled : (bytes : List ℕ) → length bytes ≡ 24 → SpellsAttribute bytes (attribute_in bytes)
attribute_spelled bytes size = record { size = size; id = refl; value = refl; period = refl; mask = refl }

attribute_read : (bytes : List ℕ) (attribute : Attribute) → SpellsAttribute bytes attribute → attribute_in bytes ≡ attribute
attribute_read bytes attribute spelled = simp (spelled.id, spelled.value, spelled.period, spelled.mask)

pub config_spelled : (bytes : List ℕ) → length bytes ≡ 272 → SpellsConfig bytes (config_in bytes)
config_spelled bytes size = record {
  size = size;
  flags = refl;
  num_attrs = refl;
  padding = refl;
  ten = length-map (stretches 24 32 10 bytes) attribute_in ∙ length-stretches 24 32 10 bytes;
  attributes =
      λ i d below.
      let Spelled : Attribute → Type 0 = λ a. SpellsAttribute (attribute_bytes i bytes) a in
      subst Spelled (sym (get_or-first_attributes 10 bytes i d below))
      (attribute_spelled (attribute_bytes i bytes) (length-stretch (32 + 24 * i) 24 bytes (omega arith)));
}

pub config_only : (bytes : List ℕ) (config : Config) → SpellsConfig bytes config → config ≡ config_in bytes
config_only bytes config spelled =
    let long : length (first_attributes 10 bytes) ≡ 10 = length-map (stretches 24 32 10 bytes) attribute_in ∙ length-stretches 24 32 10 bytes in
    let attributes : config.attributes ≡ first_attributes 10 bytes =
    same_lists config.attributes (first_attributes 10 bytes) (spelled.ten ∙ sym long)
    (λ i d below.
    let within : i < 10 = omega (arith, spelled.ten) in
    sym (get_or-first_attributes 10 bytes i d within ∙ attribute_read _ _ (spelled.attributes i d within))) in
    sym (simp (← attributes, spelled.flags, spelled.num_attrs, spelled.padding))

-- the 64 offsets as they are read
offset_read : (bytes : List ℕ) (i : ℕ) → i < 64 → get_or (map (number_at 4 0) (stretches 4 0 64 bytes)) i 0 ≡ number_at 4 (0 + 4 * i) bytes
offset_read bytes i below =
    get_or-map (number_at 4 0) (stretches 4 0 64 bytes) i [] 0 (omega (arith, length-stretches 4 0 64 bytes))
    ∙ ap (number_at 4 0) (get_or-stretches 4 0 64 bytes i [] below) ∙ number_at-stretch 4 (0 + 4 * i) bytes

pub request_spelled : (bytes : List ℕ) → length bytes ≡ 592 → SpellsRequest bytes (request_in bytes)
request_spelled bytes size = record {
  size = size;
  sixty_four = length-map (stretches 4 0 64 bytes) (number_at 4 0) ∙ length-stretches 4 0 64 bytes;
  offsets = λ i below. sym (offset_read bytes i below);
  consumer = refl;
  config = config_spelled (stretch 288 272 bytes) (length-stretch 288 272 bytes (omega arith));
  num_lines = refl;
  event_buffer_size = refl;
  padding = refl;
  fd = refl;
}

pub request_only : (bytes : List ℕ) (request : Request) → SpellsRequest bytes request → request ≡ request_in bytes
request_only bytes request spelled =
    let read : List ℕ = map (number_at 4 0) (stretches 4 0 64 bytes) in
    let long : length read ≡ 64 = length-map (stretches 4 0 64 bytes) (number_at 4 0) ∙ length-stretches 4 0 64 bytes in
    let offsets : request.offsets ≡ read =
    ext_get_or 0 request.offsets read (spelled.sixty_four ∙ sym long)
    (λ i below.
    let within : i < 64 = omega (arith, spelled.sixty_four) in
    sym (offset_read bytes i within ∙ spelled.offsets i within)) in
    let config : request.config ≡ config_in (stretch 288 272 bytes) = config_only (stretch 288 272 bytes) request.config spelled.config in
    sym (simp (← offsets, ← config, spelled.consumer, spelled.num_lines, spelled.event_buffer_size, spelled.padding, spelled.fd))
