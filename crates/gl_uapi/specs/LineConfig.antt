-- The configuration of a request's lines, `struct gpio_v2_line_config` of `linux/gpio.h`, and its attributes.
use Rattle.std.specs.Prelude.{ℕ, ◌≡◌, ◌+◌, ◌*◌, ◌<◌, List, length, map, slice_index_or}
use Rattle.gl_uapi.specs.declared.layout.TheConstants.{ATTRIBUTES_MAX, ATTRIBUTE_ID, ATTRIBUTE_VALUE, CONFIG_ATTRIBUTES, CONFIG_ATTRIBUTE_MASK, CONFIG_ATTRIBUTE_SIZE, CONFIG_FLAGS, CONFIG_NUM_ATTRS, CONFIG_PADDING, CONFIG_PADDING_SIZE, LINE_CONFIG_SIZE}
use Rattle.gl_uapi.specs.Fields.{number_at, stretch, stretches}

-- An attribute and the lines that have it. The same bytes are read as a value and as a period.
pub record Attribute : Type 0 where
  pub id : ℕ
  pub value : ℕ
  pub period : ℕ
  pub mask : ℕ

-- the bytes spell this attribute
pub record SpellsAttribute (bytes : List ℕ) (attribute : Attribute) : Type 0 where
  pub size : length bytes ≡ CONFIG_ATTRIBUTE_SIZE
  pub id : number_at 4 ATTRIBUTE_ID bytes ≡ attribute.id
  pub value : number_at 8 ATTRIBUTE_VALUE bytes ≡ attribute.value
  pub period : number_at 4 ATTRIBUTE_VALUE bytes ≡ attribute.period
  pub mask : number_at 8 CONFIG_ATTRIBUTE_MASK bytes ≡ attribute.mask

-- the attribute whose fields stand in the bytes
abbrev pub attribute_in : List ℕ → Attribute
attribute_in bytes = record {
  id = number_at 4 ATTRIBUTE_ID bytes;
  value = number_at 8 ATTRIBUTE_VALUE bytes;
  period = number_at 4 ATTRIBUTE_VALUE bytes;
  mask = number_at 8 CONFIG_ATTRIBUTE_MASK bytes;
}

-- A configuration, with each of its ten attributes, whether `num_attrs` counts it or not.
pub record Config : Type 0 where
  pub flags : ℕ
  pub num_attrs : ℕ
  pub padding : List ℕ
  pub attributes : List Attribute

-- the bytes of attribute i
abbrev pub attribute_bytes : ℕ → List ℕ → List ℕ
attribute_bytes i bytes = stretch (CONFIG_ATTRIBUTES + CONFIG_ATTRIBUTE_SIZE * i) CONFIG_ATTRIBUTE_SIZE bytes

-- the bytes spell this configuration
pub record SpellsConfig (bytes : List ℕ) (config : Config) : Type 0 where
  pub size : length bytes ≡ LINE_CONFIG_SIZE
  pub flags : number_at 8 CONFIG_FLAGS bytes ≡ config.flags
  pub num_attrs : number_at 4 CONFIG_NUM_ATTRS bytes ≡ config.num_attrs
  pub padding : stretch CONFIG_PADDING CONFIG_PADDING_SIZE bytes ≡ config.padding
  pub ten : length config.attributes ≡ ATTRIBUTES_MAX
  pub attributes : (i : ℕ) (d : Attribute) → i < ATTRIBUTES_MAX → SpellsAttribute (attribute_bytes i bytes) (slice_index_or config.attributes i d)

-- the first n attributes of the configuration that stands in the bytes
abbrev pub first_attributes : ℕ → List ℕ → List Attribute
first_attributes n bytes = map attribute_in (stretches CONFIG_ATTRIBUTE_SIZE CONFIG_ATTRIBUTES n bytes)

-- the configuration whose fields stand in the bytes
abbrev pub config_in : List ℕ → Config
config_in bytes = record {
  flags = number_at 8 CONFIG_FLAGS bytes;
  num_attrs = number_at 4 CONFIG_NUM_ATTRS bytes;
  padding = stretch CONFIG_PADDING CONFIG_PADDING_SIZE bytes;
  attributes = first_attributes ATTRIBUTES_MAX bytes;
}
