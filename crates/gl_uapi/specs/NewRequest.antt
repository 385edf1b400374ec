-- What a client hands in to request lines (`struct gpio_v2_line_request` of `linux/gpio.h`). All padding and every
-- attribute that isn't used is zero.
use Rattle.std.specs.Prelude.{ℕ, pos, ◌-◌, ◌*◌, ◌%◌, ◌^◌, ◌<◌, List, [], ◌∷◌, ◌++◌, length, map, replicate}
use Rattle.gl_base.specs.Name.{field_of}
use Rattle.gl_base.specs.Rows.{Each}
use Rattle.gl_uapi.specs.declared.new_requests.AttributeValue.{AttributeValue}
use Rattle.gl_uapi.specs.declared.new_requests.AttributeValue.TheVariants.{Flags, OutputValues, Debounce}
use Rattle.gl_uapi.specs.declared.new_requests.NewAttribute.{NewAttribute}
use Rattle.gl_uapi.specs.declared.layout.TheConstants.{ATTRIBUTE_DEBOUNCE, ATTRIBUTE_FLAGS, ATTRIBUTE_OUTPUT_VALUES, ATTRIBUTE_PADDING_SIZE, CONFIG_PADDING_SIZE, REQUEST_PADDING_SIZE}
use Rattle.gl_uapi.specs.Fields.{number_bytes, zeros}
use Rattle.gl_uapi.specs.LineConfig.{Attribute, Config}
use Rattle.gl_uapi.specs.LineRequest.{Request}

-- the id of an attribute
abbrev pub value_id : AttributeValue → ℕ
value_id (Flags flags) = ATTRIBUTE_FLAGS
value_id (OutputValues values) = ATTRIBUTE_OUTPUT_VALUES
value_id (Debounce period) = ATTRIBUTE_DEBOUNCE

-- what stands in its eight bytes; a period stands in the lower four, and the others are zero
abbrev pub value_number : AttributeValue → ℕ
value_number (Flags flags) = flags
value_number (OutputValues values) = values
value_number (Debounce period) = period

-- An attribute as it is read. The same bytes are read as a value and as a period.
abbrev pub new_attribute : NewAttribute → Attribute
new_attribute attribute = record {
  id = value_id attribute.value;
  value = value_number attribute.value;
  period = value_number attribute.value % 2 ^ 32;
  mask = attribute.mask;
}

-- the bytes of an attribute
abbrev pub new_attribute_bytes : NewAttribute → List ℕ
new_attribute_bytes attribute =
    number_bytes 4 (value_id attribute.value) ++ zeros ATTRIBUTE_PADDING_SIZE ++ number_bytes 8 (value_number attribute.value)
    ++ number_bytes 8 attribute.mask

-- the bytes of attributes, one after the other
abbrev pub attributes_bytes : List NewAttribute → List ℕ
attributes_bytes [] = []
attributes_bytes (attribute ∷ attributes) = new_attribute_bytes attribute ++ attributes_bytes attributes

-- an attribute that isn't used
abbrev pub unused_attribute : Attribute
unused_attribute = record { id = 0; value = 0; period = 0; mask = 0 }

-- a configuration with these flags and attributes, as it is read
abbrev pub new_config : ℕ → List NewAttribute → Config
new_config flags attributes = record {
  flags = flags;
  num_attrs = length attributes;
  padding = zeros CONFIG_PADDING_SIZE;
  attributes = map new_attribute attributes ++ replicate (10 - length attributes) unused_attribute;
}

-- its bytes
abbrev pub new_config_bytes : ℕ → List NewAttribute → List ℕ
new_config_bytes flags attributes =
    number_bytes 8 flags ++ number_bytes 4 (length attributes) ++ zeros CONFIG_PADDING_SIZE ++ attributes_bytes attributes
    ++ zeros (240 - 24 * length attributes)

-- the bytes of offsets, one after the other
abbrev pub offsets_bytes : List ℕ → List ℕ
offsets_bytes [] = []
offsets_bytes (offset ∷ offsets) = number_bytes 4 offset ++ offsets_bytes offsets

-- a request for lines, as it is read; no file has been made
abbrev pub new_request : List ℕ → List ℕ → ℕ → List NewAttribute → ℕ → Request
new_request offsets consumer flags attributes events = record {
  offsets = offsets ++ replicate (64 - length offsets) 0;
  consumer = field_of consumer;
  config = new_config flags attributes;
  num_lines = length offsets;
  event_buffer_size = events;
  padding = zeros REQUEST_PADDING_SIZE;
  fd = pos 0;
}

-- its bytes
abbrev pub new_request_bytes : List ℕ → List ℕ → ℕ → List NewAttribute → ℕ → List ℕ
new_request_bytes offsets consumer flags attributes events =
    offsets_bytes offsets ++ zeros (256 - 4 * length offsets) ++ field_of consumer ++ new_config_bytes flags attributes
    ++ number_bytes 4 (length offsets) ++ number_bytes 4 events ++ zeros 24

-- the number of an attribute's value has room in its bytes
abbrev pub ValueFits : AttributeValue → Type 0
ValueFits (Flags flags) = flags < 2 ^ 64
ValueFits (OutputValues values) = values < 2 ^ 64
ValueFits (Debounce period) = period < 2 ^ 32

-- the fields of an attribute have room in their bytes, as each of the code has
pub record AttributeFits (attribute : NewAttribute) : Type 0 where
  pub value : ValueFits attribute.value
  pub mask : attribute.mask < 2 ^ 64

-- the fields of a configuration have room in their bytes
pub record ConfigFits (flags : ℕ) (attributes : List NewAttribute) : Type 0 where
  pub flags_fit : flags < 2 ^ 64
  pub attributes_fit : Each AttributeFits attributes

-- the fields of a request have room in their bytes
pub record RequestFits (offsets : List ℕ) (flags : ℕ) (attributes : List NewAttribute) (events : ℕ) : Type 0 where
  pub offsets_fit : Each (λ offset. offset < 2 ^ 32) offsets
  pub config : ConfigFits flags attributes
  pub events_fit : events < 2 ^ 32
