-- The information on a line, `struct gpio_v2_line_info` of `linux/gpio.h`.
use Rattle.std.specs.Prelude.{ℕ, zero, suc, min, ◌==◌, ◌≡◌, ◌+◌, ◌-◌, ◌*◌, ◌^◌, ◌<◌, List, ◌++◌, length, IsTrue, if◌then◌else◌}
use Rattle.gl_base.specs.Name.{field_of, is_name, name_in}
use Rattle.gl_uapi.specs.declared.line_infos.Info.{Info}
use Rattle.gl_uapi.specs.declared.layout.TheConstants.{ATTRIBUTES_MAX, ATTRIBUTE_DEBOUNCE, ATTRIBUTE_ID, ATTRIBUTE_PADDING, ATTRIBUTE_PADDING_SIZE, ATTRIBUTE_PERIOD_END, ATTRIBUTE_VALUE, INFO_ATTRIBUTES, INFO_CONSUMER, INFO_FLAGS, INFO_NAME, INFO_NUM_ATTRS, INFO_OFFSET, LINE_ATTRIBUTE_SIZE, LINE_INFO_SIZE, NAME_SIZE}
use Rattle.gl_uapi.specs.Fields.{is_zero_at, number_at, number_bytes, stretch, zeros}

-- where attribute i of an information begins
abbrev pub attribute_start : ℕ → ℕ
attribute_start i = INFO_ATTRIBUTES + LINE_ATTRIBUTE_SIZE * i

-- the period of the first attribute that is a debounce period, among the n from attribute i on, or 0
abbrev pub first_period : List ℕ → ℕ → ℕ → ℕ
first_period bytes i zero = 0
first_period bytes i (suc n) =
    if number_at 4 (attribute_start i + ATTRIBUTE_ID) bytes == ATTRIBUTE_DEBOUNCE
    then number_at 4 (attribute_start i + ATTRIBUTE_VALUE) bytes
    else first_period bytes (i + 1) n

-- a line's debounce period in microseconds: that of the first attribute which is one, among as many
-- as the information has, ten at most; else 0
abbrev pub info_period : List ℕ → ℕ
info_period bytes = first_period bytes 0 (min (number_at 4 INFO_NUM_ATTRS bytes) ATTRIBUTES_MAX)

-- how many attributes an information with this period has
abbrev pub attribute_count : ℕ → ℕ
attribute_count period = if period == 0 then 0 else 1

-- the id of its first attribute; an attribute that isn't used has 0
abbrev pub attribute_id : ℕ → ℕ
attribute_id period = if period == 0 then 0 else ATTRIBUTE_DEBOUNCE

-- The bytes spell this information. All padding and each attribute that isn't used is zero.
pub record SpellsInfo (bytes : List ℕ) (info : Info) : Type 0 where
  pub size : length bytes ≡ LINE_INFO_SIZE
  pub name : stretch INFO_NAME NAME_SIZE bytes ≡ field_of info.name
  pub consumer : stretch INFO_CONSUMER NAME_SIZE bytes ≡ field_of info.consumer
  pub offset : number_at 4 INFO_OFFSET bytes ≡ info.offset
  pub num_attrs : number_at 4 INFO_NUM_ATTRS bytes ≡ attribute_count info.period
  pub flags : number_at 8 INFO_FLAGS bytes ≡ info.flags
  pub id : number_at 4 (INFO_ATTRIBUTES + ATTRIBUTE_ID) bytes ≡ attribute_id info.period
  pub attribute_padding : IsTrue (is_zero_at (INFO_ATTRIBUTES + ATTRIBUTE_PADDING) ATTRIBUTE_PADDING_SIZE bytes)
  pub period : number_at 4 (INFO_ATTRIBUTES + ATTRIBUTE_VALUE) bytes ≡ info.period
  pub rest : IsTrue (is_zero_at (INFO_ATTRIBUTES + ATTRIBUTE_PERIOD_END) (LINE_INFO_SIZE - (INFO_ATTRIBUTES + ATTRIBUTE_PERIOD_END)) bytes)

-- the bytes of an information
abbrev pub info_bytes : Info → List ℕ
info_bytes info =
    field_of info.name ++ field_of info.consumer ++ number_bytes 4 info.offset ++ number_bytes 4 (attribute_count info.period)
    ++ number_bytes 8 info.flags ++ number_bytes 4 (attribute_id info.period) ++ zeros ATTRIBUTE_PADDING_SIZE
    ++ number_bytes 4 info.period ++ zeros (LINE_INFO_SIZE - (INFO_ATTRIBUTES + ATTRIBUTE_PERIOD_END))

-- the fields of an information have room in their bytes
pub record InfoFits (info : Info) : Type 0 where
  pub name : IsTrue (is_name info.name)
  pub consumer : IsTrue (is_name info.consumer)
  pub offset : info.offset < 2 ^ 32
  pub flags : info.flags < 2 ^ 64
  pub period : info.period < 2 ^ 32

-- the information whose fields stand in the bytes
abbrev pub info_in : List ℕ → Info
info_in bytes = record {
  name = name_in (stretch INFO_NAME NAME_SIZE bytes);
  consumer = name_in (stretch INFO_CONSUMER NAME_SIZE bytes);
  offset = number_at 4 INFO_OFFSET bytes;
  flags = number_at 8 INFO_FLAGS bytes;
  period = info_period bytes;
}
