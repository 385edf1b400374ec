-- The structures of the first uAPI: bytes that spell a value (`linux/gpio.h`). Numbers are little-endian.
use Rattle.std.specs.Prelude.{ℕ, ℤ, ◌≡◌, List, length}
use Rattle.std.specs.Int.{cast_signed, w32}
use Rattle.gl_uapi.specs.declared.layout.TheConstants.{NAME_SIZE, REQUEST_OFFSET_SIZE}
use Rattle.gl_uapi.specs.Fields.{number_at, stretch}
use Rattle.gl_v1.specs.declared.layout.TheConstants.{V1_CONFIG_FLAGS, V1_CONFIG_PADDING, V1_CONFIG_VALUES, V1_DATA_ID, V1_DATA_PADDING, V1_DATA_TIMESTAMP, V1_EVENT_CONSUMER, V1_EVENT_DATA_SIZE, V1_EVENT_FD, V1_EVENT_FLAGS, V1_EVENT_HANDLE_FLAGS, V1_EVENT_OFFSET, V1_EVENT_REQUEST_SIZE, V1_HANDLE_CONFIG_SIZE, V1_HANDLE_CONSUMER, V1_HANDLE_DATA_SIZE, V1_HANDLE_FD, V1_HANDLE_FLAGS, V1_HANDLE_LINES, V1_HANDLE_OFFSETS, V1_HANDLE_OFFSETS_SIZE, V1_HANDLE_REQUEST_SIZE, V1_HANDLE_VALUES, V1_INFO_CONSUMER, V1_INFO_FLAGS, V1_INFO_NAME, V1_INFO_OFFSET, V1_LINE_INFO_SIZE, V1_VALUES_SIZE}

-- `struct gpioline_info`; the names are whole name fields
pub record LineInfo (bytes : List ℕ) (offset flags : ℕ) (name consumer : List ℕ) : Type 0 where
  pub size : length bytes ≡ V1_LINE_INFO_SIZE
  pub offset_stands : number_at 4 V1_INFO_OFFSET bytes ≡ offset
  pub flags_stand : number_at 4 V1_INFO_FLAGS bytes ≡ flags
  pub name_stands : stretch V1_INFO_NAME NAME_SIZE bytes ≡ name
  pub consumer_stands : stretch V1_INFO_CONSUMER NAME_SIZE bytes ≡ consumer

-- `struct gpiohandle_request`; the offsets are the bytes of all 64, whether `lines` counts them or not
pub record HandleRequest (bytes offsets : List ℕ) (flags : ℕ) (values consumer : List ℕ) (lines : ℕ) (fd : ℤ) : Type 0 where
  pub size : length bytes ≡ V1_HANDLE_REQUEST_SIZE
  pub offsets_stand : stretch V1_HANDLE_OFFSETS V1_HANDLE_OFFSETS_SIZE bytes ≡ offsets
  pub flags_stand : number_at 4 V1_HANDLE_FLAGS bytes ≡ flags
  pub values_stand : stretch V1_HANDLE_VALUES V1_VALUES_SIZE bytes ≡ values
  pub consumer_stands : stretch V1_HANDLE_CONSUMER NAME_SIZE bytes ≡ consumer
  pub lines_stand : number_at 4 V1_HANDLE_LINES bytes ≡ lines
  pub fd_stands : cast_signed w32 (number_at 4 V1_HANDLE_FD bytes) ≡ fd

-- `struct gpiohandle_config`
pub record HandleConfig (bytes : List ℕ) (flags : ℕ) (values padding : List ℕ) : Type 0 where
  pub size : length bytes ≡ V1_HANDLE_CONFIG_SIZE
  pub flags_stand : number_at 4 V1_CONFIG_FLAGS bytes ≡ flags
  pub values_stand : stretch V1_CONFIG_VALUES V1_VALUES_SIZE bytes ≡ values
  pub padding_stands : stretch V1_CONFIG_PADDING 16 bytes ≡ padding

-- `struct gpiohandle_data`
pub record HandleData (bytes values : List ℕ) : Type 0 where
  pub size : length bytes ≡ V1_HANDLE_DATA_SIZE
  pub values_stand : stretch 0 V1_VALUES_SIZE bytes ≡ values

-- `struct gpioevent_request`; the offset is its four bytes
pub record EventRequest (bytes offset : List ℕ) (handle_flags event_flags : ℕ) (consumer : List ℕ) (fd : ℤ) : Type 0 where
  pub size : length bytes ≡ V1_EVENT_REQUEST_SIZE
  pub offset_stands : stretch V1_EVENT_OFFSET REQUEST_OFFSET_SIZE bytes ≡ offset
  pub handle_flags_stand : number_at 4 V1_EVENT_HANDLE_FLAGS bytes ≡ handle_flags
  pub event_flags_stand : number_at 4 V1_EVENT_FLAGS bytes ≡ event_flags
  pub consumer_stands : stretch V1_EVENT_CONSUMER NAME_SIZE bytes ≡ consumer
  pub fd_stands : cast_signed w32 (number_at 4 V1_EVENT_FD bytes) ≡ fd

-- `struct gpioevent_data`
pub record EventData (bytes : List ℕ) (timestamp id : ℕ) (padding : List ℕ) : Type 0 where
  pub size : length bytes ≡ V1_EVENT_DATA_SIZE
  pub timestamp_stands : number_at 8 V1_DATA_TIMESTAMP bytes ≡ timestamp
  pub id_stands : number_at 4 V1_DATA_ID bytes ≡ id
  pub padding_stands : stretch V1_DATA_PADDING 4 bytes ≡ padding
