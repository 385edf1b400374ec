-- A request for lines, `struct gpio_v2_line_request` of `linux/gpio.h`.
use Rattle.std.specs.Prelude.{ℕ, ℤ, ◌≡◌, ◌+◌, ◌*◌, ◌<◌, List, length, map, slice_index}
use Rattle.std.specs.Int.{cast_signed, w32}
use Rattle.gl_base.specs.declared.limits.TheConstants.{LINES_PER_REQUEST}
use Rattle.gl_uapi.specs.declared.layout.TheConstants.{LINE_CONFIG_SIZE, LINE_REQUEST_SIZE, NAME_SIZE, REQUEST_CONFIG, REQUEST_CONSUMER, REQUEST_EVENT_BUFFER_SIZE, REQUEST_FD, REQUEST_NUM_LINES, REQUEST_OFFSETS, REQUEST_OFFSET_SIZE, REQUEST_PADDING, REQUEST_PADDING_SIZE}
use Rattle.gl_uapi.specs.Fields.{number_at, stretch, stretches}
use Rattle.gl_uapi.specs.LineConfig.{Config, SpellsConfig, config_in}

-- A request, with each of its 64 offsets, whether `num_lines` counts it or not. The consumer is the whole
-- name field.
pub record Request : Type 0 where
  pub offsets : List ℕ
  pub consumer : List ℕ
  pub config : Config
  pub num_lines : ℕ
  pub event_buffer_size : ℕ
  pub padding : List ℕ
  pub fd : ℤ

-- the bytes spell this request
pub record SpellsRequest (bytes : List ℕ) (request : Request) : Type 0 where
  pub size : length bytes ≡ LINE_REQUEST_SIZE
  pub sixty_four : length request.offsets ≡ LINES_PER_REQUEST
  pub offsets : (i : ℕ) → i < LINES_PER_REQUEST → number_at 4 (REQUEST_OFFSETS + REQUEST_OFFSET_SIZE * i) bytes ≡ slice_index request.offsets i
  pub consumer : stretch REQUEST_CONSUMER NAME_SIZE bytes ≡ request.consumer
  pub config : SpellsConfig (stretch REQUEST_CONFIG LINE_CONFIG_SIZE bytes) request.config
  pub num_lines : number_at 4 REQUEST_NUM_LINES bytes ≡ request.num_lines
  pub event_buffer_size : number_at 4 REQUEST_EVENT_BUFFER_SIZE bytes ≡ request.event_buffer_size
  pub padding : stretch REQUEST_PADDING REQUEST_PADDING_SIZE bytes ≡ request.padding
  pub fd : cast_signed w32 (number_at 4 REQUEST_FD bytes) ≡ request.fd

-- the request whose fields stand in the bytes
abbrev pub request_in : List ℕ → Request
request_in bytes = record {
  offsets = map (number_at 4 0) (stretches REQUEST_OFFSET_SIZE REQUEST_OFFSETS LINES_PER_REQUEST bytes);
  consumer = stretch REQUEST_CONSUMER NAME_SIZE bytes;
  config = config_in (stretch REQUEST_CONFIG LINE_CONFIG_SIZE bytes);
  num_lines = number_at 4 REQUEST_NUM_LINES bytes;
  event_buffer_size = number_at 4 REQUEST_EVENT_BUFFER_SIZE bytes;
  padding = stretch REQUEST_PADDING REQUEST_PADDING_SIZE bytes;
  fd = cast_signed w32 (number_at 4 REQUEST_FD bytes);
}
