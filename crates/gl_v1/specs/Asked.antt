-- A request of v2 by its fields, and what stands behind them.
use Rattle.std.specs.Prelude.{ℕ, ◌≡◌, List, length}
use Rattle.gl_uapi.specs.declared.layout.TheConstants.{LINE_CONFIG_SIZE, LINE_REQUEST_SIZE, NAME_SIZE, REQUEST_CONFIG, REQUEST_CONSUMER, REQUEST_EVENT_BUFFER_SIZE, REQUEST_NUM_LINES, REQUEST_OFFSETS}
use Rattle.gl_uapi.specs.Fields.{number_at, stretch, zeros}
use Rattle.gl_uapi.specs.LineConfig.{Config, SpellsConfig}
use Rattle.gl_v1.specs.declared.layout.TheConstants.{V1_HANDLE_OFFSETS_SIZE}

-- The bytes are a request of v2 with these offsets, all 64 as bytes, this consumer, this configuration and this number of
-- lines. What the first uAPI has no field for is zero: the size of the buffer for edges, the padding, and the file's number.
pub record Asks (bytes offsets consumer : List ℕ) (config : Config) (lines : ℕ) : Type 0 where
  pub size : length bytes ≡ LINE_REQUEST_SIZE
  pub offsets_stand : stretch REQUEST_OFFSETS V1_HANDLE_OFFSETS_SIZE bytes ≡ offsets
  pub consumer_stands : stretch REQUEST_CONSUMER NAME_SIZE bytes ≡ consumer
  pub config_stands : SpellsConfig (stretch REQUEST_CONFIG LINE_CONFIG_SIZE bytes) config
  pub lines_stand : number_at 4 REQUEST_NUM_LINES bytes ≡ lines
  pub others : stretch REQUEST_EVENT_BUFFER_SIZE 28 bytes ≡ zeros 28
