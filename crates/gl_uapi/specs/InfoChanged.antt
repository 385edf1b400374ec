-- A change of a watched line, `struct gpio_v2_line_info_changed` of `linux/gpio.h`.
use Rattle.std.specs.Prelude.{ℕ, ◌≡◌, ◌^◌, ◌<◌, List, ◌++◌, length, IsTrue}
use Rattle.gl_uapi.specs.declared.info_changes.Changed.{Changed}
use Rattle.gl_uapi.specs.declared.layout.TheConstants.{CHANGED_INFO, CHANGED_KIND, CHANGED_PADDING, CHANGED_PADDING_SIZE, CHANGED_TIMESTAMP, INFO_CHANGED_SIZE, LINE_INFO_SIZE}
use Rattle.gl_uapi.specs.Fields.{is_zero_at, number_at, number_bytes, stretch, zeros}
use Rattle.gl_uapi.specs.LineInfo.{InfoFits, SpellsInfo, info_bytes, info_in}

-- the bytes spell this change
pub record SpellsChanged (bytes : List ℕ) (changed : Changed) : Type 0 where
  pub size : length bytes ≡ INFO_CHANGED_SIZE
  pub info : SpellsInfo (stretch CHANGED_INFO LINE_INFO_SIZE bytes) changed.info
  pub timestamp : number_at 8 CHANGED_TIMESTAMP bytes ≡ changed.timestamp
  pub kind : number_at 4 CHANGED_KIND bytes ≡ changed.kind
  pub padding : IsTrue (is_zero_at CHANGED_PADDING CHANGED_PADDING_SIZE bytes)

-- the bytes of a change
abbrev pub changed_bytes : Changed → List ℕ
changed_bytes changed =
    info_bytes changed.info ++ number_bytes 8 changed.timestamp ++ number_bytes 4 changed.kind ++ zeros CHANGED_PADDING_SIZE

-- the fields of a change have room in their bytes
pub record ChangedFits (changed : Changed) : Type 0 where
  pub info : InfoFits changed.info
  pub timestamp : changed.timestamp < 2 ^ 64
  pub kind : changed.kind < 2 ^ 32

-- the change whose fields stand in the bytes
abbrev pub changed_in : List ℕ → Changed
changed_in bytes = record {
  info = info_in (stretch CHANGED_INFO LINE_INFO_SIZE bytes);
  timestamp = number_at 8 CHANGED_TIMESTAMP bytes;
  kind = number_at 4 CHANGED_KIND bytes;
}
